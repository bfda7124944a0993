-- The error of web identity, by the last entry of its part.
use Rattle.std.proofs.Common.{◌≡◌, ℕ, List, [], ◌∷◌, Option, Some, None, Result, Ok, Err, refl, sym, ap, ◌∙◌}
use Rattle.std.specs.Prelude.{option_and_then}
use Rattle.std.specs.List.{last_or}
use Rattle.std.specs.Result.{result_err}
use Rattle.cfg_types.specs.Keys.{Keys}
use Rattle.cfg_types.specs.Replies.{sts_in}
use Rattle.cfg_types.specs.declared.errors.CredentialsError.{CredentialsError}
use Rattle.cfg_types.specs.declared.reply.sts.StsReply.{StsReply}
use Rattle.cfg_world.specs.declared.ask.Answer.{Answer}
use Rattle.cfg_world.specs.declared.ask.Answer.TheVariants as answer
use Rattle.cfg_world.specs.declared.leaves.NotGranted.{NotGranted}
use Rattle.cfg_world.specs.declared.leaves.NotGranted.TheVariants.{Failed, Refused}
use Rattle.cfg_world.specs.Fits.{Pair}
use Rattle.cfg_world.specs.Inquiry.{Reads, after}
use Rattle.cfg_world.specs.Leaves.{clock, reading_file, assuming_by_web_identity, contents_of, granted_of}
use Rattle.cfg_profile.specs.Configuration.{Configuration}
use Rattle.cfg_providers.specs.declared.web_identity_token.WebIdentity.{WebIdentity}
use Rattle.cfg_providers.specs.declared.web_identity_token.StaticConfiguration.{StaticConfiguration}
use Rattle.cfg_providers.specs.declared.web_identity_token.SessionPolicies.{SessionPolicies}
use Rattle.cfg_providers.specs.SessionNames.{session_name}
use Rattle.cfg_json.specs.Reading.{utf8_of}
use Rattle.cfg_providers.specs.WebIdentities.{identity_of, or_not_utf8, token_in, identity_token, marked, identity_answer, with_token, with_name, assumes_by_web_identity, by_identity, web_identity, why_text, why_file, why_granted, why_answer, why_entry, why_web_identity, why_identity}

text_cause : (text : Option (List ℕ)) → result_err (or_not_utf8 text) ≡ why_text text
text_cause None = refl
text_cause (Some text) = refl

file_cause : (file : List ℕ) (given : Answer) → result_err (token_in file (contents_of given)) ≡ why_file file given
unfolding token_in
file_cause file (answer.Contents bytes) = text_cause (utf8_of bytes)
file_cause file (answer.Finished f) = refl
file_cause file (answer.Moment m) = refl
file_cause file (answer.Jitter n) = refl
file_cause file answer.Written = refl
file_cause file (answer.Addresses addresses) = refl
file_cause file (answer.Replied reply) = refl
file_cause file (answer.Failed kind) = refl

reply_cause : (r : Result Keys CredentialsError) → result_err (marked r) ≡ result_err r
reply_cause (Ok keys) = refl
reply_cause (Err e) = refl

granted_cause : (given : Result StsReply NotGranted) → result_err (identity_answer given) ≡ why_granted given
unfolding identity_answer
granted_cause (Err (Failed kind)) = refl
granted_cause (Err (Refused refusal)) = refl
granted_cause (Ok reply) = reply_cause _

module _ (conf : Configuration) (identity : WebIdentity) (policies : SessionPolicies) where
  -- behind the file
  behind_file : (name : List ℕ) (e : Pair) (token : Result (List ℕ) CredentialsError) → result_err token ≡ why_entry e →
      (rest : List Pair) (out : Result Keys CredentialsError) → Reads (with_token conf identity policies name token) rest out →
      result_err out ≡ option_and_then why_entry (last_or (Some e) rest)
  unfolding with_token assuming_by_web_identity
  behind_file name e (Err x) is [] out h = ap result_err (sym h) ∙ is
  behind_file name e (Err x) is (f ∷ rest) out h = absurd h
  behind_file name e (Ok token) is [] out h = absurd h
  behind_file name e (Ok token) is (f ∷ []) out h =
      ap result_err (sym h.1) ∙ granted_cause (granted_of sts_in f.1) ∙ ap (λ q. why_answer q f.1) (sym h.0)
  behind_file name e (Ok token) is (f ∷ g ∷ rest) out h = absurd h.1

  -- behind the name
  behind_name : (name : List ℕ) (before : Option Pair) (part : List Pair) (out : Result Keys CredentialsError) → Reads (with_name conf identity policies name) part out →
      result_err out ≡ option_and_then why_entry (last_or before part)
  unfolding identity_token reading_file
  behind_name name before [] out h = absurd h
  behind_name name before (e ∷ rest) out h =
      behind_file name e (token_in identity.web_identity_token_file (contents_of e.1))
      (file_cause identity.web_identity_token_file e.1 ∙ ap (λ q. why_answer q e.1) (sym h.0)) rest out h.1

  by_name : (base : List ℕ) (given : Option (List ℕ)) (part : List Pair) (out : Result Keys CredentialsError) → Reads (after (session_name base given) (with_name conf identity policies)) part out →
      result_err out ≡ option_and_then why_entry (last_or None part)
  unfolding session_name clock
  by_name base (Some name) part out h = behind_name name None part out h
  by_name base None [] out h = absurd h
  by_name base None (e ∷ part) out h = behind_name _ (Some e) part out h.1

  pub assumed_cause : (base : List ℕ) (part : List Pair) (out : Result Keys CredentialsError) → Reads (assumes_by_web_identity conf base identity policies) part out →
      result_err out ≡ option_and_then why_entry (last_or None part)
  unfolding assumes_by_web_identity
  assumed_cause base part out h = by_name base identity.session_name part out h

identity_cause : (conf : Configuration) (policies : SessionPolicies) (identity : Result WebIdentity CredentialsError) (part : List Pair) (out : Result Keys CredentialsError) →
    Reads (by_identity conf policies identity) part out → result_err out ≡ why_identity identity part
identity_cause conf policies (Err e) [] out h = ap result_err (sym h)
identity_cause conf policies (Err e) (x ∷ part) out h = absurd h
identity_cause conf policies (Ok identity) part out h = assumed_cause conf identity policies _ part out h

pub web_identity_cause : (conf : Configuration) (given : Option StaticConfiguration) (policies : SessionPolicies) (part : List Pair) (out : Result Keys CredentialsError) →
    Reads (web_identity conf given policies) part out → result_err out ≡ why_web_identity conf given part
unfolding web_identity
web_identity_cause conf given policies part out h = identity_cause conf policies (identity_of conf.environment given) part out h
