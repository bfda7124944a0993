-- A web identity, a command and roles give credentials over answers of use.
use Rattle.std.proofs.Common.{◌≡◌, ℕ, List, [], ◌∷◌, true, Option, Some, None, Result, Ok, Err, refl, ap, ◌∙◌}
use Rattle.std.specs.Prelude.{pos, is_ok, if◌then◌else◌}
use Rattle.std.specs.Ordering.{int_eq}
use Rattle.cfg_types.specs.Keys.{Keys}
use Rattle.cfg_types.specs.Replies.{sts_in}
use Rattle.cfg_types.specs.declared.command.Finished.{Finished}
use Rattle.cfg_types.specs.declared.errors.CredentialsError.{CredentialsError}
use Rattle.cfg_types.specs.declared.errors.process.ProcessCause.TheVariants as cause
use Rattle.cfg_types.specs.declared.request.Request.TheVariants as sent
use Rattle.cfg_types.specs.declared.document.InvalidJsonCredentials.{InvalidJsonCredentials}
use Rattle.cfg_types.specs.declared.settings.CallSettings.{CallSettings}
use Rattle.cfg_world.specs.declared.ask.Question.TheVariants as question
use Rattle.cfg_world.specs.declared.ask.Answer.{Answer as Given}
use Rattle.cfg_world.specs.declared.ask.Answer.TheVariants as answer
use Rattle.cfg_world.specs.Leaves.{reading_file, running, assuming, assuming_by_web_identity, contents_of, finished_of, granted_of}
use Rattle.cfg_profile.specs.declared.chain.RoleArn.{RoleArn}
use Rattle.cfg_profile.specs.Configuration.{Configuration}
use Rattle.cfg_providers.specs.declared.web_identity_token.WebIdentity.{WebIdentity}
use Rattle.cfg_providers.specs.declared.web_identity_token.SessionPolicies.{SessionPolicies}
use Rattle.cfg_providers.specs.AssumeRole as role
use Rattle.cfg_providers.specs.AssumeRole.{role_session, granted, in_role, exchange, assumes, assumes_roles}
use Rattle.cfg_providers.specs.ProcessDocuments.{process_document}
use Rattle.cfg_providers.specs.Processes.{or_no_document, output_credentials, or_process_error, process_answer, credential_process}
use Rattle.cfg_providers.specs.SessionNames.{session_name}
use Rattle.cfg_json.specs.Reading.{utf8_of}
use Rattle.cfg_providers.specs.Utf8.{text_in}
use Rattle.cfg_providers.specs.WebIdentities.{request, or_not_utf8, token_in, identity_token, identity_answer, with_token, with_name, assumes_by_web_identity}
use Rattle.cfg_chain.specs.Valid.{Contents, IsText, IsPrinted, HasPrinted}
use Rattle.cfg_chain.proofs.UsableEntries.{Succeeds, IsQuiet, done_quiet, done_succeeds, ask_succeeds, behind_succeeds, after_succeeds, then_succeeds}
use Rattle.cfg_chain.proofs.UsableReplies.{granted_fine, identity_fine}

-- ---- a web identity

text_fine : (file : List ℕ) (held : Contents) → IsText held → is_ok (token_in file held) ≡ true
unfolding token_in utf8_of
text_fine file (Ok bytes) h = ap (λ b. is_ok (or_not_utf8 (if b then Some bytes else None))) h
text_fine file (Err kind) h = absurd h

token_succeeds : (file : List ℕ) → Succeeds IsText (identity_token file)
unfolding identity_token reading_file
token_succeeds file = ask_succeeds IsText (question.Read file) (λ a. token_in file (contents_of a)) (λ a u. text_fine file (contents_of a) u)

module _ (conf : Configuration) (identity : WebIdentity) (policies : SessionPolicies) where
  refused_quiet : (name : List ℕ) (e : CredentialsError) → IsQuiet (with_token conf identity policies name (Err e))
  unfolding with_token
  refused_quiet name e = done_quiet (Err e)

  request_succeeds : (name token : List ℕ) → Succeeds IsText (with_token conf identity policies name (Ok token))
  unfolding with_token assuming_by_web_identity
  request_succeeds name token =
      ask_succeeds IsText (question.Send (sent.AssumeRoleWithWebIdentity (request conf identity policies name token)))
      (λ a. identity_answer (granted_of sts_in a)) (λ a u. identity_fine (granted_of sts_in a) u)

  name_succeeds : (name : List ℕ) → Succeeds IsText (with_name conf identity policies name)
  name_succeeds name =
      after_succeeds IsText (identity_token identity.web_identity_token_file) (with_token conf identity policies name)
      (token_succeeds identity.web_identity_token_file) (refused_quiet name) (request_succeeds name)

  pub identity_succeeds : (base : List ℕ) → Succeeds IsText (assumes_by_web_identity conf base identity policies)
  unfolding assumes_by_web_identity
  identity_succeeds base = behind_succeeds IsText (session_name base identity.session_name) (with_name conf identity policies) name_succeeds

-- ---- a command

document_fine : (r : Result Keys InvalidJsonCredentials) → is_ok r ≡ true → is_ok (or_process_error (or_no_document r)) ≡ true
document_fine (Ok keys) h = refl
document_fine (Err e) h = h

printed_fine : (account : Option (List ℕ)) (f : Finished) → HasPrinted f → is_ok (process_answer account (Ok f)) ≡ true
unfolding process_answer utf8_of
printed_fine account f h =
    ap (λ n. is_ok (or_process_error (if int_eq n (pos 0) then output_credentials account (utf8_of f.output) else Err (cause.Status f.status (text_in f.errors))))) h.ended
    ∙ ap (λ b. is_ok (or_process_error (output_credentials account (if b then Some f.output else None)))) h.text
    ∙ document_fine (process_document f.output account) (h.document account)

process_fine : (account : Option (List ℕ)) (a : Given) → IsPrinted a → is_ok (process_answer account (finished_of a)) ≡ true
process_fine account (answer.Finished f) h = printed_fine account f h
process_fine account _ h = absurd h

pub process_succeeds : (Files : Contents → Type 0) (command : List ℕ) (account : Option (List ℕ)) → Succeeds Files (credential_process command account)
unfolding credential_process running
process_succeeds Files command account = ask_succeeds Files (question.Run command) (λ a. process_answer account (finished_of a)) (process_fine account)

-- ---- roles

in_role_fine : (r : Result Keys CredentialsError) → is_ok r ≡ true → is_ok (in_role r) ≡ true
in_role_fine (Ok keys) h = refl
in_role_fine (Err e) h = h

exchange_succeeds : (settings : CallSettings) (Files : Contents → Type 0) (assumed : RoleArn) (signer : Keys) (name : List ℕ) → Succeeds Files (exchange settings assumed signer name)
unfolding assuming
exchange_succeeds settings Files assumed signer name =
    ask_succeeds Files (question.Send (sent.AssumeRole (role.request settings assumed signer name))) (λ a. in_role (granted (granted_of sts_in a)))
    (λ a u. in_role_fine (granted (granted_of sts_in a)) (granted_fine (granted_of sts_in a) u))

assumes_succeeds : (settings : CallSettings) (Files : Contents → Type 0) (signer : Keys) (assumed : RoleArn) → Succeeds Files (assumes settings signer assumed)
unfolding assumes
assumes_succeeds settings Files signer assumed = behind_succeeds Files (session_name role_session assumed.session_name) (exchange settings assumed signer) (exchange_succeeds settings Files assumed signer)

pub roles_succeed : (settings : CallSettings) (Files : Contents → Type 0) (roles : List RoleArn) (signer : Keys) → Succeeds Files (assumes_roles settings roles signer)
unfolding assumes_roles
roles_succeed settings Files [] signer = done_succeeds Files (Ok signer) refl
roles_succeed settings Files (assumed ∷ roles) signer =
    then_succeeds Files (assumes settings signer assumed) (assumes_roles settings roles) (assumes_succeeds settings Files signer assumed) (λ keys. roles_succeed settings Files roles keys)
