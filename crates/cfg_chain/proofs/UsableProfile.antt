-- A profile whose base has something to give gives credentials over answers of use.
use Rattle.std.proofs.Common.{◌≡◌, ℕ, List, ◌++◌, Bool, true, false, Option, Some, None, Result, Ok, Err, inl, inr, refl, sym, ap, subst}
use Rattle.std.specs.Prelude.{is_ok, IsSome, codes, if◌then◌else◌}
use Rattle.cfg_types.specs.Environment.{Variables}
use Rattle.cfg_types.specs.Keys.{Keys}
use Rattle.cfg_types.specs.declared.errors.CredentialsError.{CredentialsError}
use Rattle.cfg_world.specs.Fits.{Pair}
use Rattle.cfg_world.specs.Inquiry.{Inquiry}
use Rattle.cfg_kept.specs.Beginnings.{IsPrefix}
use Rattle.cfg_kept.specs.Kinds.{Value}
use Rattle.cfg_kept.specs.KeptInquiry.{KeptInquiry, Gives, Reads, lift, onwards_if_ok}
use Rattle.cfg_kept.proofs.Splits.{lowered, split_onwards}
use Rattle.cfg_imds_credentials.specs.Settings.{MetadataSetting}
use Rattle.cfg_imds_credentials.specs.Metadata.{metadata, or_found}
use Rattle.cfg_imds_credentials.specs.Causes.{retrieved_in, why_nothing, AnswersBy}
use Rattle.cfg_imds_credentials.proofs.Given.{given_is, whole_part}
use Rattle.cfg_imds_credentials.proofs.Reasons.{has_cause as metadata_cause}
use Rattle.cfg_imds_credentials.proofs.Validity.{valid_gives}
use Rattle.cfg_login.specs.declared.asked_by.AskedBy.TheVariants as by
use Rattle.cfg_login.proofs.SignInCauses.{sign_in_cause}
use Rattle.cfg_login.proofs.InTime.{nothing_in_the_way as sign_in_succeeds}
use Rattle.cfg_kept.proofs.CallParts.{given_then}
use Rattle.cfg_sso.proofs.SsoCauses.{sso_cause}
use Rattle.cfg_sso.proofs.InTime.{nothing_in_the_way}
use Rattle.cfg_profile.specs.declared.chain.BaseProvider.{BaseProvider}
use Rattle.cfg_profile.specs.declared.chain.BaseProvider.TheVariants as base
use Rattle.cfg_profile.specs.declared.chain.ProfileChain.{ProfileChain}
use Rattle.cfg_profile.specs.NamedSources.{is_alike}
use Rattle.cfg_profile.specs.Settings.{settings_of}
use Rattle.cfg_providers.specs.declared.web_identity_token.WebIdentity.{WebIdentity}
use Rattle.cfg_providers.specs.AssumeRole.{assumes_roles}
use Rattle.cfg_providers.specs.CustomSources.{Answer, last_named}
use Rattle.cfg_providers.specs.EnvironmentKeys.{environment, by_environment}
use Rattle.cfg_providers.specs.Processes.{credential_process}
use Rattle.cfg_providers.specs.WebIdentities.{no_policies, assumes_by_web_identity}
use Rattle.cfg_chain.specs.Settings.{Setting, named_metadata}
use Rattle.cfg_chain.specs.profile.Bases.{by_container, unknown_source, built_in_source, source_or, named_source, profile_session, signed_on, base_tree, in_base, based}
use Rattle.cfg_chain.specs.profile.Causes.{of_base}
use Rattle.cfg_chain.specs.profile.Profiles.{marked, assumed, follows_planned}
use Rattle.cfg_chain.specs.Valid.{Contents, IsText, HoldsHeaderValue, AreOfUse, GivesMetadata, IsBuiltInBy, IsSource, IsBase, IsFileOfBase}
use Rattle.cfg_chain.proofs.UsableEntries.{Succeeds, done_succeeds, read_succeeds, rest_of_use, no_success}
use Rattle.cfg_chain.proofs.UsableContainer.{container_succeeds}
use Rattle.cfg_chain.proofs.UsableEnvironment.{keys_given}
use Rattle.cfg_chain.proofs.UsableIdentities.{identity_succeeds, process_succeeds, roles_succeed}

-- over answers of use the tree comes to a success, where this is asked of files, and nothing else stands in its way;
-- what it finds and asks begins these values and this journal
abbrev pub KeptSucceeds : {E : Type 0} → (Contents → Type 0) → KeptInquiry (Result Keys E) → (List Value → List Pair → Type 0) → Type 0
KeptSucceeds {E} Files p Fine = (found whole : List Value) (part journal : List Pair) (out : Result Keys E) → IsPrefix found whole → IsPrefix part journal → Reads p found part out → AreOfUse Files part → Fine whole journal → is_ok out ≡ true

module _ (s : Setting) where
  abbrev env : Variables
  env = s.configuration.environment

  quiet_succeeds : (given : Answer) (found : List Value) (part : List Pair) (out : Answer) → is_ok given ≡ true → Reads (Gives given) found part out → is_ok out ≡ true
  quiet_succeeds given found part out fine h = subst (λ x. is_ok x ≡ true) (given_is given out found part h).2 fine

  lifted_succeeds : (Files : Contents → Type 0) (p : Inquiry Answer) (found : List Value) (part : List Pair) (out : Answer) → Succeeds Files p → Reads (lift p) found part out → AreOfUse Files part → is_ok out ≡ true
  lifted_succeeds Files p found part out fine h uses = fine part out (lowered p found part out h).1 uses

  -- ---- instance metadata

  -- retrieved credentials that were found are answered, at the worst
  found_answers : (why : Option CredentialsError) (kept : Option Keys) (out : Answer) → IsSome kept → AnswersBy why kept out → is_ok out ≡ true
  unfolding or_found
  found_answers None kept out there h = h
  found_answers (Some e) (Some keys) out there h = ap is_ok (sym h)
  found_answers (Some e) None out there h = no_success there

  pub metadata_succeeds : (m : MetadataSetting) → KeptSucceeds HoldsHeaderValue (metadata m) (GivesMetadata m)
  metadata_succeeds m found whole part journal out begins starts h uses gives = elim (gives found part out begins starts h) [
    | inl kept ↦ found_answers (why_nothing m part) (retrieved_in found) out kept (metadata_cause m found part out h)
    | inr valid ↦ valid_gives m found part out h valid
  ]

  -- ---- the sources

  choose : (b d m : Bool) (name : List ℕ) (found whole : List Value) (part journal : List Pair) (out : Answer) → IsPrefix found whole → IsPrefix part journal →
      Reads (if b then lift (by_environment env) else (if d then lift (by_container s.configuration s.container) else (if m then metadata (named_metadata s) else Gives (unknown_source name)))) found part out →
      AreOfUse HoldsHeaderValue part → IsBuiltInBy s b d m whole journal → is_ok out ≡ true
  choose true d m name found whole part journal out begins starts h uses fine =
      lifted_succeeds HoldsHeaderValue (by_environment env) found part out (done_succeeds HoldsHeaderValue (environment env) (keys_given env fine)) h uses
  choose false true m name found whole part journal out begins starts h uses fine = lifted_succeeds HoldsHeaderValue (by_container s.configuration s.container) found part out (container_succeeds s fine) h uses
  choose false false true name found whole part journal out begins starts h uses fine = metadata_succeeds (named_metadata s) found whole part journal out begins starts h uses fine
  choose false false false name found whole part journal out begins starts h uses fine = absurd fine

  source_succeeds : (name : List ℕ) (own : Option Answer) → KeptSucceeds HoldsHeaderValue (source_or (built_in_source s name) own) (IsSource s name own)
  unfolding built_in_source
  source_succeeds name (Some given) found whole part journal out begins starts h uses fine = quiet_succeeds given found part out fine h
  source_succeeds name None found whole part journal out begins starts h uses fine =
      choose (is_alike name (codes "Environment")) (is_alike name (codes "EcsContainer")) (is_alike name (codes "Ec2InstanceMetadata")) name found whole part journal out begins starts h uses fine

  -- ---- the bases

  base_succeeds : (b : BaseProvider) → KeptSucceeds (IsFileOfBase b) (base_tree s b) (IsBase s b)
  unfolding base_tree named_source
  base_succeeds (base.AccessKey keys) found whole part journal out begins starts h uses fine = quiet_succeeds (Ok keys) found part out refl h
  base_succeeds (base.NamedSource name) found whole part journal out begins starts h uses fine = source_succeeds name (last_named name s.sources) found whole part journal out begins starts h uses fine
  base_succeeds (base.WebIdentityTokenRole arn file session) found whole part journal out begins starts h uses fine =
      let identity : WebIdentity = record { web_identity_token_file = file; role_arn = arn; session_name = session } in
      lifted_succeeds IsText (assumes_by_web_identity s.configuration profile_session identity no_policies) found part out (identity_succeeds s.configuration identity no_policies profile_session) h uses
  base_succeeds (base.CredentialProcess command account) found whole part journal out begins starts h uses fine =
      lifted_succeeds (IsFileOfBase (base.CredentialProcess command account)) (credential_process command account) found part out (process_succeeds (IsFileOfBase (base.CredentialProcess command account)) command account) h uses
  base_succeeds (base.Sso session region url (Some account) (Some role)) found whole part journal out begins starts h uses fine =
      let sso = signed_on session region url account role in
      let cause = sso_cause s.configuration sso found part out h in
      nothing_in_the_way s.configuration sso found part out cause (fine found part out begins starts cause)
  base_succeeds (base.Sso session region url (Some account) None) found whole part journal out begins starts h uses fine = absurd fine
  base_succeeds (base.Sso session region url None (Some role)) found whole part journal out begins starts h uses fine = absurd fine
  base_succeeds (base.Sso session region url None None) found whole part journal out begins starts h uses fine = absurd fine
  base_succeeds (base.LoginSession session) found whole part journal out begins starts h uses fine =
      sign_in_succeeds s.configuration session by.Profile found part out (sign_in_cause s.configuration session by.Profile found part out h) (fine found part out begins starts h)

  in_base_fine : (keys : Keys) → is_ok (in_base (Ok keys)) ≡ true
  unfolding in_base
  in_base_fine keys = refl

  marked_fine : (keys : Keys) → is_ok (marked (Ok keys)) ≡ true
  unfolding marked
  marked_fine keys = refl

  assumed_succeeds : (Files : Contents → Type 0) (p : ProfileChain) (keys : Keys) → Succeeds Files (assumed s.configuration p.roles keys)
  unfolding assumed
  assumed_succeeds Files p keys = read_succeeds Files (assumes_roles (settings_of s.configuration) p.roles keys) marked (roles_succeed (settings_of s.configuration) Files p.roles keys) marked_fine

  by_given : (p : ProfileChain) (given out : Answer) (found first_found then_found : List Value) (part first rest : List Pair) → found ≡ first_found ++ then_found → part ≡ first ++ rest →
      Reads (base_tree s p.base) first_found first given → Reads (onwards_if_ok (λ keys. lift (assumed s.configuration p.roles keys)) (in_base given)) then_found rest out →
      AreOfUse (IsFileOfBase p.base) part → IsBase s p.base found part → is_ok out ≡ true
  unfolding in_base
  by_given p (Ok keys) out found first_found then_found part first rest finds parts reads behind uses fine =
      lifted_succeeds (IsFileOfBase p.base) (assumed s.configuration p.roles keys) then_found rest out (assumed_succeeds (IsFileOfBase p.base) p keys) behind
      (rest_of_use (IsFileOfBase p.base) first rest (subst (AreOfUse (IsFileOfBase p.base)) parts uses))
  by_given p (Err e) out found first_found then_found part first rest finds parts reads behind uses fine =
      let alone = whole_part part first rest parts (given_is (Err (of_base e)) out then_found rest behind).1 in
      no_success (base_succeeds p.base first_found found first part (Err e) (then_found, finds) (rest, parts) reads (subst (AreOfUse (IsFileOfBase p.base)) alone uses) fine)

  pub plan_succeeds : (p : ProfileChain) (found : List Value) (part : List Pair) (out : Answer) → Reads (follows_planned s p) found part out → AreOfUse (IsFileOfBase p.base) part → IsBase s p.base found part → is_ok out ≡ true
  unfolding follows_planned based
  plan_succeeds p found part out h uses fine =
      let r = split_onwards (based s p.base) (onwards_if_ok (λ keys. lift (assumed s.configuration p.roles keys))) found part out h in
      let b = given_then (base_tree s p.base) in_base r.found_first r.part r.middle r.first in
      by_given p b.0 out found r.found_first r.found_then part r.part r.rest r.finds r.parts b.1
      (subst (λ m. Reads (onwards_if_ok (λ keys. lift (assumed s.configuration p.roles keys)) m) r.found_then r.rest out) b.2 r.then) uses fine
