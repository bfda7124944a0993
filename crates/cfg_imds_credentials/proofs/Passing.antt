-- Where a provider of metadata credentials is passed over.
use Rattle.std.proofs.Common.{◌≡◌, ◌⊎◌, inl, inr, ℕ, List, [], Bool, true, false, Option, Some, None, refl, sym, ap, ◌∙◌, subst}
use Rattle.std.specs.Prelude.{Ok, Err, IsOk, IsSome, option_map, codes, if◌then◌else◌}
use Rattle.std.specs.Result.{result_err}
use Rattle.std.specs.Str.{bytes_eq}
use denote.Hole.Carrier as carrier
use Rattle.cfg_types.specs.Classes.{is_of_class, is_not_loaded_answer}
use Rattle.cfg_types.specs.Keys.{Keys}
use Rattle.cfg_types.specs.declared.errors.Class.TheVariants as class
use Rattle.cfg_types.specs.declared.errors.CredentialsError as errors
use Rattle.cfg_types.specs.declared.errors.CredentialsError.{CredentialsError}
use Rattle.cfg_types.specs.declared.errors.CredentialsError.TheVariants.{CredentialsNotLoaded, InvalidConfiguration, ProviderError}
use Rattle.cfg_types.specs.declared.errors.ConfigCause.TheVariants.{MetadataRole}
use Rattle.cfg_types.specs.declared.errors.ProviderCause.TheVariants.{ErrorDocument}
use Rattle.cfg_types.specs.declared.errors.NotLoadedCause.{NotLoadedCause}
use Rattle.cfg_types.specs.declared.errors.NotLoadedCause.TheVariants.{MetadataDisabled}
use Rattle.cfg_types.specs.declared.errors.imds.ImdsError.{ImdsError}
use Rattle.cfg_world.specs.Fits.{Pair}
use Rattle.cfg_imds.specs.Causes.{why_no_text}
use Rattle.cfg_imds.specs.Clients.{ClientRules}
use Rattle.cfg_imds.specs.Fetches.{entry_text}
use Rattle.cfg_json.specs.Documents.{Read}
use Rattle.cfg_json.specs.declared.credentials.JsonCredentials.{JsonCredentials}
use Rattle.cfg_json.specs.declared.credentials.JsonCredentials.TheVariants as says
use Rattle.cfg_kept.specs.Kinds.{Value}
use Rattle.cfg_kept.specs.KeptInquiry.{Gives, Reads}
use Rattle.cfg_kept.specs.RoleDocuments.{refused_role, said_role, get_document, role_document}
use Rattle.cfg_kept.proofs.Splits.{split_onwards}
use Rattle.cfg_providers.specs.CustomSources.{Answer}
use Rattle.cfg_imds_credentials.specs.Settings.{MetadataSetting}
use Rattle.cfg_imds_credentials.specs.Metadata.{listing_path, role_path, get_error, absence, listing_error_by, listing_error, retrieves, unless_disabled, or_found, settled, metadata}
use Rattle.cfg_imds_credentials.specs.Causes.{first_text, why_document, why_role_by, why_listed_by, why_by_role, why_nothing, retrieved_in, AnswersBy}
use Rattle.cfg_imds_credentials.specs.PassedOver.{IsUnlisted, IsPassedOver}
use Rattle.cfg_imds_credentials.proofs.Given.{given_is, whole_part}
use Rattle.cfg_imds_credentials.proofs.Reasons.{settled_answers, has_cause}

abbrev is_not_loaded : CredentialsError → Bool
is_not_loaded e = is_of_class class.CredentialsNotLoaded e

abbrev IsNotLoaded : Option CredentialsError → Type 0
IsNotLoaded None = ⊥
IsNotLoaded (Some e) = is_not_loaded e ≡ true

clash : {X : Type 0} → false ≡ true → X
clash h = absurd (differ h)
  where
    differ : false ≡ true → ⊥
    differ e = absurd cc

-- ---- a document never passes

by_code : (b : Bool) (x y : CredentialsError) → is_not_loaded x ≡ false → is_not_loaded y ≡ false → is_not_loaded (if b then x else y) ≡ false
by_code true x y h k = h
by_code false x y h k = k

refused_stays : (code message : List ℕ) → is_not_loaded (refused_role code message) ≡ false
unfolding errors.out-CredentialsError carrier.out
refused_stays code message = by_code (bytes_eq code (codes "AssumeRoleUnauthorizedAccess")) (InvalidConfiguration (MetadataRole code message)) (ProviderError (ErrorDocument code message)) refl refl

said_stays : (said : Read JsonCredentials) → IsNotLoaded (result_err (said_role said)) → ⊥
unfolding errors.out-CredentialsError carrier.out
said_stays (Ok (says.RefreshableCredentials id secret token account end)) h = h
said_stays (Ok (says.Error code message)) h = clash (sym (refused_stays code message) ∙ h)
said_stays (Err e) h = clash h

document_stays : (text : Pair) → IsNotLoaded (why_document text) → ⊥
unfolding role_document
document_stays text h = said_stays (get_document text) h

error_stays : (e : Option ImdsError) → IsNotLoaded (option_map get_error e) → ⊥
unfolding errors.out-CredentialsError carrier.out
error_stays None h = h
error_stays (Some e) h = clash h

role_stays_by : (client : ClientRules) (path : List ℕ) (part : List Pair) (text : Option (Pair × List Pair)) → IsNotLoaded (why_role_by client path part text) → ⊥
role_stays_by client path part None h = error_stays (why_no_text client path part) h
role_stays_by client path part (Some text) h = document_stays text.0 h

-- ---- a listing

absent_by : (e : ImdsError) (reason : Option NotLoadedCause) → is_not_loaded (listing_error_by e reason) ≡ true → IsSome reason
unfolding errors.out-CredentialsError carrier.out
absent_by e (Some reason) h = refl
absent_by e None h = clash h

unlisted_fault : (s : MetadataSetting) (part : List Pair) (fault : Option ImdsError) → why_no_text s.client listing_path part ≡ fault → s.disabled ≡ false → s.role ≡ None → first_text part ≡ None →
    IsNotLoaded (option_map listing_error fault) → IsUnlisted s part
unlisted_fault s part None is enabled role nothing h = absurd h
unlisted_fault s part (Some e) is enabled role nothing h = record { enabled = enabled; role = role; nothing = nothing; fault = e; is = is; absent = absent_by e (absence e) h }

unlisted_by : (s : MetadataSetting) (part : List Pair) (text : Option (Pair × List Pair)) → first_text part ≡ text → s.disabled ≡ false → s.role ≡ None → IsNotLoaded (why_listed_by s.client part text) → IsUnlisted s part
unlisted_by s part None nothing enabled role h = unlisted_fault s part (why_no_text s.client listing_path part) refl enabled role nothing h
unlisted_by s part (Some text) is enabled role h = absurd (role_stays_by s.client (role_path (entry_text text.0)) text.1 (first_text text.1) h)

unlisted_role : (s : MetadataSetting) (part : List Pair) (role : Option (List ℕ)) → s.role ≡ role → s.disabled ≡ false → IsNotLoaded (why_by_role s.client role part) → IsUnlisted s part
unlisted_role s part (Some role) is enabled h = absurd (role_stays_by s.client (role_path role) part (first_text part) h)
unlisted_role s part None is enabled h = unlisted_by s part (first_text part) refl enabled is h

abbrev LineBy : MetadataSetting → List Pair → Type 0
LineBy s part = ((s.disabled ≡ true) × (part ≡ [])) ⊎ IsUnlisted s part

line_by : (s : MetadataSetting) (part : List Pair) (b : Bool) → s.disabled ≡ b → (s.disabled ≡ true → part ≡ []) →
    IsNotLoaded (if b then Some (CredentialsNotLoaded MetadataDisabled) else why_by_role s.client s.role part) → LineBy s part
line_by s part true is quiet h = inl (is, quiet is)
line_by s part false is quiet h = inr (unlisted_role s part s.role refl is h)

-- ---- where it is switched off nothing is asked

off_by : (b : Bool) (s : MetadataSetting) (found : List Value) (part : List Pair) (out : Answer) → b ≡ true → Reads (if b then Gives (Err (CredentialsNotLoaded MetadataDisabled)) else retrieves s.client s.place s.role) found part out → part ≡ []
off_by true s found part out is h = (given_is {R = Answer} (Err (CredentialsNotLoaded MetadataDisabled)) out found part h).1
off_by false s found part out is h = clash is

pub off_quiet : (s : MetadataSetting) (found : List Value) (part : List Pair) (out : Answer) → Reads (metadata s) found part out → s.disabled ≡ true → part ≡ []
unfolding metadata unless_disabled
off_quiet s found part out h off =
    let p = split_onwards (unless_disabled s) (settled s.place) found part out h in
    let a = settled_answers s.place p.middle p.found_first p.found_then p.rest out p.then in
    whole_part part p.part p.rest p.parts a.0 ∙ off_by s.disabled s p.found_first p.part p.middle off p.first

-- ---- the line

ok_loaded : (out : Answer) → IsOk out → is_not_loaded_answer out ≡ true → ⊥
ok_loaded (Ok keys) ok h = clash h
ok_loaded (Err e) ok h = clash ok

-- what an answer that nothing was loaded tells
abbrev Told : Option CredentialsError → Option Keys → Type 0
Told why kept = (kept ≡ None) × IsNotLoaded why

told_by : (why : Option CredentialsError) (kept : Option Keys) (out : Answer) → AnswersBy why kept out → is_not_loaded_answer out ≡ true → Told why kept
unfolding or_found
told_by None kept out cause h = absurd (ok_loaded out cause h)
told_by (Some e) None out cause h = (refl, ap is_not_loaded_answer cause ∙ h)
told_by (Some e) (Some keys) out cause h = clash (ap is_not_loaded_answer cause ∙ h)

passes : (s : MetadataSetting) (found : List Value) (part : List Pair) (out : Answer) → Reads (metadata s) found part out → is_not_loaded_answer out ≡ true → IsPassedOver s found part
passes s found part out h is =
    let t = told_by (why_nothing s part) (retrieved_in found) out (has_cause s found part out h) is in
    (t.0, line_by s part s.disabled refl (off_quiet s found part out h) t.1)

answered : (why : Option CredentialsError) (out : Answer) → IsNotLoaded why → AnswersBy why None out → is_not_loaded_answer out ≡ true
unfolding or_found
answered None out h cause = absurd h
answered (Some e) out h cause = ap is_not_loaded_answer (sym cause) ∙ h

absent_loaded : (e : ImdsError) (reason : Option NotLoadedCause) → IsSome reason → is_not_loaded (listing_error_by e reason) ≡ true
unfolding errors.out-CredentialsError carrier.out
absent_loaded e (Some reason) h = refl
absent_loaded e None h = clash h

unlisted_loaded : (s : MetadataSetting) (part : List Pair) → IsUnlisted s part → IsNotLoaded (why_nothing s part)
unlisted_loaded s part u =
    let role = ap (λ r. why_by_role s.client r part) u.role in
    let text = ap (why_listed_by s.client part) u.nothing in
    let why = ap (λ b. if b then Some (CredentialsNotLoaded MetadataDisabled) else why_by_role s.client s.role part) u.enabled ∙ role ∙ text ∙ ap (option_map listing_error) u.is in
    subst IsNotLoaded (sym why) (absent_loaded u.fault (absence u.fault) u.absent)

disabled_loaded : is_not_loaded (CredentialsNotLoaded MetadataDisabled) ≡ true
unfolding errors.out-CredentialsError carrier.out
disabled_loaded = refl

line_loaded : (s : MetadataSetting) (part : List Pair) → LineBy s part → IsNotLoaded (why_nothing s part)
line_loaded s part (inl off) = subst IsNotLoaded (sym (ap (λ b. if b then Some (CredentialsNotLoaded MetadataDisabled) else why_by_role s.client s.role part) off.0)) disabled_loaded
line_loaded s part (inr u) = unlisted_loaded s part u

passes_back : (s : MetadataSetting) (found : List Value) (part : List Pair) (out : Answer) → Reads (metadata s) found part out → IsPassedOver s found part → is_not_loaded_answer out ≡ true
passes_back s found part out h line =
    answered (why_nothing s part) out (line_loaded s part line.1) (subst (λ k. AnswersBy (why_nothing s part) k out) line.0 (has_cause s found part out h))

pub by_its_line : (s : MetadataSetting) (found : List Value) (part : List Pair) (out : Answer) → Reads (metadata s) found part out →
    (is_not_loaded_answer out ≡ true → IsPassedOver s found part) × (IsPassedOver s found part → is_not_loaded_answer out ≡ true)
by_its_line s found part out h = (passes s found part out h, passes_back s found part out h)
