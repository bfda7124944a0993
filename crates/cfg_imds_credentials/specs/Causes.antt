-- Why a provider of metadata credentials gives none, from what it found and its finished part of the
-- journal.
use Rattle.std.specs.Prelude.{◌≡◌, ℕ, List, [], ◌∷◌, Bool, ◌&&◌, is_none, Option, Some, None, IsOk, option_map, if◌then◌else◌}
use Rattle.std.specs.Result.{result_err}
use Rattle.cfg_types.specs.Keys.{Keys}
use Rattle.cfg_types.specs.declared.errors.CredentialsError.{CredentialsError}
use Rattle.cfg_types.specs.declared.errors.CredentialsError.TheVariants.{CredentialsNotLoaded}
use Rattle.cfg_types.specs.declared.errors.NotLoadedCause.TheVariants.{MetadataDisabled}
use Rattle.cfg_world.specs.Fits.{Pair}
use Rattle.cfg_imds.specs.Causes.{why_no_text}
use Rattle.cfg_imds.specs.Clients.{ClientRules}
use Rattle.cfg_imds.specs.Fetches.{is_get, entry_fault, entry_text}
use Rattle.cfg_kept.specs.Kinds.{Value, keys_in}
use Rattle.cfg_kept.specs.RoleDocuments.{role_document}
use Rattle.cfg_providers.specs.CustomSources.{Answer}
use Rattle.cfg_imds_credentials.specs.Settings.{MetadataSetting}
use Rattle.cfg_imds_credentials.specs.Metadata.{listing_path, role_path, get_error, listing_error, or_found}

-- ---- the texts that were got

-- a get with whose answer nothing is wrong
abbrev pub is_text : Pair → Bool
is_text e = is_get e.0 && is_none (entry_fault e)

-- the first such get, and what follows it
abbrev pub first_text : List Pair → Option (Pair × List Pair)
first_text [] = None
first_text (e ∷ part) = if is_text e then Some (e, part) else first_text part

-- ---- why there are no keys

-- why a document gives no keys
abbrev pub why_document : Pair → Option CredentialsError
why_document text = result_err (role_document text)

abbrev pub why_role_by : ClientRules → List ℕ → List Pair → Option (Pair × List Pair) → Option CredentialsError
why_role_by client path part None = option_map get_error (why_no_text client path part)
why_role_by client path part (Some text) = why_document text.0

-- Why the role at this path gives no keys: its document was not got, or gives none.
abbrev pub why_role : ClientRules → List ℕ → List Pair → Option CredentialsError
why_role client path part = why_role_by client path part (first_text part)

abbrev pub why_listed_by : ClientRules → List Pair → Option (Pair × List Pair) → Option CredentialsError
why_listed_by client part None = option_map listing_error (why_no_text client listing_path part)
why_listed_by client part (Some text) = why_role client (role_path (entry_text text.0)) text.1

-- Why the role that is listed gives no keys: the listing was not got; or, behind it, as for that role.
abbrev pub why_listed : ClientRules → List Pair → Option CredentialsError
why_listed client part = why_listed_by client part (first_text part)

abbrev pub why_by_role : ClientRules → Option (List ℕ) → List Pair → Option CredentialsError
why_by_role client (Some role) part = why_role client (role_path role) part
why_by_role client None part = why_listed client part

-- Why nothing was retrieved: metadata is switched off, or the role gives no keys.
abbrev pub why_nothing : MetadataSetting → List Pair → Option CredentialsError
why_nothing s part = if s.disabled then Some (CredentialsNotLoaded MetadataDisabled) else why_by_role s.client s.role part

-- ---- the answer

-- the retrieved keys that were found, if any were: they are looked for last
abbrev pub retrieved_in : List Value → Option Keys
retrieved_in [] = None
retrieved_in (v ∷ []) = keys_in v
retrieved_in (v ∷ w ∷ found) = retrieved_in (w ∷ found)

abbrev pub AnswersBy : Option CredentialsError → Option Keys → Answer → Type 0
AnswersBy None kept out = IsOk out
AnswersBy (Some e) kept out = or_found e kept ≡ out

-- Where something was retrieved the answer is credentials. Else it is the retrieved keys that were found,
-- or, where none were, the error that the part shows.
abbrev pub CauseMetadata : MetadataSetting → List Value → List Pair → Answer → Type 0
CauseMetadata s found part out = AnswersBy (why_nothing s part) (retrieved_in found) out
