-- The tree of a provider of metadata credentials.
use Rattle.std.specs.Prelude.{ℕ, List, ◌∷◌, [], ◌++◌, nat_eq, Option, Some, None, Result, Ok, Err, codes, if◌then◌else◌}
use Rattle.std.specs.Str.{encode_utf8_all}
use Rattle.cfg_types.specs.Keys.{Keys}
use Rattle.cfg_types.specs.Metadata.{is_dispatch_failure, error_reply}
use Rattle.cfg_types.specs.declared.credentials.AwsCredentialFeature.TheVariants.{CredentialsImds}
use Rattle.cfg_types.specs.declared.errors.CredentialsError.{CredentialsError}
use Rattle.cfg_types.specs.declared.errors.CredentialsError.TheVariants.{CredentialsNotLoaded, ProviderError}
use Rattle.cfg_types.specs.declared.errors.NotLoadedCause.{NotLoadedCause}
use Rattle.cfg_types.specs.declared.errors.NotLoadedCause.TheVariants.{MetadataDisabled, MetadataNoRole, MetadataUnreachable}
use Rattle.cfg_types.specs.declared.errors.ProviderCause.TheVariants as cause
use Rattle.cfg_types.specs.declared.errors.imds.ImdsError.{ImdsError}
use Rattle.cfg_types.specs.declared.errors.imds.ImdsError.TheVariants as imds
use Rattle.cfg_world.specs.declared.ask.Question.TheVariants.{Now, Jitter}
use Rattle.cfg_world.specs.Fits.{Pair}
use Rattle.cfg_world.specs.Inquiry.{Inquiry, Done, after}
use Rattle.cfg_world.specs.Leaves.{moment_of}
use Rattle.cfg_exchange.specs.Attempts.{asked}
use Rattle.cfg_imds.specs.Clients.{ClientRules, usable_error, fetch}
use Rattle.cfg_imds.specs.Fetches.{entry_text}
use Rattle.cfg_kept.specs.declared.place.Place.{Place}
use Rattle.cfg_kept.specs.Kinds.{RetrievedOf, RetrievedAt, keys_in}
use Rattle.cfg_kept.specs.KeptInquiry.{KeptInquiry, Gives, Finds, Leaves, lift, onwards, ◌>>=◌}
use Rattle.cfg_kept.specs.MetadataHoldings.{token_holding}
use Rattle.cfg_kept.specs.Retrieved.{is_due, keys_at}
use Rattle.cfg_kept.specs.RoleDocuments.{RoleKeys, role_document}
use Rattle.cfg_providers.specs.CustomSources.{Answer}
use Rattle.cfg_imds_credentials.specs.Settings.{MetadataSetting}

-- ---- one get

abbrev pub unless_fault : Option ImdsError → KeptInquiry (Result Pair ImdsError) → KeptInquiry (Result Pair ImdsError)
unless_fault (Some e) asks = Gives (Err e)
unless_fault None asks = asks

-- a session token of the place, and with it the attempts at a path
unfoldable pub token_and_text : ClientRules → Place → List ℕ → KeptInquiry (Result Pair ImdsError)
token_and_text client place path = token_holding client place >>= λ token. lift (fetch client path token)

-- What stands at a path. Nothing is asked where the path or the endpoint is not usable; else a session
-- token is settled on the one that is kept for the place, and the path is asked for with it.
unfoldable pub metadata_get : ClientRules → Place → List ℕ → KeptInquiry (Result Pair ImdsError)
metadata_get client place path = unless_fault (usable_error client path) (token_and_text client place path)

-- ---- the path of the role

-- where the service lists the machine's role
abbrev pub listing_path : List ℕ
listing_path = codes "/latest/meta-data/iam/security-credentials/"

-- the path of a role: the listing's, followed by the role's name as it stands
abbrev pub role_path : List ℕ → List ℕ
role_path role = listing_path ++ encode_utf8_all role

-- an error of a get, as the provider tells it
abbrev pub get_error : ImdsError → CredentialsError
get_error e = ProviderError (cause.Metadata e)

-- Why the listing names no role: it answers 404 where the machine has none, and where the token request
-- could not be sent there is no service.
abbrev pub absence : ImdsError → Option NotLoadedCause
absence (imds.ErrorResponse e) = if nat_eq (error_reply e).status 404 then Some MetadataNoRole else None
absence (imds.FailedToLoadToken e) = if is_dispatch_failure e then Some MetadataUnreachable else None
absence _ = None

abbrev pub listing_error_by : ImdsError → Option NotLoadedCause → CredentialsError
listing_error_by e (Some reason) = CredentialsNotLoaded reason
listing_error_by e None = get_error e

-- an error of the listing, as the provider tells it
abbrev pub listing_error : ImdsError → CredentialsError
listing_error e = listing_error_by e (absence e)

-- the path of the role that a listing names
unfoldable pub listed : Result Pair ImdsError → Result (List ℕ) CredentialsError
listed (Ok e) = Ok (role_path (entry_text e))
listed (Err e) = Err (listing_error e)

unfoldable pub listing : ClientRules → Place → KeptInquiry (Result (List ℕ) CredentialsError)
listing client place = onwards (metadata_get client place listing_path) (λ got. Gives (listed got))

-- the path of the role that is set, and else of the one that is listed
unfoldable pub path_of_role : ClientRules → Place → Option (List ℕ) → KeptInquiry (Result (List ℕ) CredentialsError)
path_of_role client place (Some role) = Gives (Ok (role_path role))
path_of_role client place None = listing client place

-- ---- the document of the role

-- the keys of the document that was got, or why there are none
unfoldable pub documented : Result Pair ImdsError → Result RoleKeys CredentialsError
documented (Ok e) = role_document e
documented (Err e) = Err (get_error e)

unfoldable pub document : ClientRules → Place → List ℕ → KeptInquiry (Result RoleKeys CredentialsError)
document client place path = onwards (metadata_get client place path) (λ got. Gives (documented got))

-- ---- until when its keys are good

-- the keys of a document, of a reading of the clock and of a jitter
unfoldable pub dated_keys : RoleKeys → Pair → Option Pair → Answer
dated_keys role reading jitter = Ok (keys_at reading jitter role)

-- a jitter, and what comes of it
unfoldable pub jittered : RoleKeys → Pair → Inquiry Answer
jittered role reading = after (asked Jitter) (λ jitter. Done (dated_keys role reading (Some jitter)))

-- a jitter, where the document's expiry is not after the reading
unfoldable pub extended : RoleKeys → Pair → Inquiry Answer
extended role reading = if is_due role.expiry (moment_of reading.1) then jittered role reading else Done (dated_keys role reading None)

-- a reading of the clock, and what comes of it
unfoldable pub dated : RoleKeys → Inquiry Answer
dated role = after (asked Now) (λ reading. extended role reading)

-- ---- the whole

-- the role's document at this path, and until when its keys are good
unfoldable pub retrieves_at : ClientRules → Place → List ℕ → KeptInquiry Answer
retrieves_at client place path = document client place path >>= λ role. lift (dated role)

-- the keys of the role
unfoldable pub retrieves : ClientRules → Place → Option (List ℕ) → KeptInquiry Answer
retrieves client place role = path_of_role client place role >>= retrieves_at client place

-- nothing is asked where metadata is switched off
unfoldable pub unless_disabled : MetadataSetting → KeptInquiry Answer
unless_disabled s = if s.disabled then Gives (Err (CredentialsNotLoaded MetadataDisabled)) else retrieves s.client s.place s.role

-- keys that were just read, marked as such
abbrev pub just_read : Keys → Keys
just_read keys = record keys { features = keys.features ++ CredentialsImds ∷ [] }

-- the keys that are kept, where some are; else the error
unfoldable pub or_found : CredentialsError → Option Keys → Answer
or_found e None = Err e
or_found e (Some keys) = Ok keys

-- Keys that were read take the place of the ones that are kept, and are answered. After a refusal those
-- that are kept are answered.
abbrev pub settled : Place → Answer → KeptInquiry Answer
settled place (Ok keys) = Leaves (RetrievedAt place (Some keys)) (Gives (Ok (just_read keys)))
settled place (Err e) = Finds (RetrievedOf place) (λ found. Gives (or_found e (keys_in found)))

-- The tree of the provider: what the role's document gives, unless metadata is switched off, and after
-- any refusal what is kept.
unfoldable pub metadata : MetadataSetting → KeptInquiry Answer
metadata s = onwards (unless_disabled s) (settled s.place)
