-- What calls of the default chain over an endpoint give.
use Rattle.std.specs.Prelude.{◌≡◌, ◌≤◌, ◌+◌, ◌≤ℤ◌, ℕ, pos, List, [], ◌∷◌, ◌++◌, length, drop, All, Some, None, IfSome, Ok, codes, if◌then◌else◌}
use Rattle.std.specs.FinMap.{get}
use Rattle.std.specs.Str.{bytes_eq}
use Rattle.cfg_base.specs.Moment.{Moment}
use Rattle.cfg_types.specs.Keys.{Keys}
use Rattle.cfg_types.specs.declared.credentials.AwsCredentialFeature.TheVariants.{CredentialsImds}
use Rattle.cfg_types.specs.Environment.{Variables}
use Rattle.cfg_types.specs.declared.environment.EnvText.{EnvText}
use Rattle.cfg_types.specs.declared.environment.EnvText.TheVariants as variable
use Rattle.cfg_world.specs.declared.devices.Devices.{Ghosts}
use Rattle.cfg_world.specs.Asked.{Same}
use Rattle.cfg_world.specs.Faults.{full_count}
use Rattle.cfg_world.specs.Fits.{Pair}
use Rattle.cfg_world.specs.Held.{Held}
use Rattle.cfg_world.specs.LastReadings.{last_reading}
use Rattle.cfg_profile.specs.declared.sections.ProfileSource.{ProfileSource}
use Rattle.cfg_profile.specs.declared.sections.ProfileSource.TheVariants.{Sections, Refused}
use Rattle.cfg_kept.specs.Kinds.{Value, States}
use Rattle.cfg_kept.specs.Retrieved.{is_due, later_or_last}
use Rattle.cfg_exchange.specs.Containers.{document_keys}
use Rattle.cfg_providers.specs.CustomSources.{Answer}
use Rattle.cfg_chain.specs.Provides.{Provides}
use Rattle.cfg_chain.specs.Settings.{ChainSetting}
use Rattle.cfg_endpoint.specs.declared.served.Served.{Served}
use Rattle.cfg_endpoint.specs.Endpoints.{EndpointState, Accepts}
use Rattle.cfg_endpoint.specs.Made.{IsMade}
use Rattle.cfg_endpoint.specs.Serves.{after_questions, requests_in}
use Rattle.cfg_endpoint.specs.Devices.{DevicesState, start, Allows, Stands}

-- ---- what the calls are over

abbrev pub HasNoSections : ProfileSource → Type 0
HasNoSections (Sections sets) = (name : List ℕ) → get sets.profiles name ≡ None
HasNoSections (Refused reason) = ⊥

-- A chain without variables, without sections, without sources of the caller's own, and without a metadata client.
pub record HasNothing (over : ChainSetting) : Type 0 where
  pub environment : (name : List ℕ) → get over.configuration.environment name ≡ None
  pub sections : HasNoSections over.configuration.profiles
  pub sources : over.sources ≡ []
  pub client : over.client ≡ None

-- where a container's endpoint is asked
abbrev pub container_address : List ℕ
container_address = codes "http://127.0.0.1/c"

-- the variables are this one alone
abbrev pub HasOnly : Variables → List ℕ → EnvText → Type 0
HasOnly env known value = (name : List ℕ) → get env name ≡ (if bytes_eq name known then Some value else None)

-- The same but for one variable, which names a container's endpoint.
pub record HasContainer (over : ChainSetting) : Type 0 where
  pub environment : HasOnly over.configuration.environment (codes "AWS_CONTAINER_CREDENTIALS_FULL_URI") (variable.Text container_address)
  pub sections : HasNoSections over.configuration.profiles
  pub sources : over.sources ≡ []
  pub client : over.client ≡ None

-- ---- the devices

-- a reading of the clock that leaves room for the lifetime of a session token
abbrev pub IsEarly : Moment → Type 0
IsEarly m = m.seconds ≤ℤ pos 9223372036854754207

-- The devices from which the calls start: the endpoint was made, and its clock is early.
pub record IsReadyFor (d : DevicesState) : Type 0 where
  pub made : IsMade (start d)
  pub early : All IsEarly d.clock

-- The devices now come of these, and stand for the journal since.
pub record HasGone (d now : DevicesState) (journal : List Pair) : Type 0 where
  pub same : Same (Allows d) (Allows now)
  pub stands : Stands now journal

-- the endpoint after that journal
abbrev pub endpoint_after : DevicesState → List Pair → EndpointState
endpoint_after d journal = after_questions (start d) journal

-- two session tokens more can be given: as many as a call asks for at most
abbrev pub HasTokens : EndpointState → Type 0
HasTokens e = e.given + 2 ≤ full_count

-- A session token that is kept for the chain was given by the endpoint, and is not forgotten.
abbrev pub Fresh : EndpointState → States → Type 0
Fresh e kept = IfSome kept.chain.token (λ t. Accepts e t.value)

-- ---- what they give

-- when the credentials end at a reading of the clock: an expiry that is not after it is put off by 600 seconds
abbrev pub metadata_expiry : Moment → Moment → Moment
metadata_expiry expires now = if is_due expires now then later_or_last now 600 else expires

-- the keys that are served, until then, as the instance metadata service gives them
abbrev pub metadata_keys : Served → Moment → Keys
metadata_keys s end = record {
  access_key_id = s.id;
  secret_access_key = s.secret;
  session_token = Some s.token;
  expiry = Some end;
  account_id = None;
  provider_name = codes "IMDSv2";
  features = CredentialsImds ∷ [];
}

-- the served keys, by the last reading of the clock
pub record GivesMetadata (s : Served) (part : List Pair) (out : Answer) : Type 0 where
  pub now : Moment
  pub reads : last_reading part ≡ Some now
  pub gives : out ≡ Ok (metadata_keys s (metadata_expiry s.expires now))

-- the served keys, with their own expiry
abbrev pub GivesContainer : Served → Answer → Type 0
GivesContainer s out = out ≡ Ok (document_keys s.id s.secret s.token None s.expires)

-- The journal grew by the part of a call that asks a container and gives the served keys, the devices stand for the
-- journal with it, and no token was given; what is kept is as it was.
pub record GoesOnByContainer (d : DevicesState) (journal : List Pair) (old kept : States) (before later : Held DevicesState) (out : Answer) : Type 0 where
  pub part : List Pair
  pub grows : later.journal ≡ before.journal ++ part
  pub gives : GivesContainer d.endpoint.served out
  pub kept_is : kept ≡ old
  pub same : endpoint_after d (journal ++ part) ≡ endpoint_after d journal
  pub gone : HasGone d later.devices (journal ++ part)

-- What a call on what is kept gives: the served keys, and a session token that is fresh then; and at most two tokens
-- more are given, and at most one for each request.
pub record IsServed (d : DevicesState) (journal part : List Pair) (kept : States) (out : Answer) : Type 0 where
  pub gives : GivesMetadata d.endpoint.served part out
  pub fresh : Fresh (endpoint_after d (journal ++ part)) kept
  pub few : (endpoint_after d (journal ++ part)).given ≤ (endpoint_after d journal).given + 2
  pub asked : (endpoint_after d (journal ++ part)).given ≤ (endpoint_after d journal).given + requests_in part

-- The journal grew by the part of a call that gives the served keys, and the devices stand for the journal with it.
pub record GoesOn (d : DevicesState) (journal : List Pair) (kept : States) (before later : Held DevicesState) (out : Answer) : Type 0 where
  pub part : List Pair
  pub grows : later.journal ≡ before.journal ++ part
  pub served : IsServed d journal part kept out
  pub gone : HasGone d later.devices (journal ++ part)

-- ---- calls one after another

-- A call that was made: what it found and left kept, what it came to, and the world behind it.
pub record Called : Type 0 where
  pub found : List Value
  pub kept : States
  pub world : Held DevicesState
  pub out : Answer

-- how many requests the endpoint gets in these calls
abbrev pub requests_of : Held DevicesState → List Called → ℕ
requests_of before [] = 0
requests_of before (call ∷ calls) = requests_in (drop (length before.journal) call.world.journal) + requests_of call.world calls

-- These calls of a chain were made one after another over one world, each on what the call before it left kept.
abbrev pub AreCalls : Ghosts DevicesState → ChainSetting → States → Held DevicesState → List Called → Type 0
AreCalls g over old before [] = Unit {0}
AreCalls g over old before (call ∷ calls) = Provides g over old call.kept call.found before call.world call.out × AreCalls g over call.kept call.world calls

-- The journal grew by a part of each, and each gives what is served.
abbrev pub EachGives : Served → Held DevicesState → List Called → Type 0
EachGives s before [] = Unit {0}
EachGives s before (call ∷ calls) = ((part : List Pair) × (call.world.journal ≡ before.journal ++ part) × GivesMetadata s part call.out) × EachGives s call.world calls
