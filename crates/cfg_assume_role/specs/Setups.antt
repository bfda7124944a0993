-- What a builder of a role's provider was set to, and what it builds.
use Rattle.std.specs.Option.{option_or}
use Rattle.std.specs.Prelude.{◌≡◌, ◌⊎◌, ◌++◌, ℕ, List, Option, Some, None, true, option_map, codes, String, string_bytes, refl}
use Rattle.std.specs.Coded.{Coded, code_by, coded×, coded_ℕ, coded_list, coded_option}
use Rattle.cfg_base.specs.Text.{characters}
use Rattle.cfg_types.specs.declared.request.sts.Tag.{Tag}
use Rattle.cfg_world.specs.declared.devices.Devices.{Ghosts}
use Rattle.cfg_world.specs.Fits.{Pair}
use Rattle.cfg_world.specs.Held.{Held}
use Rattle.cfg_world.specs.Grows.{Grows, Stays}
use Rattle.cfg_world.specs.Inquiry.{Inquiry, Reads, Begun, after}
use Rattle.cfg_profile.specs.Configuration.{Configuration, configuration_code, nothing_configured}
use Rattle.cfg_providers.specs.SessionNames.{session_name}
use Rattle.cfg_region.specs.Calls.{IsAsked}
use Rattle.cfg_region.specs.Environments.{Told}
use Rattle.cfg_region.specs.Sources.{Source, Given, tree}
use Rattle.cfg_assume_role.specs.declared.call.RoleSession.{RoleSession}
use Rattle.cfg_assume_role.specs.declared.call.RoleCall.{RoleCall}
use Rattle.cfg_assume_role.specs.contracts.call.RoleSession as session

pub record RoleSetup : Type 0 where
  pub configuration : Configuration
  -- in place of the configuration's
  pub region : Option (List ℕ)
  pub session_name : Option (List ℕ)
  pub session : RoleSession

abbrev pub role_setup_code : Coded RoleSetup
role_setup_code = code_by (Configuration × (Option (List ℕ) × (Option (List ℕ) × RoleSession)))
    (coded× configuration_code (coded× (coded_option (coded_list coded_ℕ)) (coded× (coded_option (coded_list coded_ℕ)) session.the_row.coded)))
    (λ s. (s.configuration, (s.region, (s.session_name, s.session))))
    (λ p. record { configuration = p.0; region = p.1.0; session_name = p.1.1.0; session = p.1.1.1 }) (λ _. refl)

-- a session of the role with this ARN, and nothing more asked of it
abbrev pub role_alone : List ℕ → RoleSession
role_alone arn = record { role_arn = arn; external_id = None; policy = None; policy_arns = None; duration_seconds = None; tags = None }

-- a builder that was set to a role alone
abbrev pub for_role : List ℕ → RoleSetup
for_role arn = record { configuration = nothing_configured true; region = None; session_name = None; session = role_alone arn }

-- the configuration, with the region of the builder in place of its own, where one was set
abbrev pub configured : RoleSetup → Configuration
configured s = record s.configuration { region = option_or s.region s.configuration.region }

-- what the provider sends by this configuration, for a session of this name
abbrev pub call_by : RoleSetup → Configuration → List ℕ → RoleCall
call_by s conf name = record { config = conf; session_name = name; session = s.session }

-- what the provider sends in this region
abbrev pub call_of : RoleSetup → Option (List ℕ) → List ℕ → RoleCall
call_of s region name = call_by s (record (configured s) { region = region }) name

-- with the managed policies of these ARNs
abbrev pub with_policy_arns : List (List ℕ) → RoleSession → RoleSession
with_policy_arns arns session = record session { policy_arns = Some arns }

-- a pair of strings as a tag
abbrev pub tag_of : {Y Z : Type 0} → String Y × String Z → Tag
tag_of pair = record { key = characters (string_bytes pair.0); value = characters (string_bytes pair.1) }

-- what names of sessions begin with that were not given
abbrev pub provider_session : List ℕ
provider_session = codes "assume-role-provider"

-- the name that was given, and else one made from a reading of the clock
abbrev pub naming : RoleSetup → Inquiry (List ℕ)
naming s = session_name provider_session s.session_name

-- where the region comes from: a configuration's own is given, where it has one
abbrev pub own_region : Configuration → Option Source
own_region conf = option_map (λ region. Given (Some region)) conf.region

-- the source of the region, and then the name
abbrev pub asks : RoleSetup → Source → Inquiry (List ℕ)
asks s source = after (tree source) (λ region. naming s)

-- The journal grew by the part of the region's source, which is empty where a region was set and else that
-- of the default region chain, and then by a reading of the clock exactly where no name was given. This is
-- what is sent.
pub record Builds {D : Type 0} (d : Ghosts D) (s : RoleSetup) (before later : Held D) (call : RoleCall) : Type 0 where
  pub source : Source
  pub asked : IsAsked (own_region (configured s)) (configured s) source
  pub region_part : List Pair
  pub name_part : List Pair
  pub grows : Grows d (region_part ++ name_part) before later
  pub region : Told
  pub region_reads : Reads (tree source) region_part region
  pub name : List ℕ
  pub name_reads : Reads (naming s) name_part name
  pub is_call : call ≡ call_of s region name

-- It grew by the beginning of such parts.
pub record BuildBegun {D : Type 0} (d : Ghosts D) (s : RoleSetup) (before later : Held D) : Type 0 where
  pub source : Source
  pub asked : IsAsked (own_region (configured s)) (configured s) source
  pub part : List Pair
  pub stays : Stays d part before later
  pub begun : Begun (asks s source) part

-- Memory ran out: before anything was asked, or over the beginning of such parts.
abbrev pub BuildStops : {D : Type 0} → Ghosts D → RoleSetup → Held D → Held D → Type 0
BuildStops d s before later = (later ≡ before) ⊎ BuildBegun d s before later
