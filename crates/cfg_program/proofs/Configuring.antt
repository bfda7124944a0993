-- What a script configures, one step after another.
use Rattle.std.proofs.Common.{◌≡◌, ℕ, List, Bool, Option, Some, Result, IfOk, option_map, ap, ◌∙◌, subst, refl}
use Rattle.cfg_base.specs.Text.{characters}
use Rattle.cfg_base.specs.TextMap.{Named}
use Rattle.cfg_base.specs.Entries.{each_set}
use Rattle.cfg_types.specs.declared.environment.EnvText.{EnvText}
use Rattle.cfg_base.specs.declared.memory.OutOfMemory.{OutOfMemory}
use Rattle.cfg_profile.specs.declared.sections.ProfileSource.{ProfileSource}
use Rattle.cfg_profile.specs.Configuration.{Configuration}
use Rattle.cfg_providers.specs.CustomSources.{NamedAnswer}
use Rattle.cfg_chain.specs.Settings.{ChainSetting, with_sources}
use Rattle.cfg_script.specs.Script.{Plain}
use Rattle.cfg_script.specs.declared.service.ServiceConfig.{ServiceConfig}
use Rattle.cfg_program.specs.Calls.{configuration_of, configured, configured_by, in_region, sent_by}

-- the name comes last
pub named_last : (variables : List (List ℕ × EnvText)) (source : ProfileSource) (selected : Option (List ℕ)) (sleep : Bool) (service : ServiceConfig) (env : Named EnvText)
    (sent with_env with_profiles with_sleep : Configuration) (name : List ℕ) (named : Result Configuration OutOfMemory)
    → env ≡ each_set variables → sent ≡ sent_by service
    → with_env ≡ record sent { environment = env } → with_profiles ≡ record with_env { profiles = source } → with_sleep ≡ record with_profiles { sleep = sleep } → selected ≡ Some name
    → IfOk named (λ c. c ≡ record with_sleep { profile_name = Some name }) → IfOk named (λ c. c ≡ configured_by variables source selected sleep service)
named_last variables source selected sleep service env sent with_env with_profiles with_sleep name named e o v p s n is =
    let all : record with_sleep { profile_name = Some name } ≡ configured_by variables source selected sleep service = rw (s, p, v, o, e, n) refl in
    subst (λ x. IfOk named (λ c. c ≡ x)) all is

-- the chain of what a script configures, with these sources
pub script_chain : (over : ChainSetting) (config : Configuration) (p : Plain) (sources : List NamedAnswer)
    → over ≡ with_sources (in_region config (option_map characters p.region)) sources → config ≡ configured p
    → over ≡ with_sources (configuration_of p) sources
script_chain over config p sources is same = is ∙ ap (λ (c : Configuration). with_sources (in_region c (option_map characters p.region)) sources) same
