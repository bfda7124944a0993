-- Chains of a set of generated profiles, and of what is handed in.
use Rattle.std.proofs.Common.{◌≡◌, ℕ, List, [], None, Result, Ok, Err, IfOk, map, refl, ap, subst, ◌∙◌, true}
use Rattle.cfg_base.specs.TextMap.{Named}
use Rattle.cfg_base.specs.Entries.{each_set}
use Rattle.cfg_types.specs.declared.environment.EnvText.{EnvText}
use Rattle.cfg_world.specs.declared.script.DeviceLists.{DeviceLists}
use Rattle.cfg_profile.specs.Configuration.{Configuration, nothing_configured}
use Rattle.cfg_providers.specs.CustomSources.{NamedAnswer}
use Rattle.cfg_chain.specs.Settings.{ChainSetting, with_sources, alone}
use Rattle.cfg_program.specs.declared.lines.LineForm.TheVariants.{Generated}
use Rattle.cfg_program.specs.declared.outcome.Answered.{Answered}
use Rattle.cfg_program.specs.Calls.{in_region, AnswersOver}
use Rattle.cfg_program.specs.Generated.{generated_configuration, generated_lists, GeneratedAnswers}
use Rattle.cfg_program.specs.Local.{local_configuration}

-- the call of a chain of the generated profiles, without sources
pub generated_alone : {X E : Type 0} (f : X → NamedAnswer) (items : List X) (over : ChainSetting) (config : Configuration) (lists : DeviceLists) (n : ℕ) (r : Result Answered E) →
    over ≡ with_sources (in_region config None) (map f items) → in_region config None ≡ generated_configuration n → items ≡ [] → lists ≡ generated_lists n →
    IfOk r (λ a. AnswersOver over lists 1 (Generated n) a.is_ok a.lines.items) → IfOk r (λ a. GeneratedAnswers n a.is_ok a.lines.items)
generated_alone f items over config lists n (Ok a) is conf none same h =
    subst (λ l. AnswersOver (alone (generated_configuration n)) l 1 (Generated n) a.is_ok a.lines.items) same
    (subst (λ o. AnswersOver o lists 1 (Generated n) a.is_ok a.lines.items)
    (is ∙ ap (λ c. with_sources c (map f items)) conf ∙ ap (λ s. with_sources (generated_configuration n) (map f s)) none) h)
generated_alone f items over config lists n (Err e) is conf none same h = h

-- the chain of these variables, without sections and without a region
pub local_chain : (over : ChainSetting) (config empty_one : Configuration) (env : Named EnvText) (variables : List (List ℕ × EnvText)) (sources : List NamedAnswer) →
    over ≡ with_sources (in_region config None) sources → config ≡ record empty_one { environment = env } → empty_one ≡ nothing_configured true → env ≡ each_set variables →
    over ≡ with_sources (local_configuration variables) sources
local_chain over config empty_one env variables sources is with_env empty given = rw (is, with_env, empty, given) refl

-- the same of what comes of making it
pub if_local : {X E : Type 0} (over : X → ChainSetting) (r : Result X E) (config empty_one : Configuration) (env : Named EnvText) (variables : List (List ℕ × EnvText)) (sources : List NamedAnswer) →
    IfOk r (λ chain. over chain ≡ with_sources (in_region config None) sources) → config ≡ record empty_one { environment = env } → empty_one ≡ nothing_configured true → env ≡ each_set variables →
    IfOk r (λ chain. over chain ≡ with_sources (local_configuration variables) sources)
if_local over (Ok chain) config empty_one env variables sources is with_env empty given = local_chain (over chain) config empty_one env variables sources is with_env empty given
if_local over (Err e) config empty_one env variables sources is with_env empty given = is
