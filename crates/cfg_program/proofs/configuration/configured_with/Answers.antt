-- The name comes last.
use Rattle.std.proofs.Common.{◌∙◌, ap, sym, map, option_map, string_bytes, Some}
use Rattle.cfg_base.specs.TextMap.{named}
use Rattle.cfg_program.proofs.Configuring.{named_last}
use Rattle.cfg_program.proofs.configuration.configured_with.Goals as goal

pub returns-in-Some : goal.returns-in-Some
returns-in-Some c =
    named_last (map named c.args.variables.items) c.args.source (option_map (λ t. string_bytes t) c.args.selected) c.args.sleep c.args.service c.in_ok-env.env
    c.in_ok-config.config c.with_env-config.result c.with_profiles-config.result c.with_sleep_impl-config.result c.as_str.result.now c.with_profile_name.result
    c.in_ok-env.ensures c.in_ok-config.ensures c.with_env-config.ensures c.with_profiles-config.ensures c.with_sleep_impl-config.ensures
    (ap (λ o. option_map (λ t. string_bytes t) o) c.in-Some.is ∙ ap Some (sym c.as_str.ensures.value)) c.with_profile_name.ensures
