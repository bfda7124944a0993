-- The environment's name as bytes, where the configuration has none.
use Rattle.std.proofs.Common.{◌≡◌, None, option_map, Ok, Err, ap, sym, ◌∙◌, refl}
use Rattle.std.specs.Prelude.{codes}
use Rattle.cfg_base.specs.Text.{characters}
use Rattle.cfg_types.specs.Environment.{variable}
use Rattle.cfg_profile.proofs.provider_config.selected_name.Goals as goal

pub returns-in-Ok : goal.returns-in-Ok
returns-in-Ok c =
    let none : c.args.config.now.profile_name ≡ None = sym c.profile_name.ensures ∙ ap (option_map (λ n. n.now)) c.in-None.is in
    let read : variable c.args.config.now.environment (codes "AWS_PROFILE") ≡ Ok (characters c.in-Ok.name.now) = ap (λ e. variable e (codes "AWS_PROFILE")) (sym c.env.ensures) ∙ c.in-Ok.ensures.value in
    rw (none, read) c.in-Ok.ensures.bytes

pub returns-in-Err : goal.returns-in-Err
returns-in-Err c =
    let none : c.args.config.now.profile_name ≡ None = sym c.profile_name.ensures ∙ ap (option_map (λ n. n.now)) c.in-None.is in
    let read : variable c.args.config.now.environment (codes "AWS_PROFILE") ≡ Err c.in-Err.field-0 = ap (λ e. variable e (codes "AWS_PROFILE")) (sym c.env.ensures) ∙ c.in-Err.ensures.value in
    rw (none, read) refl
