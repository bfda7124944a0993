-- A source of the name settles it.
use Rattle.std.proofs.Common.{sym, ap, ◌∙◌}
use Rattle.std.specs.List.{list_any}
use Rattle.std.proofs.lemmas.List.Folds.{list_any_at}
use Rattle.cfg_profile.specs.NamedSources.{is_alike}
use Rattle.cfg_profile.proofs.plan.is_built_in.Goals as goal

pub returns-then-is_alike : goal.returns-then-is_alike
returns-then-is_alike c =
    let there = sym c.is_alike.ensures ∙ c.if-is_alike.true in
    sym (list_any_at (λ source. is_alike c.args.name.now source.now) c.as_slice-source-items.result.now c.loop-source.source-index _ c.loop-source-test.true there)
    ∙ ap (list_any (λ source. is_alike c.args.name.now source.now)) c.as_slice-source-items.ensures
