-- One entry more.
use Rattle.std.proofs.Common.{ap, sym, ◌∙◌, subst, ℕ, [], string_bytes}
use Rattle.cfg_base.specs.Text.{characters}
use Rattle.cfg_base.specs.TextMap.{Named}
use Rattle.cfg_world.specs.Paths.{Finds}
use Rattle.cfg_world.proofs.PathIndex.{finds_none, finds_next}
use Rattle.cfg_world.proofs.script.paths.indexed.Goals as goal

pub loop-at-init : goal.loop-at-init
loop-at-init g c = subst (λ (m : Named ℕ). Finds {T = g.row.T.Denot} m []) (sym c.in_ok-index.ensures) finds_none

pub loop-at-preserved : goal.loop-at-preserved
loop-at-preserved g c = finds_next c.loop-at.index c.set.new.self c.args.entries.now (string_bytes c.in_ok-name.name) c.index-entries-at.result c.loop-at.at
    c.loop-at-test.true c.index-entries-at.is c.in_ok-set.ensures.ok
    (c.in_ok-name.ensures.ok ∙ c.as_str.ensures.bytes) (ap characters c.in_ok-name.ensures.ok ∙ c.as_str.ensures.chars) c.loop-at.invariant
