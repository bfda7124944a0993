-- One path more.
use Rattle.std.proofs.Common.{ap, sym, ◌∙◌, subst, [], string_bytes}
use Rattle.cfg_base.specs.Text.{characters}
use Rattle.cfg_base.specs.TextMap.{Named}
use Rattle.cfg_world.specs.Paths.{Lists}
use Rattle.cfg_world.proofs.PathIndex.{lists_none, lists_next}
use Rattle.cfg_world.proofs.script.paths.named.Goals as goal

pub loop-path-init : goal.loop-path-init
loop-path-init c = subst (λ (m : Named (Unit {0})). Lists m []) (sym c.in_ok-names.ensures) lists_none

pub loop-path-preserved : goal.loop-path-preserved
loop-path-preserved c = lists_next c.loop-path.names c.set.new.self c.args.paths.now (string_bytes c.in_ok-name.name) c.path-item.result c.loop-path.path-index
    c.loop-path-test.true c.path-item.is c.in_ok-set.ensures.ok
    (c.in_ok-name.ensures.ok ∙ c.as_str.ensures.bytes) (ap characters c.in_ok-name.ensures.ok ∙ c.as_str.ensures.chars) c.loop-path.invariant
