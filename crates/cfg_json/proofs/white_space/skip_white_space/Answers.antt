use Rattle.std.proofs.Common.{rules}
use Rattle.cfg_json.proofs.Steps.{one_more_white_space, no_white_space, white_space_at_end}
use Rattle.cfg_json.proofs.white_space.skip_white_space.Goals as goal

pub loop-x-preserved : goal.loop-x-preserved
loop-x-preserved c = one_more_white_space c.loop-x.rest.now c.in-Some.x.now c.in-Some.after.now _ c.in-Some.ensures.cases.0 (search rules) c.loop-x.invariant

pub returns-then-not-is_json_white_space : goal.returns-then-not-is_json_white_space
returns-then-not-is_json_white_space c = no_white_space c.loop-x.rest.now c.in-Some.x.now c.in-Some.after.now _ c.in-Some.ensures.cases.0 (search rules) c.loop-x.invariant

pub returns-in_default : goal.returns-in_default
returns-in_default c = white_space_at_end c.loop-x.rest.now _ c.in_default.ensures.cases c.loop-x.invariant
