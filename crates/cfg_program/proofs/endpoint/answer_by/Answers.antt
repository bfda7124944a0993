-- The endpoint is the one that the object says, and the devices over it are new.
use Rattle.cfg_program.proofs.EndpointCalls.{starts_new, if_answered}
use Rattle.cfg_program.proofs.endpoint.answer_by.Goals as goal

pub answer_over-requires : goal.answer_over-requires
answer_over-requires c = record { new = starts_new c.new-devices.result c.args.endpoint c.args.script c.requires.new c.requires.made c.new-devices.ensures }

pub returns : goal.returns
returns c = if_answered _ c.args.script c.new-devices.result c.args.endpoint _ _ _ _ c.answer_over.result c.requires.new c.new-devices.ensures c.in_ok-chain.ensures c.in_ok-variables.ensures c.new.ensures.items c.calls_before-before.ensures c.answer_over.ensures
