-- The answer is the one of its place, and a failure is counted.
use Rattle.std.proofs.Common.{refl, Some, None}
use Rattle.cfg_base.specs.Text.{characters}
use Rattle.cfg_world.specs.declared.ask.Answer.TheVariants as answer
use Rattle.cfg_world.specs.Handed.{or_io}
use Rattle.cfg_world.proofs.HandedOver.{asked_kept, asked_failed, given_by}
use Rattle.cfg_world.proofs.handed.HandedDevicesDevices.run.Goals as goal

pub returns-in-Some-clause-asked : goal.returns-in-Some-clause-asked
returns-in-Some-clause-asked c =
    asked_kept c.args.self.now c.use_up.new.self _ (answer.Finished c.in-Some.finished) c.use_up.ensures
    (given_by (or_io answer.Finished) _ _ _ _ (Some c.in-Some.finished) c.next.ensures c.in-Some.is (c.in-Ok.ensures (characters c.args.command.now))) tt refl refl

pub returns-in-None-clause-asked : goal.returns-in-None-clause-asked
returns-in-None-clause-asked c =
    asked_failed c.args.self.now c.use_up.new.self c.self-2.inside.answers.items c.self-2.inside.used c.self-2.inside.questions c.self-2.inside.faults _ _ _ c.use_up.ensures c.self-2.view_is
    c.raise_commands.ensures.raised c.raise_commands.ensures.small
    (given_by (or_io answer.Finished) _ _ _ _ None c.next.ensures c.in-None.is (c.in-Ok.ensures (characters c.args.command.now))) tt
