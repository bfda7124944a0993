-- The answer is the one of its place, and a failure is counted.
use Rattle.std.proofs.Common.{refl, true, false}
use Rattle.cfg_base.specs.Text.{characters}
use Rattle.cfg_world.specs.declared.ask.Answer.TheVariants as answer
use Rattle.cfg_world.specs.Handed.{written_or_io}
use Rattle.cfg_world.proofs.HandedOver.{asked_kept, asked_failed, given_by}
use Rattle.cfg_world.proofs.handed.HandedDevicesDevices.write.Goals as goal

pub returns-then-written-clause-asked : goal.returns-then-written-clause-asked
returns-then-written-clause-asked c =
    asked_kept c.args.self.now c.use_up.new.self _ answer.Written c.use_up.ensures
    (given_by written_or_io _ _ _ _ true c.next.ensures c.if-written.true (c.is_written-written.ensures (characters c.args.path.now) c.args.bytes.now)) tt refl refl

pub returns-else-written-clause-asked : goal.returns-else-written-clause-asked
returns-else-written-clause-asked c =
    asked_failed c.args.self.now c.use_up.new.self c.self.inside.answers.items c.self.inside.used c.self.inside.questions c.self.inside.faults _ _ _ c.use_up.ensures c.self.view_is
    c.raise_files.ensures.raised c.raise_files.ensures.small
    (given_by written_or_io _ _ _ _ false c.next.ensures c.if-written.false (c.is_written-written.ensures (characters c.args.path.now) c.args.bytes.now)) tt
