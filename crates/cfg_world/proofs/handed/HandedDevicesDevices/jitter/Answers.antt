-- The jitter is the one of its place.
use Rattle.std.proofs.Common.{refl}
use Rattle.cfg_world.specs.declared.ask.Answer.TheVariants as answer
use Rattle.cfg_world.proofs.HandedOver.{asked_kept, given_by}
use Rattle.cfg_world.proofs.handed.HandedDevicesDevices.jitter.Goals as goal

pub returns-clause-asked : goal.returns-clause-asked
returns-clause-asked c =
    asked_kept c.args.self.now c.use_up.new.self _ (answer.Jitter c.number_in-number.result) c.use_up.ensures
    (given_by answer.Jitter _ _ _ _ c.number_in-number.result c.next.ensures refl c.number_in-number.ensures) tt refl refl
