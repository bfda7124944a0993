-- The reading is the one of its place.
use Rattle.std.proofs.Common.{refl}
use Rattle.cfg_world.specs.declared.ask.Answer.TheVariants as answer
use Rattle.cfg_world.proofs.HandedOver.{asked_kept, given_by}
use Rattle.cfg_world.proofs.handed.HandedDevicesDevices.now.Goals as goal

pub returns-clause-asked : goal.returns-clause-asked
returns-clause-asked c =
    asked_kept c.args.self.now c.use_up.new.self _ (answer.Moment c.moment_in-moment.result) c.use_up.ensures
    (given_by answer.Moment _ _ _ _ c.moment_in-moment.result c.next.ensures refl c.moment_in-moment.ensures.is) c.moment_in-moment.ensures.fits refl refl
