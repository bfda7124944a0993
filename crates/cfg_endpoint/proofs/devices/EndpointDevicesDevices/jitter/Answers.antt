-- The jitter is 0.
use Rattle.std.proofs.Common.{Some}
use Rattle.cfg_world.specs.declared.ask.Answer.TheVariants as answer
use Rattle.cfg_endpoint.proofs.Questions.{other_asked, other_jitter}
use Rattle.cfg_endpoint.proofs.devices.EndpointDevicesDevices.jitter.Goals as goal

pub returns-clause-asked : goal.returns-clause-asked
returns-clause-asked c =
    let was = c.self.inside in
    other_asked was.endpoint was.clock was.place was.first_given was.first_place c.args.self.now was.others c.jitter.new.self c.self.view_is c.self.invariant.unanswered _ (Some (answer.Jitter c.jitter.result)) (other_jitter) c.jitter.ensures.handed c.jitter.ensures.asked
