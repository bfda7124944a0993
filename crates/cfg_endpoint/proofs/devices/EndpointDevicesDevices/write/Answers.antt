-- No file is written.
use Rattle.cfg_base.specs.Text.{characters}
use Rattle.cfg_world.specs.Asked.{written_answer}
use Rattle.cfg_endpoint.proofs.Questions.{other_asked, other_write}
use Rattle.cfg_endpoint.proofs.devices.EndpointDevicesDevices.write.Goals as goal

pub returns-clause-asked : goal.returns-clause-asked
returns-clause-asked c =
    let was = c.self.inside in
    other_asked was.endpoint was.clock was.place was.first_given was.first_place c.args.self.now was.others c.write.new.self c.self.view_is c.self.invariant.unanswered _ (written_answer c.write.result) (other_write (characters c.args.path.now) c.args.bytes.now) c.write.ensures.handed c.write.ensures.asked
