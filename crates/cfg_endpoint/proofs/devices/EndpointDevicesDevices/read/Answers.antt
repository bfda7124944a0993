-- No file is there.
use Rattle.cfg_base.specs.Text.{characters}
use Rattle.cfg_world.specs.declared.ask.Answer.TheVariants as answer
use Rattle.cfg_world.specs.Asked.{answer_of}
use Rattle.cfg_endpoint.proofs.Questions.{other_asked, other_read}
use Rattle.cfg_endpoint.proofs.devices.EndpointDevicesDevices.read.Goals as goal

pub returns-clause-asked : goal.returns-clause-asked
returns-clause-asked c =
    let was = c.self.inside in
    other_asked was.endpoint was.clock was.place was.first_given was.first_place c.args.self.now was.others c.read.new.self c.self.view_is c.self.invariant.unanswered _ (answer_of answer.Contents c.read.result) (other_read (characters c.args.path.now)) c.read.ensures.handed c.read.ensures.asked
