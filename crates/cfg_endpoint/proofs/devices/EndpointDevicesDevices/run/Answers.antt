-- No command runs.
use Rattle.cfg_base.specs.Text.{characters}
use Rattle.cfg_world.specs.declared.ask.Answer.TheVariants as answer
use Rattle.cfg_world.specs.Asked.{answer_of}
use Rattle.cfg_endpoint.proofs.Questions.{other_asked, other_run}
use Rattle.cfg_endpoint.proofs.devices.EndpointDevicesDevices.run.Goals as goal

pub returns-clause-asked : goal.returns-clause-asked
returns-clause-asked c =
    let was = c.self.inside in
    other_asked was.endpoint was.clock was.place was.first_given was.first_place c.args.self.now was.others c.run.new.self c.self.view_is c.self.invariant.unanswered _ (answer_of answer.Finished c.run.result) (other_run (characters c.args.command.now)) c.run.ensures.handed c.run.ensures.asked
