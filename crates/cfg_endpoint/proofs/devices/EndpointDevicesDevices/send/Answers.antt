-- The endpoint's requests are the endpoint's; any other fails.
use Rattle.std.proofs.Common.{sym, ◌∙◌}
use Rattle.cfg_world.specs.declared.ask.Answer.TheVariants as answer
use Rattle.cfg_world.specs.Asked.{answer_of}
use Rattle.cfg_endpoint.proofs.Numbers.{no_truth}
use Rattle.cfg_endpoint.proofs.Questions.{other_asked, other_send, endpoint_asked}
use Rattle.cfg_endpoint.proofs.devices.EndpointDevicesDevices.send.Goals as goal

pub returns-then-is_served-clause-asked : goal.returns-then-is_served-clause-asked
returns-then-is_served-clause-asked c =
    let was = c.self.inside in
    endpoint_asked was.endpoint was.clock was.place was.first_given was.first_place c.args.self.now was.others.faults c.self.view_is c.args.request.now c.ask_endpoint.new.endpoint (answer_of answer.Replied c.ask_endpoint.result) c.ask_endpoint.ensures

pub returns-clause-asked : goal.returns-clause-asked
returns-clause-asked c =
    let was = c.self.inside in
    other_asked was.endpoint was.clock was.place was.first_given was.first_place c.args.self.now was.others c.send.new.self c.self.view_is c.self.invariant.unanswered _ (answer_of answer.Replied c.send.result)
    (other_send c.args.request.now (λ served. no_truth (sym c.if-is_served.false ∙ c.is_served.ensures.1 served))) c.send.ensures.handed c.send.ensures.asked
