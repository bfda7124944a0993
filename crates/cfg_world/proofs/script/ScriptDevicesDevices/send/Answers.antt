-- The transport answers by the queue of the request.
use Rattle.std.proofs.Common.{ap, refl, sym, ◌∙◌}
use Rattle.cfg_world.specs.declared.ask.Answer.TheVariants as answer
use Rattle.cfg_world.specs.Script.{sent, nth_answer, queue_of}
use Rattle.cfg_world.proofs.Scripted.{asked, nothing_counted, transport_counted, reached}
use Rattle.cfg_world.proofs.script.ScriptDevicesDevices.send.Goals as goal

pub returns-in-Ok-sent-clause-asked : goal.returns-in-Ok-sent-clause-asked
returns-in-Ok-sent-clause-asked c =
    let was = c.self.inside in
    asked _ _ _ _ _ c.self.view_is (answer.Replied c.in-Ok-sent.reply) c.self.invariant.fits
    (ap sent (sym c.in-Ok-sent.is) ∙ c.in-Ok.ensures.item ∙ ap (nth_answer was.lists (queue_of c.args.request.now)) (reached was.places was.writes (queue_of c.args.request.now)))
    (c.in-Ok.ensures.further was.writes)
    (nothing_counted _ _ _ refl refl refl refl)

pub returns-in-Err-clause-asked : goal.returns-in-Err-clause-asked
returns-in-Err-clause-asked c =
    let was = c.self.inside in
    asked _ _ _ _ _ c.self.view_is (answer.Failed c.in-Err.kind) c.self.invariant.fits
    (ap sent (sym c.in-Err.is) ∙ c.in-Ok.ensures.item ∙ ap (nth_answer was.lists (queue_of c.args.request.now)) (reached was.places was.writes (queue_of c.args.request.now)))
    (c.in-Ok.ensures.further was.writes)
    (transport_counted _ _ _ _ refl refl refl refl c.raise.ensures.counted c.raise.ensures.later)
