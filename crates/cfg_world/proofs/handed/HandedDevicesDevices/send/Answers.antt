-- The reply is the one of its place, and a failure is counted.
use Rattle.std.proofs.Common.{refl, Ok, Err, subst}
use Rattle.cfg_world.specs.declared.ask.Question.TheVariants as question
use Rattle.cfg_world.specs.declared.ask.Answer.TheVariants as answer
use Rattle.cfg_world.specs.Fits.{Fits}
use Rattle.cfg_world.specs.Handed.{sent}
use Rattle.cfg_world.proofs.HandedOver.{asked_kept, asked_failed, given_by}
use Rattle.cfg_world.proofs.handed.HandedDevicesDevices.send.Goals as goal

pub returns-in-Ok-sent-clause-asked : goal.returns-in-Ok-sent-clause-asked
returns-in-Ok-sent-clause-asked c =
    asked_kept c.args.self.now c.use_up.new.self _ (answer.Replied c.in-Ok-sent.reply) c.use_up.ensures
    (given_by sent _ _ _ _ (Ok c.in-Ok-sent.reply) c.next.ensures c.in-Ok-sent.is c.in-Ok.ensures.is)
    (subst (λ r. Fits (question.Send c.args.request.now) (sent r)) c.in-Ok-sent.is c.in-Ok.ensures.fits) refl refl

pub returns-in-Err-clause-asked : goal.returns-in-Err-clause-asked
returns-in-Err-clause-asked c =
    asked_failed c.args.self.now c.use_up.new.self c.self-2.inside.answers.items c.self-2.inside.used c.self-2.inside.questions c.self-2.inside.faults _ _ _ c.use_up.ensures c.self-2.view_is
    c.raise_transport.ensures.raised c.raise_transport.ensures.small
    (given_by sent _ _ _ _ (Err c.in-Err.kind) c.next.ensures c.in-Err.is c.in-Ok.ensures.is)
    (subst (λ r. Fits (question.Send c.args.request.now) (sent r)) c.in-Err.is c.in-Ok.ensures.fits)
