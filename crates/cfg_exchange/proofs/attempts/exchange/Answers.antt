-- The world's journal gained the attempts.
use Rattle.std.proofs.Common.{◌-◌, add-one}
use Rattle.cfg_world.specs.declared.ask.Question.TheVariants.{Send}
use Rattle.cfg_exchange.specs.Classifiers.{is_repeated}
use Rattle.cfg_exchange.proofs.Checks.{no_question, broken}
use Rattle.cfg_exchange.proofs.Pieces.{attempts_piece}
use Rattle.cfg_exchange.proofs.attempts.exchange.Goals as goal

pub returns-in-Ok-clause-exchanged : goal.returns-in-Ok-clause-exchanged
returns-in-Ok-clause-exchanged g c =
    let e = c.in-Ok.ensures.follows in
    let piece = attempts_piece (c.args.limit - 1) (Send c.args.request.now) (is_repeated c.args.kind (g.C.ClassifyRetry.repeated c.args.classifier.now)) e.part c.in-Ok.receipt e.reads in
    record {
      part = e.part;
      grows = record { journal = e.grows; fits = e.fits; same = e.same; counted = e.counted; stands = e.stands };
      attempts = rw add-one piece;
    }

pub returns-in-Err-clause-memory : goal.returns-in-Err-clause-memory
returns-in-Err-clause-memory g c =
    let e = broken c.in-Err.field-0 c.in-Err.ensures.follows no_question in
    record {
      part = e.part;
      stays = record { journal = e.grows; fits = e.fits; same = e.same; counted = e.counted };
      begun = e.begun;
    }
