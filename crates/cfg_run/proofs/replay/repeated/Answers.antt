-- The answer of an entry fits its question.
use Rattle.std.proofs.Common.{subst}
use Rattle.cfg_world.specs.Fits.{Fits, Pair}
use Rattle.cfg_run.proofs.replay.repeated.Goals as goal

pub returns : goal.returns
returns c = (
  c.in_ok-copy.ensures,
  subst (λ (e : Pair). Fits e.0 e.1) c.entry.ensures (subst (λ a. Fits c.entry.result.now.0 a) c.answer-answer.ensures.is c.answer-answer.ensures.fits),
)
