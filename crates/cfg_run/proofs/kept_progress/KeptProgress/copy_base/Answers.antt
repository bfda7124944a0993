-- The copy is what was kept at the start.
use Rattle.std.proofs.Common.{ap, ◌∙◌}
use Rattle.cfg_kept.specs.KeyedStates.{key_of}
use Rattle.cfg_run.specs.CallSoFar.{CallSoFar}
use Rattle.cfg_run.proofs.KeptCopies.{same_states}
use Rattle.cfg_run.proofs.kept_progress.KeptProgress.copy_base.Goals as goal

pub returns-clause-states : goal.returns-clause-states
returns-clause-states c =
    same_states c.in_ok-kept.kept c.self.inside.base c.in_ok-kept.ensures.token c.in_ok-kept.ensures.places.0 c.in_ok-kept.ensures.places.1 ∙ ap (λ (s : CallSoFar). s.base) c.self.view_is

pub returns-clause-key : goal.returns-clause-key
returns-clause-key c = ap key_of c.in_ok-kept.ensures.token ∙ ap (λ (s : CallSoFar). s.key) c.self.view_is

pub returns-clause-found : goal.returns-clause-found
returns-clause-found c = c.in_ok-kept.ensures.found ∙ c.self.invariant.0
