-- A call over a world, and what it leaves.
use Rattle.std.proofs.Common.{◌≡◌, List, [], ◌∷◌, None}
use Rattle.std.specs.Prelude.{IsSome, Result, Ok, Err}
use Rattle.cfg_world.specs.declared.ask.Question.{Question}
use Rattle.cfg_world.specs.declared.asking.Asking.{Ghosts}
use Rattle.cfg_world.specs.declared.asking.Stop.{Stop}
use Rattle.cfg_world.specs.declared.asking.Stop.TheVariants.{OutOfMemory, Open}
use Rattle.cfg_world.specs.Fits.{Pair}
use Rattle.cfg_world.specs.Inquiry.{Inquiry, Done, Ask, Reads, Begun}
use Rattle.cfg_world.specs.Follows.{Breaks, Halts}

pub read_begun : {R : Type 0} (p : Inquiry R) (journal : List Pair) (out : R) → Reads p journal out → Begun p journal
read_begun (Done r) [] out h = tt
read_begun (Done r) (e ∷ journal) out h = absurd h
read_begun (Ask q next) [] out h = absurd h
read_begun (Ask q next) (e ∷ journal) out h = (h.0, read_begun (next e.1) journal out h.1)

-- none is not some
pub no_question : IsSome {T = Question} None → ⊥
no_question h = absurd cc

-- where no question is left open, memory ran out
pub broken : {W R : Type 0} {w : Ghosts W} {p : Inquiry R} {old new : W} (stop : Stop) → Halts w p old new stop → (IsSome (w.open_question new) → ⊥) → Breaks w p old new
broken Open h n = absurd (n h.is_open)
broken OutOfMemory h n = h

abbrev answered : {A E : Type 0} → A → Result A E
answered x = Ok x

-- a call that answered was not stopped
pub not_stopped : {A E : Type 0} (x : A) (e : E) → answered x ≡ Err e → ⊥
not_stopped x e h = absurd cc
