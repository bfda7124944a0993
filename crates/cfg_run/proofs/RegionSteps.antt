-- What a run of an inquiry may be handed, and what comes of it.
use Rattle.std.proofs.Common.{◌≡◌, List, [], ◌∷◌, ◌++◌, Option, Some, None, IfSome, option_to_list, sym, ◌∙◌, subst, append-nil}
use Rattle.cfg_world.specs.declared.ask.Question.{Question}
use Rattle.cfg_world.specs.Fits.{Pair}
use Rattle.cfg_world.specs.Inquiry.{Inquiry, Done, Ask, AsksNext, Begun}
use Rattle.cfg_world.proofs.Inquiries.{begun_here}
use Rattle.cfg_run.specs.RegionRuns.{IsUnderWay}
use Rattle.cfg_run.proofs.ReplaySteps.{some_is, no_question}

-- where a question is next, the journal has begun
asks_begun : {R : Type 0} (p : Inquiry R) (asked : List Pair) (q : Question) → AsksNext p asked q → Begun p asked
asks_begun (Done r) asked q h = absurd h
asks_begun (Ask s next) [] q h = tt
asks_begun (Ask s next) (e ∷ asked) q h = (h.0, asks_begun (next e.1) asked q h.1)

-- and an entry of this question goes on
entry_begun : {R : Type 0} (p : Inquiry R) (asked : List Pair) (e : Pair) → AsksNext p asked e.0 → Begun p (asked ++ e ∷ [])
entry_begun (Done r) asked e h = absurd h
entry_begun (Ask q next) [] e h = (sym h, begun_here (next e.1))
entry_begun (Ask q next) (d ∷ asked) e h = (h.0, entry_begun (next d.1) asked e h.1)

-- what was asked so far has begun, with the receipt of a poll too
pub handed_begun : {R : Type 0} (p : Inquiry R) (asked : List Pair) (question : Option Question) (receipt : Option Pair) →
    IsUnderWay p asked question → IfSome receipt (λ e. question ≡ Some e.0) → Begun p (asked ++ option_to_list receipt)
handed_begun p asked None None h fits = subst (Begun p) (sym (append-nil asked ∙ h)) (begun_here p)
handed_begun p asked None (Some e) h fits = absurd (no_question e.0 fits)
handed_begun p asked (Some q) None h fits = subst (Begun p) (sym (append-nil asked)) (asks_begun p asked q h)
handed_begun p asked (Some q) (Some e) h fits = entry_begun p asked e (subst (AsksNext p asked) (some_is q e.0 fits) h)
