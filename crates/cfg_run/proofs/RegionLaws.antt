-- What a poll of a region says is so exactly where it is said, and polls without a receipt change nothing.
use Rattle.std.specs.Prelude.{◌↔◌}
use Rattle.std.proofs.Common.{◌≡◌, List, [], ◌∷◌, Option, Some, None, IsSome, refl, sym, ap, ◌∙◌, subst}
use Rattle.cfg_world.specs.declared.ask.Question.{Question}
use Rattle.cfg_world.specs.Fits.{Pair}
use Rattle.cfg_world.specs.Inquiry.{Inquiry, Done, Ask, Reads, AsksNext}
use Rattle.cfg_token.proofs.WholeParts.{whole_asks_nothing}
use Rattle.cfg_region.specs.Chains.{first_given}
use Rattle.cfg_region.specs.Environments.{Told}
use Rattle.cfg_region.proofs.Chains.{parts_chain}
use Rattle.cfg_run.specs.SoFar.{AskedSoFar}
use Rattle.cfg_run.specs.RegionRuns.{IsUnderWay, ComesTo}
use Rattle.cfg_run.specs.declared.region_run.RegionStep.{RegionStep}
use Rattle.cfg_run.specs.declared.region_run.RegionStep.TheVariants.{Pending, Ready}

not_pending : (region : Told) → Ready region ≡ Pending → ⊥
not_pending region h = cc

no_question : (q : Option Question) → IsSome q → q ≡ None → ⊥
no_question None some h = absurd (none some)
  where
    none : IsSome (let o : Option Question = None in o) → ⊥
    none e = cc
no_question (Some q) some h = cc

-- there is one next question
one_next : {R : Type 0} (p : Inquiry R) (journal : List Pair) (q r : Question) → AsksNext p journal q → AsksNext p journal r → q ≡ r
one_next (Done x) journal q r h k = absurd h
one_next (Ask s next) [] q r h k = cc
one_next (Ask s next) (e ∷ journal) q r h k = one_next (next e.1) journal q r h.1 k.1

-- the question that is shown is next
shown : {R : Type 0} (p : Inquiry R) (asked : List Pair) (question : Option Question) → IsSome question → IsUnderWay p asked question → (q : Question) × (question ≡ Some q) × AsksNext p asked q
shown p asked None some h = absurd (no_question None some refl)
shown p asked (Some q) some h = (q, refl, h)

pub pending_exactly : (trees : List (Inquiry Told)) (s : AskedSoFar) (step : RegionStep) → ComesTo trees s step → (step ≡ Pending) ↔ ((question : Question) × AsksNext (first_given trees) s.asked question)
pending_exactly trees s Pending h = (λ _. let q = shown (first_given trees) s.asked s.question h.0 h.1 in (q.0, q.2), λ _. refl)
pending_exactly trees s (Ready region) h =
    (λ e. absurd (not_pending region e), λ n. absurd (whole_asks_nothing (first_given trees) s.asked region n.0 (parts_chain trees s.asked region h.1) n.1))

pub same_shown : (before later : AskedSoFar) (q r : Question) → before.question ≡ Some q → later.question ≡ Some r → r ≡ q → later.asked ≡ before.asked → later ≡ before
same_shown before later q r one other same asked = λ i. record { asked = asked i; question = (other ∙ ap Some same ∙ sym one) i }

pub by_receipts : (trees : List (Inquiry Told)) (before later : AskedSoFar) (step : RegionStep) → IsSome before.question → IsUnderWay (first_given trees) before.asked before.question →
    later.asked ≡ before.asked → ComesTo trees later step → (step ≡ Pending) × (later ≡ before)
by_receipts trees before later Pending some h asked c =
    let q = shown (first_given trees) before.asked before.question some h in
    let r = shown (first_given trees) later.asked later.question c.0 c.1 in
    (refl, same_shown before later q.0 r.0 q.1 r.1 (one_next (first_given trees) before.asked r.0 q.0 (subst (λ j. AsksNext (first_given trees) j r.0) asked r.2) q.2) asked)
by_receipts trees before later (Ready region) some h asked c =
    let q = shown (first_given trees) before.asked before.question some h in
    absurd (whole_asks_nothing (first_given trees) before.asked region q.0 (subst (λ j. Reads (first_given trees) j region) asked (parts_chain trees later.asked region c.1)) q.2)
