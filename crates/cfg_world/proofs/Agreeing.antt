-- One inquiry over answers that agree has one journal and one outcome.
use Rattle.std.proofs.Common.{◌≡◌, List, [], ◌∷◌, refl, sym, ap, ◌∙◌, subst}
use Rattle.cfg_world.specs.declared.script.DeviceLists.{DeviceLists}
use Rattle.cfg_world.specs.Fits.{Pair}
use Rattle.cfg_world.specs.Inquiry.{Inquiry, Done, Ask, Reads}
use Rattle.cfg_world.specs.Script.{Place, answer_at, place_after, Given}
use Rattle.cfg_world.specs.Agreeing.{AnswerAlike}

pub same_entry : (e f : Pair) → e.0 ≡ f.0 → e.1 ≡ f.1 → e ≡ f
same_entry (q, a) (r, b) p s = cc

pub one_journal : {R : Type 0} (p : Inquiry R) (one other : List Pair) (x y : R) →
    Reads p one x → Reads p other y → AnswerAlike one other → (one ≡ other) × (x ≡ y)
one_journal (Done r) [] [] x y h k a = (refl, sym h ∙ k)
one_journal (Done r) [] (f ∷ other) x y h k a = absurd k
one_journal (Done r) (e ∷ one) other x y h k a = absurd h
one_journal (Ask q next) [] other x y h k a = absurd h
one_journal (Ask q next) (e ∷ one) [] x y h k a = absurd k
one_journal (Ask q next) (e ∷ one) (f ∷ other) x y h k a =
    let alike = a (h.0 ∙ sym k.0) in
    let rest = one_journal (next e.1) one other x y h.1 (subst (λ b. Reads (next b) other y) (sym alike.0) k.1) alike.1 in
    (ap (λ t. e ∷ t) rest.0 ∙ ap (λ t. t ∷ other) (same_entry e f (h.0 ∙ sym k.0) alike.0), rest.1)

-- the lists that one script gives from one place
pub given_alike : (lists : DeviceLists) (place : Place) (one other : List Pair) → Given lists place one → Given lists place other → AnswerAlike one other
given_alike lists place [] other g h = tt
given_alike lists place (e ∷ one) [] g h = tt
given_alike lists place (e ∷ one) (f ∷ other) g h = λ same. (
  g.0 ∙ ap (answer_at lists place) same ∙ sym h.0,
  given_alike lists (place_after lists place e.0) one other g.1 (subst (λ q. Given lists (place_after lists place q) other) (sym same) h.1),
)

pub one_script_one_journal : {R : Type 0} (p : Inquiry R) (lists : DeviceLists) (place : Place) (one other : List Pair) (x y : R) →
    Given lists place one → Given lists place other → Reads p one x → Reads p other y → (one ≡ other) × (x ≡ y)
one_script_one_journal p lists place one other x y g h r s = one_journal p one other x y r s (given_alike lists place one other g h)
