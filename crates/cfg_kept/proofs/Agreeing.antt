-- One tree over answers that agree, from one kept state, has one journal, finds the same values and
-- comes to one outcome.
use Rattle.std.proofs.Common.{◌≡◌, List, [], ◌∷◌, Option, Some, refl, sym, ap, ◌∙◌, subst}
use Rattle.cfg_world.specs.Fits.{Pair}
use Rattle.cfg_world.specs.Agreeing.{AnswerAlike}
use Rattle.cfg_world.proofs.Agreeing.{same_entry}
use Rattle.cfg_kept.specs.Kinds.{Spot, Value, States, spot_of, value_at, with_value}
use Rattle.cfg_kept.specs.KeptInquiry.{KeptInquiry, Gives, Puts, Finds, Leaves, Runs}

-- one spot of one kept state has one value
pub same_found : (old : States) (spot : Spot) (f g : Value) → spot_of f ≡ spot → f ≡ value_at old (spot_of f) → spot_of g ≡ spot → g ≡ value_at old (spot_of g) → f ≡ g
same_found old spot f g at is at2 is2 = is ∙ ap (value_at old) (at ∙ sym at2) ∙ sym is2

pub same_first : {A : Type 0} (f g : A) (found more : List A) → f ≡ g → found ≡ more → f ∷ found ≡ g ∷ more
same_first f g found more one other = ap (λ t. f ∷ t) other ∙ ap (λ t. t ∷ more) one

pub one_run : {R : Type 0} (p : KeptInquiry R) (old : States) (found more : List Value) (journal longer : List Pair) (x y : R) (new newer : Option States) →
    Runs p (Some old) found journal x new → Runs p (Some old) more longer y newer → AnswerAlike journal longer → (journal ≡ longer) × (found ≡ more) × (x ≡ y) × (new ≡ newer)
one_run (Gives r) old [] [] [] [] x y new newer h k a = (refl, refl, sym h.0 ∙ k.0, sym h.1 ∙ k.1)
one_run (Gives r) old [] [] [] (d ∷ longer) x y new newer h k a = absurd k
one_run (Gives r) old [] [] (e ∷ journal) longer x y new newer h k a = absurd h
one_run (Gives r) old [] (g ∷ more) journal longer x y new newer h k a = absurd k
one_run (Gives r) old (f ∷ found) more journal longer x y new newer h k a = absurd h
one_run (Puts q n) old found more [] longer x y new newer h k a = absurd h
one_run (Puts q n) old found more (e ∷ journal) [] x y new newer h k a = absurd k
one_run (Puts q n) old found more (e ∷ journal) (d ∷ longer) x y new newer h k a =
    let asks = h.0 ∙ sym k.0 in
    let alike = a asks in
    let rest = one_run (n e.1) old found more journal longer x y new newer h.1 (subst (λ b. Runs (n b) (Some old) more longer y newer) (sym alike.0) k.1) alike.1 in
    (same_first e d journal longer (same_entry e d asks alike.0) rest.0, rest.1, rest.2, rest.3)
one_run (Finds spot n) old [] more journal longer x y new newer h k a = absurd h
one_run (Finds spot n) old (f ∷ found) [] journal longer x y new newer h k a = absurd k
one_run (Finds spot n) old (f ∷ found) (g ∷ more) journal longer x y new newer h k a =
    let same = same_found old spot f g h.0 h.1 k.0 k.1 in
    let rest = one_run (n f) old found more journal longer x y new newer h.2 (subst (λ v. Runs (n v) (Some old) more longer y newer) (sym same) k.2) a in
    (rest.0, same_first f g found more same rest.1, rest.2, rest.3)
one_run (Leaves v p) old found more journal longer x y new newer h k a = one_run p (with_value old v) found more journal longer x y new newer h k a
