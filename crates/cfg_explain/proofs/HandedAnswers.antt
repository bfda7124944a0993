-- What devices answer that were handed the answers of a list.
use Rattle.std.proofs.Common.{◌≡◌, ℕ, zero, suc, ◌+◌, List, [], ◌∷◌, map, Some, sym, ap, subst, add-one, arith}
use Rattle.std.specs.Prelude.{slice_get}
use Rattle.cfg_world.specs.declared.ask.Answer.{Answer}
use Rattle.cfg_world.specs.Fits.{Pair, Fits, EachFits}
use Rattle.cfg_world.specs.Agreeing.{AnswerAlike}
use Rattle.cfg_world.specs.Asked.{Same, StandsOn}
use Rattle.cfg_world.specs.Handed.{Handed, GivenFrom, IsGiven, Allows, Stands}
use Rattle.cfg_world.specs.Tallies.{no_faults}

-- devices with these answers, that were asked nothing
abbrev pub fresh : List Answer → Handed
fresh answers = record { answers = answers; used = 0; questions = 0; faults = no_faults }

-- the part for which they stand afterwards is one that their answers give
pub handed_part : (a b : Handed) (answers : List Answer) (part : List Pair) → a ≡ fresh answers → StandsOn (Stands a) (Stands b) part → Same (Allows a) (Allows b) → GivenFrom answers 0 part
handed_part a b answers part is stands allows =
    let new : Stands (fresh answers) [] = record { given = tt; used = omega arith; questions = omega arith } in
    let here : GivenFrom a.answers 0 part = allows.from part (stands [] (subst (λ h. Stands h []) (sym is) new)).given in
    subst (λ xs. GivenFrom xs 0 part) (ap (λ (h : Handed). h.answers) is) here

-- behind the first answer
shifted : (a : Answer) (answers : List Answer) (n : ℕ) (entries : List Pair) → GivenFrom (a ∷ answers) (n + 1) entries → GivenFrom answers n entries
shifted a answers n [] g = tt
shifted a answers n (e ∷ entries) g = (rw add-one at g.0, shifted a answers (n + 1) entries g.1)

-- those that were handed the answers of a journal answer as it does, as far as both ask the same
pub handed_alike : (part journal : List Pair) → EachFits journal → GivenFrom (map (λ e. e.1) journal) 0 part → AnswerAlike part journal
handed_alike [] journal fits g = tt
handed_alike (e ∷ part) [] fits g = tt
handed_alike (e ∷ part) (f ∷ journal) fits g = λ same. (
  g.0.0 (subst (λ q. Fits q f.1) (sym same) fits.0),
  handed_alike part journal fits.1 (shifted f.1 (map (λ x. x.1) journal) 0 part g.1),
)

-- the answer at a place is given by the one that was handed in for it
pub given_at : (answers : List Answer) (entries : List Pair) (k : ℕ) (e : Pair) → GivenFrom answers 0 entries → slice_get entries k ≡ Some e → IsGiven (slice_get answers k) e.0 e.1
given_at answers entries k e g h = subst (λ n. IsGiven (slice_get answers n) e.0 e.1) (omega arith) (from 0 entries k g h)
  where
    some_is : {A : Type 0} {x y : A} → Some x ≡ Some y → x ≡ y
    some_is e = cc

    from : (n : ℕ) (entries : List Pair) (k : ℕ) → GivenFrom answers n entries → slice_get entries k ≡ Some e → IsGiven (slice_get answers (n + k)) e.0 e.1
    from n [] zero g h = cc
    from n [] (suc k) g h = cc
    from n (x ∷ entries) zero g h = subst (λ m. IsGiven (slice_get answers m) e.0 e.1) (omega arith) (subst (λ (y : Pair). IsGiven (slice_get answers n) y.0 y.1) (some_is h) g.0)
    from n (x ∷ entries) (suc k) g h = subst (λ m. IsGiven (slice_get answers m) e.0 e.1) (omega arith) (from (n + 1) entries k g.1 h)
