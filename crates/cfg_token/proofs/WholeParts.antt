-- Receipts that are a whole part of an inquiry, and those that are its beginning.
use Rattle.std.specs.Prelude.{◌↔◌}
use Rattle.std.proofs.Common.{◌≡◌, List, [], ◌∷◌, ◌++◌, Option, Some, None, IfSome, IsSome, refl, sym, ◌∙◌, ap, subst, append-nil}
use Rattle.cfg_world.specs.declared.ask.Question.{Question}
use Rattle.cfg_world.specs.Fits.{Pair}
use Rattle.cfg_world.specs.Inquiry.{Inquiry, Done, Ask, Reads, AsksNext, Begun}
use Rattle.cfg_world.specs.Replayed.{Replayed, all_entries, IsNext}
use Rattle.cfg_token.specs.Replays.{IsWhole, IsLeftOpen}

-- behind a whole part nothing is begun
pub whole_left : {R : Type 0} (p : Inquiry R) (part left : List Pair) (out : R) → Reads p part out → Begun p (part ++ left) → left ≡ []
whole_left (Done r) [] [] out h b = refl
whole_left (Done r) [] (e ∷ left) out h b = absurd b
whole_left (Done r) (e ∷ part) left out h b = absurd h
whole_left (Ask q next) [] left out h b = absurd h
whole_left (Ask q next) (e ∷ part) left out h b = whole_left (next e.1) part left out h.1 b.1

-- where the next entry does not answer the question that is next, there is none
pub asked_left : {R : Type 0} (p : Inquiry R) (part left : List Pair) (q : Question) → AsksNext p part q → Begun p (part ++ left) → (IsNext left q → ⊥) → left ≡ []
asked_left (Done r) part left q h b differs = absurd h
asked_left (Ask asked next) [] [] q h b differs = refl
asked_left (Ask asked next) [] (e ∷ left) q h b differs = absurd (differs (b.0 ∙ h))
asked_left (Ask asked next) (e ∷ part) left q h b differs = asked_left (next e.1) part left q h.1 b.1 differs

-- after a whole part nothing is asked
pub whole_asks_nothing : {R : Type 0} (p : Inquiry R) (part : List Pair) (out : R) (q : Question) → Reads p part out → AsksNext p part q → ⊥
whole_asks_nothing (Done r) part out q h a = a
whole_asks_nothing (Ask asked next) [] out q h a = h
whole_asks_nothing (Ask asked next) (e ∷ part) out q h a = whole_asks_nothing (next e.1) part out q h.1 a.1

-- ---- receipts of which a part was handed out, and the rest is left

module _ {R : Type 0} (p : Inquiry R) (receipts given : List Pair) (old now : Replayed) (part : List Pair) where
  -- of these receipts none was handed out at first, and then this part
  pub record Handed : Type 0 where
    pub begun : Begun p receipts
    pub given_is : given ≡ receipts
    pub old_is : old ≡ record { handed = []; left = given; unanswered = None }
    pub grows : now.handed ≡ old.handed ++ part
    pub made : all_entries now ≡ all_entries old

  handed_is : Handed → receipts ≡ part ++ now.left
  handed_is h = sym (h.made ∙ ap all_entries h.old_is ∙ h.given_is) ∙ ap (λ (x : List Pair). x ++ now.left) (h.grows ∙ ap (λ (o : Replayed). o.handed ++ part) h.old_is)

  left_begun : Handed → Begun p (part ++ now.left)
  left_begun h = subst (λ x. Begun p x) (handed_is h) h.begun

  -- what was read to its end is all there is
  pub all_read : (out : R) → Handed → Reads p part out → receipts ≡ part
  all_read out h r = handed_is h ∙ ap (λ (x : List Pair). part ++ x) (whole_left p part now.left out r (left_begun h)) ∙ append-nil part

  -- what is left open stands behind all there is
  pub all_asked : Handed → (asked : Option Question) → IfSome asked (AsksNext p part) → IsLeftOpen now.left asked → IfSome asked (AsksNext p receipts)
  all_asked h None a differs = tt
  all_asked h (Some q) a differs =
      let none : now.left ≡ [] = asked_left p part now.left q a (left_begun h) differs in
      subst (λ x. AsksNext p x q) (sym (handed_is h ∙ ap (λ (x : List Pair). part ++ x) none ∙ append-nil part)) a

-- a question that is next says that the receipts are no whole part
pub asked_is_no_whole : {R : Type 0} (p : Inquiry R) (receipts : List Pair) (asked : Option Question) → IsSome asked → IfSome asked (AsksNext p receipts) → (asked ≡ None) ↔ IsWhole p receipts
asked_is_no_whole {R} p receipts None some h = absurd (never some)
  where
    never : IsSome (let none : Option Question = None in none) → ⊥
    never e = cc
asked_is_no_whole {R} p receipts (Some q) some h = ((λ e. absurd (never e)), (λ w. absurd (whole_asks_nothing p receipts w.0 q w.1 h)))
  where
    never : Some q ≡ None → ⊥
    never e = cc

pub whole_is : {R : Type 0} (p : Inquiry R) (receipts : List Pair) (out : R) → Reads p receipts out → (let none : Option Question = None in none ≡ None) ↔ IsWhole p receipts
whole_is p receipts out h = ((λ e. (out, h)), (λ w. refl))
