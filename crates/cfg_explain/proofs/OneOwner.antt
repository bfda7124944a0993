-- Of one journal there is one list of owners, exactly where it is that of a call.
use Rattle.std.specs.Prelude.{◌↔◌, slice_get, IsTrue}
use Rattle.std.proofs.Common.{◌≡◌, ℕ, zero, suc, List, [], ◌∷◌, length, take, Bool, true, false, Option, Some, None, IsSome, refl, sym, ap, ◌∙◌, arith}
use Rattle.cfg_world.specs.Fits.{Pair}
use Rattle.cfg_kept.specs.Kinds.{Value, States}
use Rattle.cfg_providers.specs.CustomSources.{Answer}
use Rattle.cfg_chain.specs.BegunCalls.{HasEnded}
use Rattle.cfg_chain.specs.Members.{name_of}
use Rattle.cfg_chain.specs.Settings.{ChainSetting}
use Rattle.cfg_run.proofs.Askers.{one_member}
use Rattle.cfg_explain.specs.Owners.{IsOwnedBy, AreOwners, Owns, is_of_a_call}
use Rattle.cfg_explain.specs.Verdicts.{Judges}
use Rattle.cfg_explain.specs.declared.verdict.Verdict.{Verdict}
use Rattle.cfg_explain.specs.declared.verdict.Verdict.TheVariants.{Yes, Other, Short, Long, Outcome}
use Rattle.cfg_explain.proofs.JournalSteps.{some_is}
use Rattle.cfg_explain.proofs.OwnerSteps.{long_is_none, other_is_none, short_is_none}

-- lists that have the same at each place
same_items : {A : Type 0} (xs ys : List A) → length xs ≡ length ys → ((at : ℕ) (x y : A) → slice_get xs at ≡ Some x → slice_get ys at ≡ Some y → x ≡ y) → xs ≡ ys
same_items [] [] long each = refl
same_items [] (y ∷ ys) long each = absurd (omega (arith, long))
same_items (x ∷ xs) [] long each = absurd (omega (arith, long))
same_items (x ∷ xs) (y ∷ ys) long each = ap (λ z. z ∷ xs) (each zero x y refl refl) ∙ ap (λ zs. y ∷ zs) (same_items xs ys (omega (arith, long)) (λ at. each (suc at)))

module _ (over : ChainSetting) (old : States) (journal : List Pair) where
  one_owner : (at : ℕ) (name other : List ℕ) → IsOwnedBy over old journal at name → IsOwnedBy over old journal at other → name ≡ other
  one_owner at name other a b =
      let same = one_member over old a.new b.new a.found b.found (take at journal) a.entry.0 b.entry.0 (Some a.who) (Some b.who) a.asks b.asks in
      sym a.is ∙ ap name_of (some_is same) ∙ b.is

  pub same_owners : (names also : List (List ℕ)) → length names ≡ length journal → length also ≡ length journal → AreOwners over old journal names → AreOwners over old journal also → names ≡ also
  same_owners names also m n a b = same_items names also (m ∙ sym n) (λ at name other h k. one_owner at name other (a at name h) (b at other k))

  pub one_list : (new newer : States) (found more : List Value) (names also : Option (List (List ℕ))) → Owns over old new found journal names → Owns over old newer more journal also → names ≡ also
  one_list new newer found more (Some names) (Some also) o p = ap Some (same_owners names also o.1 p.1 o.2 p.2)
  one_list new newer found more (Some names) None o p = absurd (p (new, found, o.0.0, o.0.1))
  one_list new newer found more None (Some also) o p = absurd (o (newer, more, p.0.0, p.0.1))
  one_list new newer found more None None o p = refl

  -- a journal of a call has owners, and another has none
  told_exactly : (b : Bool) (new : States) (found : List Value) (names : Option (List (List ℕ))) → Owns over old new found journal names → (IsTrue b → HasEnded over old journal) → (HasEnded over old journal → IsTrue b) → IsSome names ↔ IsTrue b
  told_exactly b new found (Some names) o ends is = (λ s. is (new, found, o.0.0, o.0.1), λ t. refl)
  told_exactly b new found None o ends is = (λ s. absurd (none_is s), λ t. absurd (o (ends t)))
    where
      none_is : IsSome (let o : Option (List (List ℕ)) = None in o) → ⊥
      none_is e = cc

  no_call : (verdict : Verdict) → is_of_a_call verdict ≡ false → (HasEnded over old journal → ⊥) → (IsTrue (is_of_a_call verdict) → HasEnded over old journal) × (HasEnded over old journal → IsTrue (is_of_a_call verdict))
  no_call verdict f never = (λ t. absurd (false_true (sym f ∙ t)), λ e. absurd (never e))
    where
      false_true : false ≡ true → ⊥
      false_true h = cc

  of_call : (new : States) (found : List Value) (out : Answer) (verdict : Verdict) → Judges over old new found journal out verdict →
      (IsTrue (is_of_a_call verdict) → HasEnded over old journal) × (HasEnded over old journal → IsTrue (is_of_a_call verdict))
  of_call new found out Yes j = (λ t. (new, found, j.0, j.1), λ e. refl)
  of_call new found out Outcome j = (λ t. (j.new, j.found, j.given, j.call), λ e. refl)
  of_call new found out (Other at wanted) j = no_call (Other at wanted) refl (other_is_none over old journal at j.entry wanted j.there j.next j.other)
  of_call new found out (Short wanted) j = no_call (Short wanted) refl (short_is_none over old journal wanted j)
  of_call new found out (Long at) j = no_call (Long at) refl (long_is_none over old journal at j.0 j.1)

  pub owners_exactly : (new newer : States) (found more : List Value) (out : Answer) (verdict : Verdict) (names : Option (List (List ℕ))) → Judges over old new found journal out verdict → Owns over old newer more journal names →
      IsSome names ↔ IsTrue (is_of_a_call verdict)
  owners_exactly new newer found more out verdict names j o =
      let c = of_call new found out verdict j in
      told_exactly (is_of_a_call verdict) newer more names o c.0 c.1
