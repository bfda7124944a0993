-- The last entry for a role, with one entry more.
use Rattle.std.proofs.Common.{◌≡◌, ℕ, zero, suc, ◌<◌, ◌≤◌, ◌+◌, List, [], ◌∷◌, ◌++◌, length, Option, Some, None, refl, sym, ◌∙◌, ap, subst, append_assoc, arith, add-one, length-append}
use Rattle.std.specs.Prelude.{is_some, true}
use Rattle.std.specs.Borrow.{Bor}
use Rattle.std.specs.Option.{option_copied}
use Rattle.cfg_types.specs.Keys.{Keys}
use Rattle.cfg_world.specs.Fits.{Pair}
use Rattle.cfg_run.specs.declared.last_role.LastRole.{LastRole}
use Rattle.cfg_run.specs.Roles.{signer_in, counted, roles_in, IsAtRole, IsLastRole}

none_counted : (o : Option Keys) (n : ℕ) → counted o n ≡ zero → (o ≡ None) × (n ≡ zero)
none_counted (Some signer) n h = absurd (differs n h)
  where
    differs : (m : ℕ) → suc m ≡ zero → ⊥
    differs m e = omega (arith, e)
none_counted None n h = (refl, h)

none_more : (journal : List Pair) (e : Pair) → roles_in journal ≡ zero → signer_in e.0 ≡ None → roles_in (journal ++ e ∷ []) ≡ zero
none_more [] e h is = ap (λ o. counted o zero) is
none_more (d ∷ journal) e h is =
    let n = none_counted (signer_in d.0) (roles_in journal) h in
    ap (λ o. counted o (roles_in (journal ++ e ∷ []))) n.0 ∙ none_more journal e n.1 is

counted_more : (o : Option Keys) (n : ℕ) → counted o (suc n) ≡ suc (counted o n)
counted_more (Some signer) n = refl
counted_more None n = refl

counted_parts : (front : List Pair) (e : Pair) (behind : List Pair) (signer : Keys) → signer_in e.0 ≡ Some signer → roles_in behind ≡ zero → roles_in (front ++ e ∷ behind) ≡ suc (roles_in front)
counted_parts [] e behind signer is none = ap (λ o. counted o (roles_in behind)) is ∙ ap suc none
counted_parts (d ∷ front) e behind signer is none = ap (counted (signer_in d.0)) (counted_parts front e behind signer is none) ∙ counted_more (signer_in d.0) (roles_in front)

counted_least : (o : Option Keys) (n m : ℕ) → n ≤ m → counted o n ≤ suc m
counted_least (Some signer) n m h = omega (arith, h)
counted_least None n m h = omega (arith, h)

few_in : (journal : List Pair) → roles_in journal ≤ length journal
few_in [] = omega arith
few_in (d ∷ journal) = counted_least (signer_in d.0) (roles_in journal) (length journal) (few_in journal)

longer : (front : List Pair) (e : Pair) (behind : List Pair) → length front < length (front ++ e ∷ behind)
longer front e behind = omega (arith, length-append front (e ∷ behind))

-- not every entry is for a role before the last one
pub number_below : (journal : List Pair) (last : LastRole) → IsAtRole last journal → last.number < length journal
number_below journal last a =
    subst (λ n. n < length journal) (sym a.number) (subst (λ j. roles_in a.front < length j) (sym a.is.parts) (omega (arith, few_in a.front, longer a.front a.entry a.behind)))

-- behind an entry that is for none the last one stays
pub stays_last : (last : Option LastRole) (journal : List Pair) (e : Pair) → IsLastRole last journal → signer_in e.0 ≡ None → IsLastRole last (journal ++ e ∷ [])
stays_last None journal e h is = none_more journal e h is
stays_last (Some last) journal e a is = record {
  front = a.front;
  entry = a.entry;
  behind = a.behind ++ e ∷ [];
  signer = a.signer;
  is = record { parts = ap (λ t. t ++ e ∷ []) a.is.parts ∙ append_assoc a.front (a.entry ∷ a.behind) (e ∷ []); signed = a.is.signed };
  at = a.at;
  number = a.number;
  none = none_more a.behind e a.none is;
}

here : (journal : List Pair) (e : Pair) (signer : Keys) (number : ℕ) → signer_in e.0 ≡ Some signer → number ≡ roles_in journal → IsAtRole (record { at = length journal; number = number }) (journal ++ e ∷ [])
here journal e signer number is counts =
    record { front = journal; entry = e; behind = []; signer = signer; is = record { parts = refl; signed = is }; at = refl; number = counts; none = refl }

-- an entry for a role is the last one
pub first_role : (journal : List Pair) (e : Pair) (signer : Keys) → signer_in e.0 ≡ Some signer → roles_in journal ≡ zero → IsAtRole (record { at = length journal; number = 0 }) (journal ++ e ∷ [])
first_role journal e signer is none = here journal e signer 0 is (sym none)

pub later_role : (journal : List Pair) (last : LastRole) (e : Pair) (signer : Keys) → signer_in e.0 ≡ Some signer → IsAtRole last journal → IsAtRole (record { at = length journal; number = last.number + 1 }) (journal ++ e ∷ [])
later_role journal last e signer is a =
    here journal e signer (last.number + 1) is (add-one last.number ∙ ap suc a.number ∙ sym (ap roles_in a.is.parts ∙ counted_parts a.front a.entry a.behind a.signer a.is.signed a.none))

-- whose credentials are told sign
pub signer_told : (told : Option (Bor Keys)) (o : Option Keys) → option_copied told ≡ o → is_some told ≡ true → (signer : Keys) × (o ≡ Some signer)
signer_told None o is some = absurd cc
signer_told (Some signer) o is some = (signer.now, sym is)
