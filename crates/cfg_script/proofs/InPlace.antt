-- What rows read of members that are put in their places, beside the same members at the head of those that are to come.
use Rattle.std.proofs.Common.{◌≡◌, ℕ, List, Bool, true, false, Option, Some, None, refl, sym, ap, ◌∙◌, cond}
use Rattle.std.specs.Prelude.{Result, Ok, bytes_eq}
use Rattle.std.specs.Ordering.{nat_cmp, is_eq, match_ordering}
use Rattle.std.specs.declared.cmp.Ordering.{Ordering}
use Rattle.std.specs.declared.cmp.Ordering.TheVariants as order
use Rattle.std.specs.Cmp.Lexicographic.{slice_cmp}
use Rattle.std.proofs.lemmas.Map.Text.{is_eq-slice_cmp}
use Rattle.std.proofs.lemmas.Option.{none-some}
use Rattle.std.proofs.lemmas.Slice.Eq.{bytes_eq-Decides}
use Rattle.serde_json.specs.Data.{Data, Members, member}
use Rattle.serde_json.specs.Find.{get_member}
use Rattle.serde_json.specs.View.{view}
use Rattle.serde_json.specs.declared.value.Value.{Value}
use Rattle.cfg_base.specs.Gives.{◌>>=◌}
use Rattle.cfg_script.specs.declared.fault.Fault.{Fault}
use Rattle.cfg_script.specs.Json.{without}
use Rattle.cfg_script.specs.Objects.{MemberForm, member_said}
use Rattle.cfg_script.specs.Places.{with_member}

chosen : {X : Type 0} (o : Ordering) (x y : X) → match_ordering o x y x ≡ cond (is_eq o) y x
chosen order.Less x y = refl
chosen order.Equal x y = refl
chosen order.Greater x y = refl

first_member : (k l : List ℕ) (d : Data) (ms : Members) → get_member k (member l d ms) ≡ cond (bytes_eq k l) (Some d) (get_member k ms)
first_member k l d ms = chosen (slice_cmp nat_cmp k l) (get_member k ms) (Some d) ∙ ap (λ (b : Bool). cond b (Some d) (get_member k ms)) (is_eq-slice_cmp k l)

agree : (b d : Bool) → (b ≡ true → d ≡ true) → (d ≡ true → b ≡ true) → b ≡ d
agree true true f g = refl
agree true false f g = sym (f refl)
agree false true f g = g refl
agree false false f g = refl

either_way : (k l : List ℕ) → bytes_eq k l ≡ bytes_eq l k
either_way k l = agree (bytes_eq k l) (bytes_eq l k)
    (λ e. (bytes_eq-Decides l k).1 (sym ((bytes_eq-Decides k l).0 e)))
    (λ e. (bytes_eq-Decides k l).1 (sym ((bytes_eq-Decides l k).0 e)))

of_this_name : (k l : List ℕ) (d : Data) (ms : Members) (b : Bool) → bytes_eq l k ≡ b → get_member k (member l d ms) ≡ cond b (Some d) (get_member k ms)
of_this_name k l d ms b e = first_member k l d ms ∙ ap (λ (b : Bool). cond b (Some d) (get_member k ms)) (either_way k l ∙ e)

others : (k l : List ℕ) (d : Data) (ms : Members) (b : Bool) → bytes_eq l k ≡ b → without k (member l d ms) ≡ cond b ms (member l d (without k ms))
others k l d ms b e = ap (λ (b : Bool). cond b ms (member l d (without k ms))) (either_way k l ∙ e)

-- what a member says, and then those behind it
abbrev then_rest : {A B : Type 0} → Result A Fault → Result B Fault → Result (A × B) Fault
then_rest said rest = said >>= λ a. rest >>= λ b. Ok (a, b)

module _ {A B : Type 0} (first : MemberForm A) (name : List ℕ) where
  pub put_here : (rest : Members → Result B Fault) (v : Value) (o : Option Value) → o ≡ None → bytes_eq name first.name ≡ true → (ms : Members)
      → with_member first rest o (member name (view v) ms) ≡ with_member first rest (Some v) ms
  put_here rest v None empty e ms =
      ap (λ m. then_rest (member_said first m) (rest (without first.name (member name (view v) ms)))) (of_this_name first.name name (view v) ms true e)
      ∙ ap (λ ns. then_rest (member_said first (Some (view v))) (rest ns)) (others first.name name (view v) ms true e)
  put_here rest v (Some w) empty e ms = absurd (none-some w (sym empty))

  pub put_behind : (rest after : Members → Result B Fault) (d : Data) (o : Option Value) → bytes_eq name first.name ≡ false → ((ns : Members) → rest (member name d ns) ≡ after ns) → (ms : Members)
      → with_member first rest o (member name d ms) ≡ with_member first after o ms
  put_behind rest after d None e h ms =
      ap (λ m. then_rest (member_said first m) (rest (without first.name (member name d ms)))) (of_this_name first.name name d ms false e)
      ∙ ap (λ ns. then_rest (member_said first (get_member first.name ms)) (rest ns)) (others first.name name d ms false e)
      ∙ ap (λ r. then_rest (member_said first (get_member first.name ms)) r) (h (without first.name ms))
  put_behind rest after d (Some v) e h ms = ap (λ r. then_rest (member_said first (Some (view v))) r) (h ms)
