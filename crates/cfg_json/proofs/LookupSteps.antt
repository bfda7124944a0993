-- One member more.
use Rattle.std.specs.Option.{option_or}
use Rattle.std.proofs.Common.{◌≡◌, ℕ, ◌+◌, ◌<◌, List, [], ◌∷◌, ◌++◌, length, take, get_or, Option, Some, None, option_map, refl, sym, ap, ◌∙◌}
use Rattle.std.proofs.lemmas.List.{take_more}
use Rattle.cfg_json.specs.Lookups.{last_given}
use Rattle.cfg_json.specs.declared.member.Member.{Member}

or_else_assoc : {A : Type 0} (a b c : Option A) → option_or (option_or a b) c ≡ option_or a (option_or b c)
or_else_assoc (Some x) b c = refl
or_else_assoc None b c = refl

none_right : {A : Type 0} (a : Option A) → option_or a None ≡ a
none_right (Some x) = refl
none_right None = refl

last_given-push : {A : Type 0} (give : Member → Option A) (ms : List Member) (m : Member) → last_given give (ms ++ m ∷ []) ≡ option_or (give m) (last_given give ms)
last_given-push give [] m = sym (none_right (give m))
last_given-push give (x ∷ ms) m = ap (λ o. option_or o (give x)) (last_given-push give ms m) ∙ or_else_assoc (give m) (last_given give ms) (give x)

pub one_member : {A : Type 0} (give : Member → Option A) (ms : List Member) (i : ℕ) (m : Member) (found here now : Option A) → i < length ms → m ≡ get_or ms i m → found ≡ last_given give (take i ms) → here ≡ give m → now ≡ option_or here found → now ≡ last_given give (take (i + 1) ms)
one_member give ms i m found here now lt is so_far e made =
    made ∙ ap (λ o. option_or o found) e ∙ ap (option_or (give m)) so_far ∙ sym (last_given-push give (take i ms) m) ∙ ap (λ (x : Member). last_given give (take i ms ++ x ∷ [])) is ∙ sym (ap (last_given give) (take_more ms i m lt))

pub mapped_or : {A B : Type 0} (f : A → B) (made first other : Option A) → made ≡ option_or first other → option_map f made ≡ option_or (option_map f first) (option_map f other)
mapped_or {A = A} f made first other is = ap (option_map f) is ∙ by_first first where
  by_first : (o : Option A) → option_map f (option_or o other) ≡ option_or (option_map f o) (option_map f other)
  by_first (Some x) = refl
  by_first None = refl
