-- The characters between quotation marks are read as the grammar says, and what is read is spelled so.
use Rattle.std.proofs.Common.{◌≡◌, ℕ, zero, suc, inl, inr, List, [], ◌∷◌, drop, true, false, cond, Option, Some, None, refl, sym, ap, subst, ◌∙◌}
use Rattle.std.specs.Prelude.{◌==◌, ◌&&◌}
use Rattle.std.proofs.lemmas.Bool.{eqb-true, and_parts, ne_eqb}
use Rattle.cfg_json.specs.Ascii.{backslash, small_u}
use Rattle.cfg_json.specs.Characters.{is_plain, short_escape, code_unit, is_high, is_low, pair_char}
use Rattle.cfg_json.specs.Reads.{◌>>=◌}
use Rattle.cfg_json.specs.Strings.{IsContent}
use Rattle.cfg_json.specs.Reading.{hex_at, low_at, unit_at, escape_at, piece_at, content_of}
use Rattle.cfg_json.proofs.Options.{given, nothing, none_is, given_is, bind_some, chosen, tested}
use Rattle.cfg_json.proofs.StringSteps.{one_piece}
use Rattle.cfg_json.proofs.PlainText.{piece_plain}

-- ---- what is spelled so is read

pub short_is : (x c y : ℕ) → short_escape x ≡ Some c → short_escape y ≡ None → (x == y) ≡ false
short_is x c y e n = ne_eqb x y (λ same. none_is c (sym n ∙ sym (ap short_escape same) ∙ e))

no_escape_u : short_escape small_u ≡ None
unfolding short_escape
no_escape_u = refl

piece_short : (x c : ℕ) (t : List ℕ) → short_escape x ≡ Some c → piece_at (backslash ∷ x ∷ t) ≡ Some (c, 1)
unfolding piece_at escape_at
piece_short x c t e = let u : (x == small_u) ≡ false = short_is x c small_u e no_escape_u in rw (u, e) refl

piece_unit : (a b c d u : ℕ) (t : List ℕ) → code_unit a b c d ≡ Some u → is_high u ≡ false → is_low u ≡ false → piece_at (backslash ∷ small_u ∷ a ∷ b ∷ c ∷ d ∷ t) ≡ Some (u, 5)
unfolding piece_at escape_at unit_at hex_at
piece_unit a b c d u t e high low = rw (e, high, low) refl

piece_pair : (a b c d u e f g h l : ℕ) (t : List ℕ) → code_unit a b c d ≡ Some u → is_high u ≡ true → code_unit e f g h ≡ Some l → is_low l ≡ true
    → piece_at (backslash ∷ small_u ∷ a ∷ b ∷ c ∷ d ∷ backslash ∷ small_u ∷ e ∷ f ∷ g ∷ h ∷ t) ≡ Some (pair_char u l, 11)
unfolding piece_at escape_at unit_at low_at hex_at
piece_pair a b c d u e f g h l t first high second low = rw (first, high, second, low) refl

-- one piece, and then the others
then : (x c n : ℕ) (t s : List ℕ) → piece_at (x ∷ t) ≡ Some (c, n) → content_of 0 (drop n t) ≡ Some s → content_of 0 (x ∷ t) ≡ Some (c ∷ s)
then x c n t s p more = one_piece x c n t p ∙ ap (λ (r : Option (List ℕ)). r >>= λ s. Some (c ∷ s)) more

none_left : content_of 0 [] ≡ Some []
unfolding content_of
none_left = refl

pub content_again : (t s : List ℕ) → IsContent t s → content_of 0 t ≡ Some s
content_again _ _ IsContent.ended = none_left
content_again _ _ (IsContent.plain c t s p more) = then c c 0 t s (piece_plain c t p) (content_again t s more)
content_again _ _ (IsContent.short x c t s e more) = then backslash c 1 (x ∷ t) s (piece_short x c t e) (content_again t s more)
content_again _ _ (IsContent.unit a b c d u t s e high low more) = then backslash u 5 (small_u ∷ a ∷ b ∷ c ∷ d ∷ t) s (piece_unit a b c d u t e high low) (content_again t s more)
content_again _ _ (IsContent.pair a b c d u e f g h l t s first high second low more) =
    then backslash (pair_char u l) 11 (small_u ∷ a ∷ b ∷ c ∷ d ∷ backslash ∷ small_u ∷ e ∷ f ∷ g ∷ h ∷ t) s (piece_pair a b c d u e f g h l t first high second low) (content_again t s more)

-- ---- what is read is spelled so

abbrev Piece : Type 0
Piece = ℕ × ℕ

abbrev a_pair : ℕ → ℕ → Option Piece
a_pair a b = Some (a, b)

first_same : (a b c d : ℕ) → a_pair a b ≡ a_pair c d → a ≡ c
first_same a b c d h = ap (λ (o : Option Piece). elim o [ Some p ↦ p.0 | None ↦ 0 ]) h

second_same : (a b c d : ℕ) → a_pair a b ≡ a_pair c d → b ≡ d
second_same a b c d h = ap (λ (o : Option Piece). elim o [ Some p ↦ p.1 | None ↦ 0 ]) h

-- four digits at the front
record Hex (t : List ℕ) (u : ℕ) : Type 0 where
  a : ℕ
  b : ℕ
  c : ℕ
  d : ℕ
  rest : List ℕ
  text : t ≡ a ∷ b ∷ c ∷ d ∷ rest
  spells : code_unit a b c d ≡ Some u

hex_takes : (t : List ℕ) (u : ℕ) → hex_at t ≡ given u → Hex t u
unfolding hex_at
hex_takes [] u e = absurd (none_is u e)
hex_takes (a ∷ []) u e = absurd (none_is u e)
hex_takes (a ∷ b ∷ []) u e = absurd (none_is u e)
hex_takes (a ∷ b ∷ c ∷ []) u e = absurd (none_is u e)
hex_takes (a ∷ b ∷ c ∷ d ∷ t) u e = record { a = a; b = b; c = c; d = d; rest = t; text = refl; spells = e }

record Low (t : List ℕ) (l : ℕ) : Type 0 where
  digits : List ℕ
  text : t ≡ backslash ∷ small_u ∷ digits
  hex : Hex digits l
  low : is_low l ≡ true

low_if : (digits : List ℕ) (l : ℕ) → (hex_at digits >>= λ l. cond (is_low l) (Some l) None) ≡ given l → Hex digits l × (is_low l ≡ true)
low_if digits l e =
    let p = bind_some (hex_at digits) (λ l. cond (is_low l) (Some l) None) l e in
    let w = tested (is_low p.0) p.0 l p.2 in
    subst (λ (n : ℕ). Hex digits n × (is_low n ≡ true)) w.1 (hex_takes digits p.0 p.1, w.0)

low_takes : (t : List ℕ) (l : ℕ) → low_at t ≡ given l → Low t l
unfolding low_at
low_takes [] l e = absurd (none_is l e)
low_takes (x ∷ []) l e = absurd (none_is l e)
low_takes (x ∷ y ∷ t) l e =
    elim (chosen ((x == backslash) && (y == small_u)) (hex_at t >>= λ l. cond (is_low l) (Some l) None) nothing (given l) e) [
      | inl w ↦ (let q = and_parts _ _ w.0 in let r = low_if t l w.1 in
          record { digits = t; text = rw (eqb-true x backslash q.0, eqb-true y small_u q.1) refl; hex = r.0; low = r.1 })
      | inr w ↦ absurd (none_is l w.1)
    ]

pair_is : (t : List ℕ) (u c n : ℕ) (h : Hex t u) → is_high u ≡ true → (low_at (drop 4 t) >>= λ l. Some (pair_char u l, 11)) ≡ a_pair c n
    → (s : List ℕ) → IsContent (drop n (small_u ∷ t)) s → IsContent (backslash ∷ small_u ∷ t) (c ∷ s)
pair_is t u c n h high e s more =
    let p = bind_some (low_at (drop 4 t)) (λ l. Some (pair_char u l, 11)) (c, n) e in
    let l = low_takes (drop 4 t) p.0 p.1 in
    let k = l.hex in
    let after : drop 4 t ≡ h.rest = ap (drop 4) h.text in
    let all : t ≡ h.a ∷ h.b ∷ h.c ∷ h.d ∷ backslash ∷ small_u ∷ k.a ∷ k.b ∷ k.c ∷ k.d ∷ k.rest =
    h.text ∙ ap (λ (r : List ℕ). h.a ∷ h.b ∷ h.c ∷ h.d ∷ r) (sym after ∙ l.text ∙ ap (λ (r : List ℕ). backslash ∷ small_u ∷ r) k.text) in
    let is_c : pair_char u p.0 ≡ c = first_same _ _ _ _ p.2 in
    let is_n : n ≡ 11 = sym (second_same _ _ _ _ p.2) in
    let left : drop n (small_u ∷ t) ≡ k.rest = ap (λ (m : ℕ). drop m (small_u ∷ t)) is_n ∙ ap (λ (r : List ℕ). drop 10 r) all in
    let rest : IsContent k.rest s = subst (λ (r : List ℕ). IsContent r s) left more in
    subst (λ (r : List ℕ). IsContent (backslash ∷ small_u ∷ r) (c ∷ s)) (sym all)
    (subst (λ (x : ℕ). IsContent (backslash ∷ small_u ∷ h.a ∷ h.b ∷ h.c ∷ h.d ∷ backslash ∷ small_u ∷ k.a ∷ k.b ∷ k.c ∷ k.d ∷ k.rest) (x ∷ s)) is_c
    (IsContent.pair h.a h.b h.c h.d u k.a k.b k.c k.d p.0 k.rest s h.spells high k.spells l.low rest))

one_is : (t : List ℕ) (u c n : ℕ) (h : Hex t u) → is_high u ≡ false → is_low u ≡ false → a_pair u 5 ≡ a_pair c n
    → (s : List ℕ) → IsContent (drop n (small_u ∷ t)) s → IsContent (backslash ∷ small_u ∷ t) (c ∷ s)
one_is t u c n h high low e s more =
    let is_c : u ≡ c = first_same _ _ _ _ e in
    let is_n : n ≡ 5 = sym (second_same _ _ _ _ e) in
    let left : drop n (small_u ∷ t) ≡ h.rest = ap (λ (m : ℕ). drop m (small_u ∷ t)) is_n ∙ ap (λ (r : List ℕ). drop 4 r) h.text in
    let rest : IsContent h.rest s = subst (λ (r : List ℕ). IsContent r s) left more in
    subst (λ (r : List ℕ). IsContent (backslash ∷ small_u ∷ r) (c ∷ s)) (sym h.text)
    (subst (λ (x : ℕ). IsContent (backslash ∷ small_u ∷ h.a ∷ h.b ∷ h.c ∷ h.d ∷ h.rest) (x ∷ s)) is_c (IsContent.unit h.a h.b h.c h.d u h.rest s h.spells high low rest))

unit_is : (t : List ℕ) (c n : ℕ) → unit_at t ≡ a_pair c n → (s : List ℕ) → IsContent (drop n (small_u ∷ t)) s → IsContent (backslash ∷ small_u ∷ t) (c ∷ s)
unfolding unit_at
unit_is t c n e s more =
    let p = bind_some (hex_at t) (λ u. cond (is_high u) (low_at (drop 4 t) >>= λ l. Some (pair_char u l, 11)) (cond (is_low u) None (Some (u, 5)))) (c, n) e in
    let h = hex_takes t p.0 p.1 in
    elim (chosen (is_high p.0) (low_at (drop 4 t) >>= λ l. Some (pair_char p.0 l, 11)) (cond (is_low p.0) None (Some (p.0, 5))) (a_pair c n) p.2) [
      | inl w ↦ pair_is t p.0 c n h w.0 w.1 s more
      | inr w ↦ (elim (chosen (is_low p.0) nothing (a_pair p.0 5) (a_pair c n) w.1) [
        | inl v ↦ absurd (none_is (c, n) v.1)
        | inr v ↦ one_is t p.0 c n h w.0 v.0 v.1 s more
      ])
    ]

short_takes : (x : ℕ) (t : List ℕ) (c n : ℕ) → (short_escape x >>= λ c. Some (c, 1)) ≡ a_pair c n → (s : List ℕ) → IsContent (drop n (x ∷ t)) s → IsContent (backslash ∷ x ∷ t) (c ∷ s)
short_takes x t c n e s more =
    let p = bind_some (short_escape x) (λ c. Some (c, 1)) (c, n) e in
    let is_c : p.0 ≡ c = first_same _ _ _ _ p.2 in
    let is_n : n ≡ 1 = sym (second_same _ _ _ _ p.2) in
    let rest : IsContent t s = subst (λ (m : ℕ). IsContent (drop m (x ∷ t)) s) is_n more in
    subst (λ (y : ℕ). IsContent (backslash ∷ x ∷ t) (y ∷ s)) is_c (IsContent.short x p.0 t s p.1 rest)

escape_takes : (t : List ℕ) (c n : ℕ) → escape_at t ≡ a_pair c n → (s : List ℕ) → IsContent (drop n t) s → IsContent (backslash ∷ t) (c ∷ s)
unfolding escape_at
escape_takes [] c n e s more = absurd (none_is (c, n) e)
escape_takes (x ∷ t) c n e s more =
    elim (chosen (x == small_u) (unit_at t) (short_escape x >>= λ c. Some (c, 1)) (a_pair c n) e) [
      | inl w ↦ (let is : small_u ≡ x = sym (eqb-true x small_u w.0) in
          subst (λ (y : ℕ). IsContent (drop n (y ∷ t)) s → IsContent (backslash ∷ y ∷ t) (c ∷ s)) is (unit_is t c n w.1 s) more)
      | inr w ↦ short_takes x t c n w.1 s more
    ]

plain_takes : (x : ℕ) (t : List ℕ) (c n : ℕ) → is_plain x ≡ true → a_pair x 0 ≡ a_pair c n → (s : List ℕ) → IsContent (drop n t) s → IsContent (x ∷ t) (c ∷ s)
plain_takes x t c n p e s more =
    let is_c : x ≡ c = first_same _ _ _ _ e in
    let is_n : n ≡ 0 = sym (second_same _ _ _ _ e) in
    let rest : IsContent t s = subst (λ (m : ℕ). IsContent (drop m t) s) is_n more in
    subst (λ (y : ℕ). IsContent (x ∷ t) (y ∷ s)) is_c (IsContent.plain x t s p rest)

piece_takes : (x : ℕ) (t : List ℕ) (c n : ℕ) → piece_at (x ∷ t) ≡ a_pair c n → (s : List ℕ) → IsContent (drop n t) s → IsContent (x ∷ t) (c ∷ s)
unfolding piece_at
piece_takes x t c n e s more =
    elim (chosen (x == backslash) (escape_at t) (cond (is_plain x) (Some (x, 0)) None) (a_pair c n) e) [
      | inl w ↦ (let is : backslash ≡ x = sym (eqb-true x backslash w.0) in
          subst (λ (y : ℕ). IsContent (y ∷ t) (c ∷ s)) is (escape_takes t c n w.1 s more))
      | inr w ↦ (elim (chosen (is_plain x) (a_pair x 0) nothing (a_pair c n) w.1) [
        | inl v ↦ plain_takes x t c n v.0 v.1 s more
        | inr v ↦ absurd (none_is (c, n) v.1)
      ])
    ]

nothing_left : (k : ℕ) → drop {A = ℕ} k [] ≡ []
nothing_left zero = refl
nothing_left (suc k) = refl

pub content_takes : (k : ℕ) (t s : List ℕ) → content_of k t ≡ given s → IsContent (drop k t) s
unfolding content_of
content_takes k [] s e =
    subst (λ (r : List ℕ). IsContent r s) (sym (nothing_left k)) (subst (λ (r : List ℕ). IsContent [] r) (given_is [] s e) IsContent.ended)
content_takes (suc k) (x ∷ t) s e = content_takes k t s e
content_takes zero (x ∷ t) s e =
    let p = bind_some (piece_at (x ∷ t)) (λ p. content_of p.1 t >>= λ s. Some (p.0 ∷ s)) s e in
    let q = bind_some (content_of p.0.1 t) (λ s. Some (p.0.0 ∷ s)) s p.2 in
    subst (λ (r : List ℕ). IsContent (x ∷ t) r) (given_is (p.0.0 ∷ q.0) s q.2) (piece_takes x t p.0.0 p.0.1 p.1 q.0 (content_takes p.0.1 t q.0 q.1))
