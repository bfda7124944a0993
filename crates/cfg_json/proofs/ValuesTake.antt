-- What is read as a value is spelled so.
use Rattle.std.proofs.Common.{◌≡◌, ℕ, zero, suc, List, [], ◌∷◌, ◌++◌, length, ◌⊎◌, inl, inr, Bool, true, false, cond, Some, refl, sym, ap, subst, ◌∙◌, append_assoc}
use Rattle.std.specs.Prelude.{◌||◌, ◌==◌}
use Rattle.std.proofs.lemmas.Bool.{eqb-true}
use Rattle.cfg_json.specs.Ascii.{comma, left_square_bracket, right_square_bracket, left_curly_bracket, right_curly_bracket}
use Rattle.cfg_json.specs.WhiteSpace.{IsWhiteSpace}
use Rattle.cfg_json.specs.Values.{close_of, IsValue, IsItem, AreItems}
use Rattle.cfg_json.specs.Reading.{after_white_space}
use Rattle.cfg_json.specs.ReadingValues.{Read, Turn, or_front, leaf_at, key_at, padded_at, after_item, go_on, turn_at, items_at, item_at, inside_from, inside_at, value_at}
use Rattle.cfg_json.proofs.Options.{given, nothing, none_is, given_is, bind_some, chosen, tested}
use Rattle.cfg_json.proofs.WhiteSpaceLaws.{white_space_takes}
use Rattle.cfg_json.proofs.LeafLaws.{Front, key_takes, leaf_takes}

abbrev ItemFront : Bool → ℕ → List ℕ → Bool → List ℕ → Type 0
ItemFront k d all b rest = (text : List ℕ) × (all ≡ text ++ rest) × IsItem k d text b

abbrev ItemsFront : Bool → ℕ → List ℕ → Bool → List ℕ → Type 0
ItemsFront k d all b rest = (text : List ℕ) × (all ≡ text ++ rest) × AreItems k d text b

abbrev Takes : ℕ → Type 0
Takes d = (t : List ℕ) (r : Read) → value_at d t ≡ given r → Front d t r.0 r.1

pub padded_parts : (before v after rest t behind : List ℕ) → t ≡ before ++ (v ++ behind) → behind ≡ after ++ rest → t ≡ (before ++ (v ++ after)) ++ rest
padded_parts before v after rest t behind e f =
    e ∙ ap (λ (y : List ℕ). before ++ (v ++ y)) f ∙ ap (λ (y : List ℕ). before ++ y) (sym (append_assoc v after rest)) ∙ sym (append_assoc before (v ++ after) rest)

padded_takes : (d : ℕ) → Takes d → (t : List ℕ) (r : Read) → padded_at (value_at d) t ≡ given r → ItemFront false d t r.0 r.1
unfolding padded_at
padded_takes d takes t r e =
    let p = bind_some (value_at d (after_white_space t)) (λ p. Some (p.0, after_white_space p.1)) r e in
    let made : Read = (p.0.0, after_white_space p.0.1) in
    let b = white_space_takes t in
    let f = takes (after_white_space t) p.0 p.1 in
    let a = white_space_takes p.0.1 in
    subst (λ (q : Read). ItemFront false d t q.0 q.1) (given_is made r p.2) (
      b.white_space ++ (f.0 ++ a.white_space),
      padded_parts b.white_space f.0 a.white_space _ t p.0.1 (b.is ∙ ap (λ (y : List ℕ). b.white_space ++ y) f.1) a.is,
      IsItem.bare d f.0 b.white_space a.white_space _ p.0.0 f.2 b.are a.are refl,
    )

item_takes : (k : Bool) (d : ℕ) → Takes d → (t : List ℕ) (r : Read) → item_at k (value_at d) t ≡ given r → ItemFront k d t r.0 r.1
unfolding item_at
item_takes false d takes t r e = padded_takes d takes t r e
item_takes true d takes t r e =
    let p = bind_some (key_at t) (λ k. padded_at (value_at d) k.1) r e in
    let k = key_takes t p.0 p.1 in
    let f = padded_takes d takes p.0.1 r p.2 in
    (k.key ++ f.0, k.is ∙ ap (λ (y : List ℕ). k.key ++ y) f.1 ∙ sym (append_assoc k.key f.0 r.1), IsItem.keyed d k.key p.0.0 f.0 _ r.0 k.is_key f.2 refl)

-- the byte behind an item
after_takes : (k has : Bool) (t : List ℕ) (p : Turn) → after_item k has t ≡ given p → (t ≡ (cond p.1 (close_of k) comma) ∷ p.2) × (p.0 ≡ has)
after_takes k has [] p e = absurd (none_is p e)
after_takes k has (x ∷ t) p e =
    elim (chosen (x == close_of k) (given (has, true, t)) (cond (x == comma) (given (has, false, t)) nothing) (given p) e) [
      | inl w ↦ (let is : Turn = (has, true, t) in
          subst (λ (q : Turn). (x ∷ t ≡ (cond q.1 (close_of k) comma) ∷ q.2) × (q.0 ≡ has)) (given_is is p w.1) (ap (λ (y : ℕ). y ∷ t) (eqb-true x (close_of k) w.0), refl))
      | inr w ↦ (let v = tested (x == comma) (has, false, t) p w.1 in
          let is : Turn = (has, false, t) in
          subst (λ (q : Turn). (x ∷ t ≡ (cond q.1 (close_of k) comma) ∷ q.2) × (q.0 ≡ has)) v.1 (ap (λ (y : ℕ). y ∷ t) (eqb-true x comma v.0), refl))
    ]

record TurnTakes (k : Bool) (d : ℕ) (t : List ℕ) (p : Turn) : Type 0 where
  text : List ℕ
  is : t ≡ text ++ (cond p.1 (close_of k) comma ∷ p.2)
  item : IsItem k d text p.0

turn_takes : (k : Bool) (d : ℕ) → Takes d → (t : List ℕ) (p : Turn) → turn_at k (value_at d) t ≡ given p → TurnTakes k d t p
unfolding turn_at
turn_takes k d takes t p e =
    let q = bind_some (item_at k (value_at d) t) (λ q. after_item k q.0 q.1) p e in
    let f = item_takes k d takes t q.0 q.1 in
    let a = after_takes k q.0.0 q.0.1 p q.2 in
    record { text = f.0; is = f.1 ∙ ap (λ (y : List ℕ). f.0 ++ y) a.0; item = subst (λ (b : Bool). IsItem k d f.0 b) (sym a.1) f.2 }

ended : (k : Bool) (d : ℕ) (t : List ℕ) (b : Bool) (next : List ℕ) (r : Read) → TurnTakes k d t (b, true, next) → given (b, next) ≡ given r → ItemsFront k d t r.0 r.1
ended k d t b next r h e =
    let is : Read = (b, next) in
    subst (λ (q : Read). ItemsFront k d t q.0 q.1) (given_is is r e)
    (h.text ++ close_of k ∷ [], h.is ∙ sym (append_assoc h.text (close_of k ∷ []) next), AreItems.last k d h.text _ b h.item refl)

went_on : (k : Bool) (d : ℕ) (t : List ℕ) (b : Bool) (next : List ℕ) (q r : Read) → TurnTakes k d t (b, false, next) → ItemsFront k d next q.0 q.1 → given (b || q.0, q.1) ≡ given r → ItemsFront k d t r.0 r.1
went_on k d t b next q r h more e =
    let is : Read = (b || q.0, q.1) in
    subst (λ (y : Read). ItemsFront k d t y.0 y.1) (given_is is r e)
    (h.text ++ comma ∷ more.0, h.is ∙ ap (λ (y : List ℕ). h.text ++ comma ∷ y) more.1 ∙ sym (append_assoc h.text (comma ∷ more.0) q.1), AreItems.more k d h.text more.0 _ b q.0 h.item more.2 refl)

turned : (k : Bool) (d n : ℕ) (t : List ℕ) (b e : Bool) (next : List ℕ) (r : Read) → TurnTakes k d t (b, e, next)
    → go_on b e next (items_at k (value_at d) n) ≡ given r → ((s : Read) → items_at k (value_at d) n next ≡ given s → ItemsFront k d next s.0 s.1) → ItemsFront k d t r.0 r.1
turned k d n t b true next r h e more = ended k d t b next r h e
turned k d n t b false next r h e more =
    let q = bind_some (items_at k (value_at d) n next) (λ q. Some (b || q.0, q.1)) r e in
    went_on k d t b next q.0 r h (more q.0 q.1) q.2

items_take : (k : Bool) (d : ℕ) → Takes d → (n : ℕ) (t : List ℕ) (r : Read) → items_at k (value_at d) n t ≡ given r → ItemsFront k d t r.0 r.1
unfolding items_at
items_take k d takes zero t r e = absurd (none_is r e)
items_take k d takes (suc n) t r e =
    let p = bind_some (turn_at k (value_at d) t) (λ p. go_on p.0 p.1 p.2 (items_at k (value_at d) n)) r e in
    turned k d n t p.0.0 p.0.1 p.0.2 r (turn_takes k d takes t p.0 p.1) p.2 (λ s h. items_take k d takes n p.0.2 s h)

-- what stands behind an opening bracket: white space and the closing one, or items
abbrev InsideFront : Bool → ℕ → List ℕ → Bool → List ℕ → Type 0
InsideFront k d t b rest = ((w : List ℕ) × IsWhiteSpace w × (t ≡ (w ++ close_of k ∷ []) ++ rest) × (b ≡ false)) ⊎ ItemsFront k d t b rest

inside_from_takes : (k : Bool) (d : ℕ) → Takes d → (t u : List ℕ) (r : Read) → after_white_space t ≡ u → inside_from k (value_at d) t u ≡ given r → InsideFront k d t r.0 r.1
inside_from_takes k d takes t [] r is e = absurd (none_is r e)
inside_from_takes k d takes t (x ∷ u) r is e =
    elim (chosen (x == close_of k) (given (false, u)) (items_at k (value_at d) (length t) t) (given r) e) [
      | inl w ↦ (let made : Read = (false, u) in
          let b = white_space_takes t in
          subst (λ (q : Read). InsideFront k d t q.0 q.1) (given_is made r w.1)
          (inl (b.white_space, b.are, b.is ∙ ap (λ (y : List ℕ). b.white_space ++ y) (is ∙ ap (λ (y : ℕ). y ∷ u) (eqb-true x (close_of k) w.0)) ∙ sym (append_assoc b.white_space (close_of k ∷ []) u), refl)))
      | inr w ↦ inr (items_take k d takes (length t) t r w.1)
    ]

inside_takes : (k : Bool) (d : ℕ) → Takes d → (t : List ℕ) (r : Read) → inside_at k (value_at d) t ≡ given r → InsideFront k d t r.0 r.1
unfolding inside_at
inside_takes k d takes t r e = inside_from_takes k d takes t (after_white_space t) r refl e

array_front : (d : ℕ) (t : List ℕ) (r : Read) → InsideFront false d t r.0 r.1 → Front (suc d) (left_square_bracket ∷ t) r.0 r.1
array_front d t r h = elim h [
  | inl w ↦ subst (λ (b : Bool). Front (suc d) (left_square_bracket ∷ t) b r.1) (sym w.3) (left_square_bracket ∷ (w.0 ++ right_square_bracket ∷ []), ap (λ (y : List ℕ). left_square_bracket ∷ y) w.2, IsValue.no_items d w.0 w.1)
  | inr f ↦ (left_square_bracket ∷ f.0, ap (λ (y : List ℕ). left_square_bracket ∷ y) f.1, IsValue.items d f.0 r.0 f.2)
]

object_front : (d : ℕ) (t : List ℕ) (r : Read) → InsideFront true d t r.0 r.1 → Front (suc d) (left_curly_bracket ∷ t) true r.1
object_front d t r h = elim h [
  | inl w ↦ (left_curly_bracket ∷ (w.0 ++ right_curly_bracket ∷ []), ap (λ (y : List ℕ). left_curly_bracket ∷ y) w.2, IsValue.no_members d w.0 w.1)
  | inr f ↦ (left_curly_bracket ∷ f.0, ap (λ (y : List ℕ). left_curly_bracket ∷ y) f.1, IsValue.members d f.0 r.0 f.2)
]

pub value_takes : (d : ℕ) (t : List ℕ) (r : Read) → value_at d t ≡ given r → Front d t r.0 r.1
unfolding value_at
value_takes d [] r e = absurd (none_is r e)
value_takes zero (x ∷ t) r e = leaf_takes zero (x ∷ t) r e
value_takes (suc d) (x ∷ t) r e =
    elim (chosen (x == left_square_bracket) (inside_at false (value_at d) t) (cond (x == left_curly_bracket) (or_front true (inside_at true (value_at d) t)) (leaf_at (x ∷ t))) (given r) e) [
      | inl v ↦ subst (λ (y : ℕ). Front (suc d) (y ∷ t) r.0 r.1) (sym (eqb-true x left_square_bracket v.0)) (array_front d t r (inside_takes false d (value_takes d) t r v.1))
      | inr v ↦ (elim (chosen (x == left_curly_bracket) (or_front true (inside_at true (value_at d) t)) (leaf_at (x ∷ t)) (given r) v.1) [
        | inl u ↦ (let q = bind_some (inside_at true (value_at d) t) (λ q. Some (true, q.1)) r u.1 in
            let made : Read = (true, q.0.1) in
            let f = object_front d t q.0 (inside_takes true d (value_takes d) t q.0 q.1) in
            subst (λ (y : ℕ). Front (suc d) (y ∷ t) r.0 r.1) (sym (eqb-true x left_curly_bracket u.0)) (subst (λ (y : Read). Front (suc d) (left_curly_bracket ∷ t) y.0 y.1) (given_is made r q.2) f))
        | inr u ↦ leaf_takes (suc d) (x ∷ t) r u.1
      ])
    ]
