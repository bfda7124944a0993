-- What is spelled as a value is read, whatever follows.
use Rattle.std.proofs.Common.{◌≡◌, ℕ, zero, suc, ◌<◌, ◌≤◌, List, [], ◌∷◌, ◌++◌, length, inl, inr, Bool, true, false, Option, Some, refl, sym, ap, subst, ◌∙◌, append_assoc, arith, length-append}
use Rattle.std.specs.Prelude.{◌||◌, ◌==◌, codes}
use Rattle.std.proofs.lemmas.Bool.{or_cases, eqb-true}
use Rattle.cfg_json.specs.Ascii.{quotation_mark, comma, colon, left_square_bracket, right_square_bracket, small_f, small_n, small_t, left_curly_bracket, right_curly_bracket}
use Rattle.cfg_json.specs.WhiteSpace.{is_json_white_space, IsWhiteSpace}
use Rattle.cfg_json.specs.Reads.{◌>>=◌}
use Rattle.cfg_json.specs.Values.{close_of, IsWord, IsKey, IsValue, IsItem, AreItems}
use Rattle.cfg_json.specs.Reading.{after_white_space}
use Rattle.cfg_json.specs.ReadingValues.{Read, or_front, leaf_at, key_at, padded_at, after_item, turn_at, items_at, item_at, inside_at, value_at}
use Rattle.cfg_json.proofs.WhiteSpaceLaws.{NoWhiteSpace, white_space_again}
use Rattle.cfg_json.proofs.NumberLaws.{IsEnd, EndsNumber}
use Rattle.cfg_json.proofs.LeafLaws.{Head, value_head, head_no_white_space, number_head, not_number, key_again, string_leaf, word_leaf, number_leaf}
use Rattle.cfg_json.proofs.StringLaws.{string_again}

-- no white space, and nothing of a number
pub record Closes (x : ℕ) : Type 0 where
  pub not_white_space : is_json_white_space x ≡ false
  pub end : IsEnd x

pub close_ends : (k : Bool) → Closes (close_of k)
close_ends true = record { not_white_space = refl; end = record { digit = refl; point = refl; exponent = refl } }
close_ends false = record { not_white_space = refl; end = record { digit = refl; point = refl; exponent = refl } }

pub comma_ends : Closes comma
comma_ends = record { not_white_space = refl; end = record { digit = refl; point = refl; exponent = refl } }

-- white space is nothing of a number
one_white_space_ends : (x : ℕ) → is_json_white_space x ≡ true → IsEnd x
one_white_space_ends x e =
    let at_32 : IsEnd 32 = record { digit = refl; point = refl; exponent = refl } in
    let at_9 : IsEnd 9 = record { digit = refl; point = refl; exponent = refl } in
    let at_10 : IsEnd 10 = record { digit = refl; point = refl; exponent = refl } in
    let at_13 : IsEnd 13 = record { digit = refl; point = refl; exponent = refl } in
    elim (or_cases _ _ e) [
      | inl a ↦ (elim (or_cases _ _ a) [
        | inl b ↦ (elim (or_cases _ _ b) [
          | inl c ↦ subst IsEnd (sym (eqb-true x 32 c)) at_32
          | inr c ↦ subst IsEnd (sym (eqb-true x 9 c)) at_9
        ])
        | inr b ↦ subst IsEnd (sym (eqb-true x 10 b)) at_10
      ])
      | inr a ↦ subst IsEnd (sym (eqb-true x 13 a)) at_13
    ]

pub white_space_end : (w : List ℕ) (x : ℕ) (rest : List ℕ) → IsWhiteSpace w → Closes x → EndsNumber (w ++ x ∷ rest)
white_space_end [] x rest h c = c.end
white_space_end (y ∷ w) x rest h c = one_white_space_ends y h.0

-- an item begins, behind white space, with no bracket that closes
pub record Starts (k : Bool) (t : List ℕ) : Type 0 where
  pub white_space : List ℕ
  pub first : ℕ
  pub others : List ℕ
  pub is : t ≡ white_space ++ first ∷ others
  pub is_white_space : IsWhiteSpace white_space
  pub not_white_space : is_json_white_space first ≡ false
  pub opens : (first == close_of k) ≡ false

head_opens : (k : Bool) (t : List ℕ) (h : Head t) → (h.first == close_of k) ≡ false
head_opens true t h = h.brace
head_opens false t h = h.bracket

pub key_starts : (key name v : List ℕ) → IsKey key name → Starts true (key ++ v)
key_starts key name v h = record {
  white_space = h.before;
  first = quotation_mark;
  others = _;
  is = ap (λ (y : List ℕ). y ++ v) h.is ∙ append_assoc h.before (h.string ++ (h.after ++ colon ∷ [])) v ∙ ap (λ (y : List ℕ). h.before ++ ((y ++ (h.after ++ colon ∷ [])) ++ v)) h.is_string.is;
  is_white_space = h.white_space_before;
  not_white_space = refl;
  opens = refl;
}

pub starts_at : (k : Bool) (u t : List ℕ) → t ≡ u → Starts k u → Starts k t
starts_at k u t e s = record { white_space = s.white_space; first = s.first; others = s.others; is = e ∙ s.is; is_white_space = s.is_white_space; not_white_space = s.not_white_space; opens = s.opens }

item_starts : (k : Bool) (d : ℕ) (t : List ℕ) (b : Bool) → IsItem k d t b → Starts k t
item_starts _ _ _ _ (IsItem.bare d v before after t b h hb ha is) =
    let k = value_head d v b h in
    record { white_space = before; first = k.first; others = k.others ++ after; is = is ∙ ap (λ (y : List ℕ). before ++ (y ++ after)) k.is; is_white_space = hb; not_white_space = k.not_white_space; opens = k.bracket }
item_starts _ _ _ _ (IsItem.keyed d key name v t b h hv is) = starts_at true _ t is (key_starts key name v h)

pub starts_then : (k : Bool) (v t : List ℕ) → Starts k v → (more : List ℕ) → t ≡ v ++ more → Starts k t
starts_then k v t s more e = record {
  white_space = s.white_space;
  first = s.first;
  others = s.others ++ more;
  is = e ∙ ap (λ (x : List ℕ). x ++ more) s.is ∙ append_assoc s.white_space (s.first ∷ s.others) more;
  is_white_space = s.is_white_space;
  not_white_space = s.not_white_space;
  opens = s.opens;
}

items_start : (k : Bool) (d : ℕ) (t : List ℕ) (b : Bool) → AreItems k d t b → Starts k t
items_start _ _ _ _ (AreItems.last k d v t b h e) = starts_then k v t (item_starts k d v b h) _ e
items_start _ _ _ _ (AreItems.more k d v u t b c h hs e) = starts_then k v t (item_starts k d v b h) _ e

-- a value that does not nest, at any depth
leaf_value : (d x : ℕ) (t : List ℕ) (r : Option Read) → (x == left_square_bracket) ≡ false → (x == left_curly_bracket) ≡ false → leaf_at (x ∷ t) ≡ r → value_at d (x ∷ t) ≡ r
unfolding value_at
leaf_value zero x t r a b e = e
leaf_value (suc d) x t r a b e = rw (a, b) e

leaf_value_at : (d : ℕ) (t : List ℕ) (x : ℕ) (u : List ℕ) (r : Option Read) → t ≡ x ∷ u → (x == left_square_bracket) ≡ false → (x == left_curly_bracket) ≡ false → leaf_at t ≡ r → value_at d t ≡ r
leaf_value_at d t x u r is a b e = ap (value_at d) is ∙ leaf_value d x u r a b (sym (ap leaf_at is) ∙ e)

word_value : (d : ℕ) (t rest : List ℕ) → IsWord t → value_at d (t ++ rest) ≡ Some (false, rest)
word_value d t rest h = let s : leaf_at (t ++ rest) ≡ Some (false, rest) = word_leaf t rest h in elim h [
  | inl a ↦ leaf_value_at d (t ++ rest) small_t (codes "rue" ++ rest) _ (ap (λ (y : List ℕ). y ++ rest) a) refl refl s
  | inr b ↦ (elim b [
    | inl a ↦ leaf_value_at d (t ++ rest) small_f (codes "alse" ++ rest) _ (ap (λ (y : List ℕ). y ++ rest) a) refl refl s
    | inr a ↦ leaf_value_at d (t ++ rest) small_n (codes "ull" ++ rest) _ (ap (λ (y : List ℕ). y ++ rest) a) refl refl s
  ])
]

closed_again : (k : Bool) (value : List ℕ → Option Read) (w rest : List ℕ) → IsWhiteSpace w → inside_at k value ((w ++ close_of k ∷ []) ++ rest) ≡ Some (false, rest)
unfolding inside_at
closed_again true value w rest h = let e : after_white_space ((w ++ right_curly_bracket ∷ []) ++ rest) ≡ right_curly_bracket ∷ rest = ap after_white_space (append_assoc w (right_curly_bracket ∷ []) rest) ∙ white_space_again w (right_curly_bracket ∷ rest) h refl in rw e refl
closed_again false value w rest h = let e : after_white_space ((w ++ right_square_bracket ∷ []) ++ rest) ≡ right_square_bracket ∷ rest = ap after_white_space (append_assoc w (right_square_bracket ∷ []) rest) ∙ white_space_again w (right_square_bracket ∷ rest) h refl in rw e refl

array_again : (d : ℕ) (t : List ℕ) (r : Option Read) → inside_at false (value_at d) t ≡ r → value_at (suc d) (left_square_bracket ∷ t) ≡ r
unfolding value_at
array_again d t r e = e

object_again : (d : ℕ) (t : List ℕ) (r : Option Read) → inside_at true (value_at d) t ≡ r → value_at (suc d) (left_curly_bracket ∷ t) ≡ or_front true r
unfolding value_at
object_again d t r e = ap (or_front true) e

-- the byte at which it begins, behind the white space
pub starts_behind : (k : Bool) (t : List ℕ) (s : Starts k t) → (rest : List ℕ) → after_white_space (t ++ rest) ≡ s.first ∷ (s.others ++ rest)
starts_behind k t s rest =
    ap (λ (x : List ℕ). after_white_space (x ++ rest)) s.is ∙ ap after_white_space (append_assoc s.white_space (s.first ∷ s.others) rest) ∙ white_space_again s.white_space (s.first ∷ (s.others ++ rest)) s.is_white_space s.not_white_space

inside_again : (k : Bool) (value : List ℕ → Option Read) (t : List ℕ) (r : Option Read) → Starts k t → (rest : List ℕ) → items_at k value (length (t ++ rest)) (t ++ rest) ≡ r → inside_at k value (t ++ rest) ≡ r
unfolding inside_at
inside_again k value t r s rest e =
    let is : after_white_space (t ++ rest) ≡ s.first ∷ (s.others ++ rest) = starts_behind k t s rest in
    let opens = s.opens in
    rw (is, opens) e

closes : (k : Bool) (b : Bool) (rest : List ℕ) → after_item k b (close_of k ∷ rest) ≡ Some (b, true, rest)
closes true b rest = refl
closes false b rest = refl

goes : (k : Bool) (b : Bool) (rest : List ℕ) → after_item k b (comma ∷ rest) ≡ Some (b, false, rest)
goes true b rest = refl
goes false b rest = refl

turn_ends : (k : Bool) (value : List ℕ → Option Read) (t : List ℕ) (b : Bool) (rest : List ℕ) → item_at k value t ≡ Some (b, close_of k ∷ rest) → turn_at k value t ≡ Some (b, true, rest)
unfolding turn_at
turn_ends k value t b rest e = rw e (closes k b rest)

turn_goes : (k : Bool) (value : List ℕ → Option Read) (t : List ℕ) (b : Bool) (rest : List ℕ) → item_at k value t ≡ Some (b, comma ∷ rest) → turn_at k value t ≡ Some (b, false, rest)
unfolding turn_at
turn_goes k value t b rest e = rw e (goes k b rest)

last_turn : (k : Bool) (value : List ℕ → Option Read) (n : ℕ) (t : List ℕ) (b : Bool) (rest : List ℕ) → 0 < n → turn_at k value t ≡ Some (b, true, rest) → items_at k value n t ≡ Some (b, rest)
unfolding items_at
last_turn k value zero t b rest lt e = absurd (omega arith)
last_turn k value (suc n) t b rest lt e = rw e refl

next_turn : (k : Bool) (value : List ℕ → Option Read) (n : ℕ) (t : List ℕ) (b c : Bool) (next rest : List ℕ) → turn_at k value t ≡ Some (b, false, next) → items_at k value n next ≡ Some (c, rest) → items_at k value (suc n) t ≡ Some (b || c, rest)
unfolding items_at
next_turn k value n t b c next rest e more = rw (e, more) refl

pub split : (v u t rest : List ℕ) (x : ℕ) → t ≡ v ++ x ∷ u → t ++ rest ≡ v ++ (x ∷ (u ++ rest))
split v u t rest x e = ap (λ (y : List ℕ). y ++ rest) e ∙ append_assoc v (x ∷ u) rest

pub padded_again : (value : List ℕ → Option Read) (before v after rest : List ℕ) (x : ℕ) (b : Bool) → IsWhiteSpace before → IsWhiteSpace after → NoWhiteSpace (v ++ (after ++ x ∷ rest)) → is_json_white_space x ≡ false
    → value (v ++ (after ++ x ∷ rest)) ≡ Some (b, after ++ x ∷ rest) → padded_at value ((before ++ (v ++ after)) ++ x ∷ rest) ≡ Some (b, x ∷ rest)
unfolding padded_at
padded_again value before v after rest x b hb ha head not_white_space e =
    let is : (before ++ (v ++ after)) ++ x ∷ rest ≡ before ++ (v ++ (after ++ x ∷ rest)) = append_assoc before (v ++ after) (x ∷ rest) ∙ ap (λ (y : List ℕ). before ++ y) (append_assoc v after (x ∷ rest)) in
    let here : after_white_space ((before ++ (v ++ after)) ++ x ∷ rest) ≡ v ++ (after ++ x ∷ rest) = ap after_white_space is ∙ white_space_again before _ hb head in
    let read : value (after_white_space ((before ++ (v ++ after)) ++ x ∷ rest)) ≡ Some (b, after ++ x ∷ rest) = ap value here ∙ e in
    ap (λ (o : Option Read). o >>= λ p. Some (p.0, after_white_space p.1)) read ∙ ap (λ (y : List ℕ). Some (b, y)) (white_space_again after (x ∷ rest) ha not_white_space)

keyed_again : (value : List ℕ → Option Read) (key name v rest : List ℕ) (b : Bool) → IsKey key name → padded_at value (v ++ rest) ≡ Some (b, rest) → item_at true value ((key ++ v) ++ rest) ≡ Some (b, rest)
unfolding item_at
keyed_again value key name v rest b h e =
    let k : key_at ((key ++ v) ++ rest) ≡ Some (name, v ++ rest) = ap key_at (append_assoc key v rest) ∙ key_again key name (v ++ rest) h in
    rw k e

bare_again : (value : List ℕ → Option Read) (t rest : List ℕ) (b : Bool) → padded_at value (t ++ rest) ≡ Some (b, rest) → item_at false value (t ++ rest) ≡ Some (b, rest)
unfolding item_at
bare_again value t rest b e = e

bare_is : (value : List ℕ → Option Read) (t : List ℕ) (r : Option Read) → item_at false value t ≡ r → padded_at value t ≡ r
unfolding item_at
bare_is value t r e = e

mutual
  pub value_again : (d : ℕ) (t : List ℕ) (b : Bool) → IsValue d t b → (rest : List ℕ) → EndsNumber rest → value_at d (t ++ rest) ≡ Some (b, rest)
  value_again _ _ _ (IsValue.string d t s h) rest ends =
      let f = string_again t s h rest in
      leaf_value_at d (t ++ rest) quotation_mark f.inside _ f.is refl refl (string_leaf t s h rest)
  value_again _ _ _ (IsValue.number d t h) rest ends =
      let k = number_head t h in
      leaf_value_at d (t ++ rest) k.first (k.others ++ rest) _ (ap (λ (y : List ℕ). y ++ rest) k.is) (not_number k.first left_square_bracket refl refl k.digit) (not_number k.first left_curly_bracket refl refl k.digit) (number_leaf t rest h ends)
  value_again _ _ _ (IsValue.word d t h) rest ends = word_value d t rest h
  value_again _ _ _ (IsValue.no_items d w h) rest ends = array_again d _ _ (closed_again false (value_at d) w rest h)
  value_again _ _ _ (IsValue.items d t b h) rest ends =
      array_again d _ _ (inside_again false (value_at d) t _ (items_start false d t b h) rest (items_again false d t b h rest _ (omega (arith, length-append t rest))))
  value_again _ _ _ (IsValue.no_members d w h) rest ends = object_again d _ _ (closed_again true (value_at d) w rest h)
  value_again _ _ _ (IsValue.members d t b h) rest ends =
      object_again d _ _ (inside_again true (value_at d) t _ (items_start true d t b h) rest (items_again true d t b h rest _ (omega (arith, length-append t rest))))

  item_again : (k : Bool) (d : ℕ) (t : List ℕ) (b : Bool) → IsItem k d t b → (x : ℕ) (rest : List ℕ) → Closes x → item_at k (value_at d) (t ++ x ∷ rest) ≡ Some (b, x ∷ rest)
  item_again _ _ _ _ (IsItem.bare d v before after t b h hb ha is) x rest c =
      bare_again (value_at d) t (x ∷ rest) b
      (ap (λ (y : List ℕ). padded_at (value_at d) (y ++ x ∷ rest)) is
      ∙ padded_again (value_at d) before v after rest x b hb ha (head_no_white_space v _ (value_head d v b h)) c.not_white_space (value_again d v b h (after ++ x ∷ rest) (white_space_end after x rest ha c)))
  item_again _ _ _ _ (IsItem.keyed d key name v t b h hv is) x rest c =
      ap (λ (y : List ℕ). item_at true (value_at d) (y ++ x ∷ rest)) is
      ∙ keyed_again (value_at d) key name v (x ∷ rest) b h (bare_is (value_at d) _ _ (item_again false d v b hv x rest c))

  items_again : (k : Bool) (d : ℕ) (t : List ℕ) (b : Bool) → AreItems k d t b → (rest : List ℕ) (n : ℕ) → length t ≤ n → items_at k (value_at d) n (t ++ rest) ≡ Some (b, rest)
  items_again _ _ _ _ (AreItems.last k d v t b h e) rest n le =
      last_turn k (value_at d) n (t ++ rest) b rest (omega (arith, le, ap length e, length-append v (close_of k ∷ [])))
      (turn_ends k (value_at d) (t ++ rest) b rest (ap (item_at k (value_at d)) (split v [] t rest (close_of k) e) ∙ item_again k d v b h _ rest (close_ends k)))
  items_again _ _ _ _ (AreItems.more k d v u t b c h hs e) rest zero le = absurd (omega (arith, le, ap length e, length-append v (comma ∷ u)))
  items_again _ _ _ _ (AreItems.more k d v u t b c h hs e) rest (suc n) le =
      next_turn k (value_at d) n (t ++ rest) b c (u ++ rest) rest
      (turn_goes k (value_at d) (t ++ rest) b (u ++ rest) (ap (item_at k (value_at d)) (split v u t rest comma e) ∙ item_again k d v b h _ (u ++ rest) comma_ends))
      (items_again k d u c hs rest n (omega (arith, le, ap length e, length-append v (comma ∷ u))))
