-- Keys, and values that do not nest, are read as the grammar says, and what is read is one.
use Rattle.std.specs.Option.{option_or}
use Rattle.std.proofs.Common.{◌≡◌, ℕ, ◌⊎◌, inl, inr, List, [], ◌∷◌, ◌++◌, length, drop, Bool, true, false, Option, Some, None, refl, sym, ap, subst, ◌∙◌, append_assoc}
use Rattle.std.specs.Prelude.{◌==◌, nat_eq, codes}
use Rattle.std.specs.Char.{is_ascii_digit}
use Rattle.std.specs.List.{starts_with}
use Rattle.std.proofs.lemmas.Bool.{eqb-true, ne_eqb, or_from, both_ways}
use Rattle.std.proofs.lemmas.Bool.Decides.{Decides-eqb}
use Rattle.std.proofs.lemmas.Slice.Eq.{starts_is}
use Rattle.cfg_json.specs.Ascii.{quotation_mark, hyphen_minus, colon, left_square_bracket, right_square_bracket, small_f, small_n, small_t, left_curly_bracket, right_curly_bracket}
use Rattle.cfg_json.specs.WhiteSpace.{is_json_white_space, IsWhiteSpace}
use Rattle.cfg_json.specs.Reads.{◌>>=◌}
use Rattle.cfg_json.specs.Numbers.{IsWhole, IsMinus, IsNumber}
use Rattle.cfg_json.specs.Strings.{IsString}
use Rattle.cfg_json.specs.Values.{IsWord, IsKey, IsValue}
use Rattle.cfg_json.specs.Reading.{after_white_space, mark_at, number_at, after_front, word_at, string_at}
use Rattle.cfg_json.specs.ReadingValues.{Read, scalar_at, leaf_at, key_at}
use Rattle.cfg_json.proofs.Options.{given, none_is, given_is, bind_some, chosen, tested, either}
use Rattle.cfg_json.proofs.WhiteSpaceLaws.{NoWhiteSpace, white_space_again, white_space_takes, mark_again, mark_takes}
use Rattle.cfg_json.proofs.NumberLaws.{EndsNumber, digit_is_no, number_again, number_takes}
use Rattle.cfg_json.proofs.StringLaws.{string_again, string_takes}

-- ---- words

front_takes : (front t r : List ℕ) → after_front front t ≡ given r → t ≡ front ++ r
unfolding after_front
front_takes front t r e =
    let w = tested (starts_with nat_eq t front) (drop (length front) t) r e in
    (starts_is Decides-eqb t front (starts_with nat_eq t front) refl).0 w.0 ∙ ap (λ (y : List ℕ). front ++ y) w.1

pub word_takes : (t r : List ℕ) → word_at t ≡ given r → (w : List ℕ) × (t ≡ w ++ r) × IsWord w
unfolding word_at
word_takes t r e =
    elim (either (after_front (codes "true") t) (option_or (after_front (codes "false") t) (after_front (codes "null") t)) r e) [
      | inl a ↦ (codes "true", front_takes (codes "true") t r a, inl refl)
      | inr b ↦ (elim (either (after_front (codes "false") t) (after_front (codes "null") t) r b) [
        | inl a ↦ (codes "false", front_takes (codes "false") t r a, inr (inl refl))
        | inr a ↦ (codes "null", front_takes (codes "null") t r a, inr (inr refl))
      ])
    ]

true_again : (rest : List ℕ) → word_at (codes "true" ++ rest) ≡ Some rest
unfolding word_at after_front
true_again rest = refl

false_again : (rest : List ℕ) → word_at (codes "false" ++ rest) ≡ Some rest
unfolding word_at after_front
false_again rest = refl

null_again : (rest : List ℕ) → word_at (codes "null" ++ rest) ≡ Some rest
unfolding word_at after_front
null_again rest = refl

pub word_again : (w rest : List ℕ) → IsWord w → word_at (w ++ rest) ≡ Some rest
word_again w rest h = elim h [
  | inl a ↦ ap (λ (y : List ℕ). word_at (y ++ rest)) a ∙ true_again rest
  | inr b ↦ (elim b [
    | inl a ↦ ap (λ (y : List ℕ). word_at (y ++ rest)) a ∙ false_again rest
    | inr a ↦ ap (λ (y : List ℕ). word_at (y ++ rest)) a ∙ null_again rest
  ])
]

no_word : (x : ℕ) (t : List ℕ) → (small_t == x) ≡ false → (small_f == x) ≡ false → (small_n == x) ≡ false → word_at (x ∷ t) ≡ None
unfolding word_at after_front
no_word x t a b c = rw (a, b, c) refl

-- ---- how values begin

pub record Head (t : List ℕ) : Type 0 where
  pub first : ℕ
  pub others : List ℕ
  pub is : t ≡ first ∷ others
  pub not_white_space : is_json_white_space first ≡ false
  pub bracket : (first == right_square_bracket) ≡ false
  pub brace : (first == right_curly_bracket) ≡ false

-- how numbers begin
pub record NumberHead (t : List ℕ) : Type 0 where
  pub first : ℕ
  pub others : List ℕ
  pub is : t ≡ first ∷ others
  pub digit : (first ≡ hyphen_minus) ⊎ (is_ascii_digit first ≡ true)

minus_or_digit : (m w t : List ℕ) → IsMinus m → IsWhole w → NumberHead (m ++ (w ++ t))
minus_or_digit [] [] t h k = absurd k
minus_or_digit [] (x ∷ w) t h k = record { first = x; others = w ++ t; is = refl; digit = elim k [ inl z ↦ inr (ap is_ascii_digit z.0) | inr z ↦ inr z.1.0 ] }
minus_or_digit (x ∷ m) w t h k = record { first = x; others = m ++ (w ++ t); is = refl; digit = inl h.0 }

pub number_head : (n : List ℕ) → IsNumber n → NumberHead n
number_head n h =
    let k = minus_or_digit h.minus h.whole (h.fraction ++ h.exponent) h.is_minus h.is_whole in
    record { first = k.first; others = k.others; is = h.is ∙ k.is; digit = k.digit }

-- a number begins with none of the bytes that are neither a minus nor a digit
pub not_number : (x c : ℕ) → (hyphen_minus == c) ≡ false → is_ascii_digit c ≡ false → (x ≡ hyphen_minus) ⊎ (is_ascii_digit x ≡ true) → (x == c) ≡ false
not_number x c a b h = elim h [ inl e ↦ ap (λ y. y == c) e ∙ a | inr d ↦ digit_is_no x c b d ]

not_number_flip : (x c : ℕ) → (c == hyphen_minus) ≡ false → is_ascii_digit c ≡ false → (x ≡ hyphen_minus) ⊎ (is_ascii_digit x ≡ true) → (c == x) ≡ false
not_number_flip x c a b h = elim h [
  | inl e ↦ ap (λ y. c == y) e ∙ a
  | inr d ↦ ne_eqb c x (λ same. both_ways (is_ascii_digit x) (ap is_ascii_digit (sym same) ∙ b) d)
]

pub number_no_word : (x : ℕ) (t : List ℕ) → (x ≡ hyphen_minus) ⊎ (is_ascii_digit x ≡ true) → word_at (x ∷ t) ≡ None
number_no_word x t h = no_word x t (not_number_flip x small_t refl refl h) (not_number_flip x small_f refl refl h) (not_number_flip x small_n refl refl h)

number_no_white_space : (x : ℕ) → (x ≡ hyphen_minus) ⊎ (is_ascii_digit x ≡ true) → is_json_white_space x ≡ false
number_no_white_space x h =
    or_from _ _ (or_from _ _ (or_from _ _ (not_number x 32 refl refl h) (not_number x 9 refl refl h)) (not_number x 10 refl refl h)) (not_number x 13 refl refl h)

pub number_head_is : (n : List ℕ) → IsNumber n → Head n
number_head_is n h =
    let k = number_head n h in
    record { first = k.first; others = k.others; is = k.is; not_white_space = number_no_white_space k.first k.digit; bracket = not_number k.first right_square_bracket refl refl k.digit; brace = not_number k.first right_curly_bracket refl refl k.digit }

pub word_head_is : (w : List ℕ) → IsWord w → Head w
word_head_is w h = elim h [
  | inl a ↦ record { first = small_t; others = codes "rue"; is = a; not_white_space = refl; bracket = refl; brace = refl }
  | inr b ↦ (elim b [
    | inl a ↦ record { first = small_f; others = codes "alse"; is = a; not_white_space = refl; bracket = refl; brace = refl }
    | inr a ↦ record { first = small_n; others = codes "ull"; is = a; not_white_space = refl; bracket = refl; brace = refl }
  ])
]

pub value_head : (d : ℕ) (t : List ℕ) (b : Bool) → IsValue d t b → Head t
value_head _ _ _ (IsValue.string d t s h) = record { first = quotation_mark; others = _; is = h.is; not_white_space = refl; bracket = refl; brace = refl }
value_head _ _ _ (IsValue.number d t h) = number_head_is t h
value_head _ _ _ (IsValue.word d t h) = word_head_is t h
value_head _ _ _ (IsValue.no_items d w h) = record { first = left_square_bracket; others = _; is = refl; not_white_space = refl; bracket = refl; brace = refl }
value_head _ _ _ (IsValue.items d t b h) = record { first = left_square_bracket; others = t; is = refl; not_white_space = refl; bracket = refl; brace = refl }
value_head _ _ _ (IsValue.no_members d w h) = record { first = left_curly_bracket; others = _; is = refl; not_white_space = refl; bracket = refl; brace = refl }
value_head _ _ _ (IsValue.members d t b h) = record { first = left_curly_bracket; others = t; is = refl; not_white_space = refl; bracket = refl; brace = refl }

pub head_no_white_space : (t rest : List ℕ) → Head t → NoWhiteSpace (t ++ rest)
head_no_white_space t rest h = subst NoWhiteSpace (sym (ap (λ (y : List ℕ). y ++ rest) h.is)) h.not_white_space

-- ---- keys

key_parts : (before string after rest : List ℕ) → (before ++ (string ++ (after ++ colon ∷ []))) ++ rest ≡ before ++ (string ++ (after ++ colon ∷ rest))
key_parts before string after rest =
    append_assoc before (string ++ (after ++ colon ∷ [])) rest ∙ ap (λ (y : List ℕ). before ++ y)
    (append_assoc string (after ++ colon ∷ []) rest ∙ ap (λ (y : List ℕ). string ++ y) (append_assoc after (colon ∷ []) rest))

abbrev ReadKey : Type 0
ReadKey = List ℕ × List ℕ

abbrev a_key : List ℕ → List ℕ → Option ReadKey
a_key name value = Some (name, value)

colon_again : (name after rest : List ℕ) → IsWhiteSpace after → (mark_at colon (after_white_space (after ++ colon ∷ rest)) >>= a_key name) ≡ a_key name rest
colon_again name after rest h =
    ap (λ (y : List ℕ). mark_at colon y >>= a_key name) (white_space_again after (colon ∷ rest) h refl) ∙ ap (λ (o : Option (List ℕ)). o >>= a_key name) (mark_again colon rest refl)

pub key_again : (k name rest : List ℕ) → IsKey k name → key_at (k ++ rest) ≡ Some (name, rest)
unfolding key_at
key_again k name rest h =
    let f = string_again h.string name h.is_string (h.after ++ colon ∷ rest) in
    let is : k ++ rest ≡ h.before ++ (quotation_mark ∷ f.inside) = ap (λ (y : List ℕ). y ++ rest) h.is ∙ key_parts h.before h.string h.after rest ∙ ap (λ (y : List ℕ). h.before ++ y) f.is in
    let opens : mark_at quotation_mark (after_white_space (k ++ rest)) ≡ Some f.inside = ap (λ (y : List ℕ). mark_at quotation_mark (after_white_space y)) is ∙ ap (mark_at quotation_mark) (white_space_again h.before (quotation_mark ∷ f.inside) h.white_space_before refl) ∙ mark_again quotation_mark f.inside refl in
    let reads = f.reads in
    rw opens (rw reads (colon_again name h.after rest h.white_space_after))

-- a key at the front
pub record KeyTaken (t name rest : List ℕ) : Type 0 where
  pub key : List ℕ
  pub is : t ≡ key ++ rest
  pub is_key : IsKey key name

key_from : (t inside name behind value : List ℕ) → after_white_space t ≡ quotation_mark ∷ inside → string_at inside ≡ given (name, behind) → after_white_space behind ≡ colon ∷ value → KeyTaken t name value
key_from t inside name behind value opens reads ends =
    let b = white_space_takes t in
    let s = string_takes inside name behind reads in
    let a = white_space_takes behind in
    let behind_is : behind ≡ a.white_space ++ colon ∷ value = a.is ∙ ap (λ (y : List ℕ). a.white_space ++ y) ends in
    record {
      key = b.white_space ++ (s.string ++ (a.white_space ++ colon ∷ []));
      is = b.is ∙ ap (λ (y : List ℕ). b.white_space ++ y) (opens ∙ s.is ∙ ap (λ (y : List ℕ). s.string ++ y) behind_is) ∙ sym (key_parts b.white_space s.string a.white_space value);
      is_key = record { before = b.white_space; string = s.string; after = a.white_space; is = refl; white_space_before = b.are; is_string = s.is_string; white_space_after = a.are };
    }

pub key_takes : (t : List ℕ) (r : ReadKey) → key_at t ≡ given r → KeyTaken t r.0 r.1
unfolding key_at
key_takes t r e =
    let o = bind_some (mark_at quotation_mark (after_white_space t)) (λ r. string_at r >>= λ k. mark_at colon (after_white_space k.1) >>= λ v. Some (k.0, v)) r e in
    let s = bind_some (string_at o.0) (λ k. mark_at colon (after_white_space k.1) >>= λ v. Some (k.0, v)) r o.2 in
    let c = bind_some (mark_at colon (after_white_space s.0.1)) (λ v. Some (s.0.0, v)) r s.2 in
    let made : ReadKey = (s.0.0, c.0) in
    subst (λ (q : ReadKey). KeyTaken t q.0 q.1) (given_is made r c.2)
    (key_from t o.0 s.0.0 s.0.1 c.0 (mark_takes quotation_mark (after_white_space t) o.0 o.1) s.1 (mark_takes colon (after_white_space s.0.1) c.0 c.1))

-- ---- values that do not nest

pub string_leaf : (t s : List ℕ) → IsString t s → (rest : List ℕ) → leaf_at (t ++ rest) ≡ Some (false, rest)
unfolding leaf_at
string_leaf t s h rest =
    let f = string_again t s h rest in
    let reads = f.reads in
    let here : leaf_at (quotation_mark ∷ f.inside) ≡ Some (false, rest) = rw reads refl in
    ap leaf_at f.is ∙ here

pub scalar_word : (t rest : List ℕ) → IsWord t → scalar_at (t ++ rest) ≡ Some rest
unfolding scalar_at
scalar_word t rest h = let e = word_again t rest h in rw e refl

pub scalar_number : (t rest : List ℕ) → IsNumber t → EndsNumber rest → scalar_at (t ++ rest) ≡ Some rest
unfolding scalar_at
scalar_number t rest h ends =
    let k = number_head t h in
    let e : word_at (t ++ rest) ≡ None = ap (λ (y : List ℕ). word_at (y ++ rest)) k.is ∙ number_no_word k.first (k.others ++ rest) k.digit in
    rw e (number_again t rest h ends)

scalar_leaf : (x : ℕ) (t rest : List ℕ) → (x == quotation_mark) ≡ false → scalar_at (x ∷ t) ≡ Some rest → leaf_at (x ∷ t) ≡ Some (false, rest)
unfolding leaf_at
scalar_leaf x t rest q e = rw (q, e) refl

scalar_leaf_at : (t : List ℕ) (x : ℕ) (u rest : List ℕ) → t ≡ x ∷ u → (x == quotation_mark) ≡ false → scalar_at t ≡ Some rest → leaf_at t ≡ Some (false, rest)
scalar_leaf_at t x u rest is q e = ap leaf_at is ∙ scalar_leaf x u rest q (sym (ap scalar_at is) ∙ e)

pub word_leaf : (t rest : List ℕ) → IsWord t → leaf_at (t ++ rest) ≡ Some (false, rest)
word_leaf t rest h = let s : scalar_at (t ++ rest) ≡ Some rest = scalar_word t rest h in elim h [
  | inl a ↦ scalar_leaf_at (t ++ rest) small_t (codes "rue" ++ rest) rest (ap (λ (y : List ℕ). y ++ rest) a) refl s
  | inr b ↦ (elim b [
    | inl a ↦ scalar_leaf_at (t ++ rest) small_f (codes "alse" ++ rest) rest (ap (λ (y : List ℕ). y ++ rest) a) refl s
    | inr a ↦ scalar_leaf_at (t ++ rest) small_n (codes "ull" ++ rest) rest (ap (λ (y : List ℕ). y ++ rest) a) refl s
  ])
]

pub number_leaf : (t rest : List ℕ) → IsNumber t → EndsNumber rest → leaf_at (t ++ rest) ≡ Some (false, rest)
number_leaf t rest h ends =
    let k = number_head t h in
    scalar_leaf_at (t ++ rest) k.first (k.others ++ rest) rest (ap (λ (y : List ℕ). y ++ rest) k.is) (not_number k.first quotation_mark refl refl k.digit) (scalar_number t rest h ends)

-- a value at the front
abbrev pub Front : ℕ → List ℕ → Bool → List ℕ → Type 0
Front d all b rest = (text : List ℕ) × (all ≡ text ++ rest) × IsValue d text b

pub leaf_takes : (d : ℕ) (t : List ℕ) (r : Read) → leaf_at t ≡ given r → Front d t r.0 r.1
unfolding leaf_at scalar_at
leaf_takes d [] r e = absurd (none_is r e)
leaf_takes d (x ∷ t) r e =
    elim (chosen (x == quotation_mark) (string_at t >>= λ p. Some (false, p.1)) (scalar_at (x ∷ t) >>= λ r. Some (false, r)) (given r) e) [
      | inl w ↦ (let p = bind_some (string_at t) (λ p. Some (false, p.1)) r w.1 in
          let made : Read = (false, p.0.1) in
          let s = string_takes t p.0.0 p.0.1 p.1 in
          subst (λ (q : Read). Front d (x ∷ t) q.0 q.1) (given_is made r p.2) (s.string, ap (λ (y : ℕ). y ∷ t) (eqb-true x quotation_mark w.0) ∙ s.is, IsValue.string d s.string p.0.0 s.is_string))
      | inr w ↦ (let p = bind_some (scalar_at (x ∷ t)) (λ r. Some (false, r)) r w.1 in
          let made : Read = (false, p.0) in
          subst (λ (q : Read). Front d (x ∷ t) q.0 q.1) (given_is made r p.2) (elim (either (word_at (x ∷ t)) (number_at (x ∷ t)) p.0 p.1) [
            | inl a ↦ (let k = word_takes (x ∷ t) p.0 a in (k.0, k.1, IsValue.word d k.0 k.2))
            | inr a ↦ (let k = number_takes (x ∷ t) p.0 a in (k.0, k.1, IsValue.number d k.0 k.2))
          ]))
    ]
