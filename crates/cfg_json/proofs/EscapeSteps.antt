-- An escape is read from the bytes of a text as from its characters: it is spelled in ASCII.
use Rattle.std.proofs.Common.{◌≡◌, ℕ, ◌+◌, ◌*◌, ◌<◌, ◌≤◌, ◌⊎◌, inl, inr, List, [], ◌∷◌, ◌++◌, length, drop, ltb, Bool, true, false, cond, Option, Some, None, refl, sym, ap, subst, ◌∙◌, arith, add-one}
use Rattle.std.specs.Prelude.{◌==◌, ◌&&◌}
use Rattle.std.specs.Char.{encode_utf8}
use Rattle.std.specs.Str.{IsUtf8, encode_utf8_all, all_scalars}
use Rattle.std.proofs.lemmas.Bool.{and_parts, cases_lt, eqb-true, le-ltb, ne_eqb}
use Rattle.std.proofs.lemmas.List.{append-nil, drop-drop}
use Rattle.std.proofs.lemmas.Str.{encode_ascii, inside_one, length-encode}
use Rattle.cfg_base.specs.Text.{characters}
use Rattle.cfg_base.proofs.TextLemmas.{characters-encodes}
use Rattle.cfg_json.specs.Ascii.{backslash, small_u}
use Rattle.cfg_json.specs.Characters.{is_plain, short_escape, code_unit, hex_digit, is_high, is_low, pair_char}
use Rattle.cfg_json.specs.Reads.{◌>>=◌}
use Rattle.cfg_json.specs.Reading.{hex_at, low_at, unit_at, escape_at, piece_at, content_of}
use Rattle.cfg_json.proofs.Options.{given, nothing, none_is}
use Rattle.cfg_json.proofs.StringSteps.{one_piece}
use Rattle.cfg_json.proofs.StringLaws.{short_small}

-- ---- the front of a text, as its bytes and as its characters

data Front : List ℕ → List ℕ → Type 0 where
  ended : Front [] []
  ascii : (x : ℕ) (bs cs : List ℕ) → x < 128 → IsUtf8 bs → cs ≡ characters bs → Front (x ∷ bs) (x ∷ cs)
  beyond : (b c : ℕ) (bs cs : List ℕ) → 128 ≤ b → 128 ≤ c → Front (b ∷ bs) (c ∷ cs)

low_front : (c : ℕ) (cs : List ℕ) → all_scalars cs ≡ true → c < 128 → Front (encode_utf8 c ++ encode_utf8_all cs) (c ∷ cs)
low_front c cs ok low =
    subst (λ (b : List ℕ). Front (b ++ encode_utf8_all cs) (c ∷ cs)) (sym (encode_ascii c low)) (Front.ascii c (encode_utf8_all cs) cs low (cs, (ok, refl)) (sym (characters-encodes cs ok)))

one_to_four : (a b d : Bool) → 0 < cond a 1 (cond b 2 (cond d 3 4))
one_to_four true b d = omega arith
one_to_four false true d = omega arith
one_to_four false false true = omega arith
one_to_four false false false = omega arith

some_bytes : (c : ℕ) → 0 < length (encode_utf8 c)
some_bytes c = subst (λ (n : ℕ). 0 < n) (sym (length-encode c)) (one_to_four (ltb c 0x80) (ltb c 0x800) (ltb c 0x10000))

lead_high : (xs : List ℕ) (c : ℕ) (bs cs : List ℕ) → xs ≡ encode_utf8 c → 128 ≤ c → Front (xs ++ bs) (c ∷ cs)
lead_high [] c bs cs is high = let none : length (encode_utf8 c) ≡ 0 = sym (ap length is) in absurd (omega (arith, none, some_bytes c))
lead_high (x ∷ xs) c bs cs is high = Front.beyond x c (xs ++ bs) cs (lead (cases_lt x 128)) high where
  lead : (x < 128) ⊎ (128 ≤ x) → 128 ≤ x
  lead (inl l) =
      let same : c ≡ x = inside_one c [] (x ∷ xs) 0 (is ∙ sym (append-nil (encode_utf8 c))) (subst (λ (n : ℕ). 0 < n) (ap length is) (omega arith)) l in
      absurd (omega (arith, same))
  lead (inr h) = h

front_of : (cs : List ℕ) → all_scalars cs ≡ true → Front (encode_utf8_all cs) cs
front_of [] ok = Front.ended
front_of (c ∷ cs) ok = elim (cases_lt c 128) [
  | inl low ↦ low_front c cs (and_parts _ (all_scalars cs) ok).1 low
  | inr high ↦ lead_high (encode_utf8 c) c (encode_utf8_all cs) cs refl high
]

front : (bs : List ℕ) → IsUtf8 bs → Front bs (characters bs)
front bs u =
    subst (λ (b : List ℕ). Front b (characters b)) u.1.1 (subst (λ (cs : List ℕ). Front (encode_utf8_all u.0) cs) (sym (characters-encodes u.0 u.1.0)) (front_of u.0 u.1.0))

-- the front of what is left
next : (bs cs : List ℕ) → IsUtf8 bs → cs ≡ characters bs → Front bs cs
next bs cs u is = subst (Front bs) (sym is) (front bs u)

-- ---- four hexadecimal digits

no_digit : (x : ℕ) → 128 ≤ x → hex_digit x ≡ None
no_digit x h =
    let a : (ltb x 48) ≡ false = le-ltb x 48 (omega arith) in
    let b : (ltb x 58) ≡ false = le-ltb x 58 (omega arith) in
    let c : (ltb x 65) ≡ false = le-ltb x 65 (omega arith) in
    let d : (ltb x 91) ≡ false = le-ltb x 91 (omega arith) in
    let e : (ltb x 97) ≡ false = le-ltb x 97 (omega arith) in
    let f : (ltb x 123) ≡ false = le-ltb x 123 (omega arith) in
    rw (a, b, c, d, e, f) refl

abbrev unit_of : Option ℕ → Option ℕ → Option ℕ → Option ℕ → Option ℕ
unit_of a b c d = a >>= λ a. b >>= λ b. c >>= λ c. d >>= λ d. Some (a * 4096 + b * 256 + c * 16 + d)

unit_is : (a b c d : ℕ) → code_unit a b c d ≡ unit_of (hex_digit a) (hex_digit b) (hex_digit c) (hex_digit d)
unfolding code_unit
unit_is a b c d = refl

none_second : (a c d : Option ℕ) → unit_of a None c d ≡ None
none_second None c d = refl
none_second (Some x) c d = refl

none_third : (a b d : Option ℕ) → unit_of a b None d ≡ None
none_third None b d = refl
none_third (Some x) None d = refl
none_third (Some x) (Some y) d = refl

none_fourth : (a b c : Option ℕ) → unit_of a b c None ≡ None
none_fourth None b c = refl
none_fourth (Some x) None c = refl
none_fourth (Some x) (Some y) None = refl
none_fourth (Some x) (Some y) (Some z) = refl

hex_first : (x : ℕ) (t : List ℕ) → 128 ≤ x → hex_at (x ∷ t) ≡ None
unfolding hex_at
hex_first x [] h = refl
hex_first x (b ∷ []) h = refl
hex_first x (b ∷ c ∷ []) h = refl
hex_first x (b ∷ c ∷ d ∷ t) h = unit_is x b c d ∙ ap (λ (o : Option ℕ). unit_of o (hex_digit b) (hex_digit c) (hex_digit d)) (no_digit x h)

hex_second : (a x : ℕ) (t : List ℕ) → 128 ≤ x → hex_at (a ∷ x ∷ t) ≡ None
unfolding hex_at
hex_second a x [] h = refl
hex_second a x (c ∷ []) h = refl
hex_second a x (c ∷ d ∷ t) h = unit_is a x c d ∙ ap (λ (o : Option ℕ). unit_of (hex_digit a) o (hex_digit c) (hex_digit d)) (no_digit x h) ∙ none_second (hex_digit a) (hex_digit c) (hex_digit d)

hex_third : (a b x : ℕ) (t : List ℕ) → 128 ≤ x → hex_at (a ∷ b ∷ x ∷ t) ≡ None
unfolding hex_at
hex_third a b x [] h = refl
hex_third a b x (d ∷ t) h = unit_is a b x d ∙ ap (λ (o : Option ℕ). unit_of (hex_digit a) (hex_digit b) o (hex_digit d)) (no_digit x h) ∙ none_third (hex_digit a) (hex_digit b) (hex_digit d)

hex_fourth : (a b c x : ℕ) (t : List ℕ) → 128 ≤ x → hex_at (a ∷ b ∷ c ∷ x ∷ t) ≡ None
unfolding hex_at
hex_fourth a b c x t h = unit_is a b c x ∙ ap (λ (o : Option ℕ). unit_of (hex_digit a) (hex_digit b) (hex_digit c) o) (no_digit x h) ∙ none_fourth (hex_digit a) (hex_digit b) (hex_digit c)

-- both readings give nothing; or the same, and the same text is left
abbrev Both : {A : Type 0} → List ℕ → List ℕ → Option A → Option A → Type 0
Both bs cs r s = ((r ≡ None) × (s ≡ None)) ⊎ ((x : _) × (r ≡ Some x) × (s ≡ Some x) × IsUtf8 bs × (cs ≡ characters bs))

same_read : {A : Type 0} (bs cs : List ℕ) (o : Option A) → IsUtf8 bs → cs ≡ characters bs → Both bs cs o o
same_read bs cs None u is = inl (refl, refl)
same_read bs cs (Some x) u is = inr (x, refl, refl, u, is)

no_read : {A : Type 0} (bs cs : List ℕ) (r s : Option A) → r ≡ None → s ≡ None → Both bs cs r s
no_read bs cs r s p q = inl (p, q)

fourth : (a b c : ℕ) (bs cs : List ℕ) → Front bs cs → Both (drop 4 (a ∷ b ∷ c ∷ bs)) (drop 4 (a ∷ b ∷ c ∷ cs)) (hex_at (a ∷ b ∷ c ∷ bs)) (hex_at (a ∷ b ∷ c ∷ cs))
unfolding hex_at
fourth a b c _ _ Front.ended = no_read _ _ _ _ refl refl
fourth a b c _ _ (Front.beyond x y bs cs h k) = no_read _ _ _ _ (hex_fourth a b c x bs h) (hex_fourth a b c y cs k)
fourth a b c _ _ (Front.ascii d bs cs small u is) = same_read bs cs (code_unit a b c d) u is

third : (a b : ℕ) (bs cs : List ℕ) → Front bs cs → Both (drop 4 (a ∷ b ∷ bs)) (drop 4 (a ∷ b ∷ cs)) (hex_at (a ∷ b ∷ bs)) (hex_at (a ∷ b ∷ cs))
unfolding hex_at
third a b _ _ Front.ended = no_read _ _ _ _ refl refl
third a b _ _ (Front.beyond x y bs cs h k) = no_read _ _ _ _ (hex_third a b x bs h) (hex_third a b y cs k)
third a b _ _ (Front.ascii c bs cs small u is) = fourth a b c bs cs (next bs cs u is)

second : (a : ℕ) (bs cs : List ℕ) → Front bs cs → Both (drop 4 (a ∷ bs)) (drop 4 (a ∷ cs)) (hex_at (a ∷ bs)) (hex_at (a ∷ cs))
unfolding hex_at
second a _ _ Front.ended = no_read _ _ _ _ refl refl
second a _ _ (Front.beyond x y bs cs h k) = no_read _ _ _ _ (hex_second a x bs h) (hex_second a y cs k)
second a _ _ (Front.ascii b bs cs small u is) = third a b bs cs (next bs cs u is)

hex : (bs cs : List ℕ) → Front bs cs → Both (drop 4 bs) (drop 4 cs) (hex_at bs) (hex_at cs)
unfolding hex_at
hex _ _ Front.ended = no_read _ _ _ _ refl refl
hex _ _ (Front.beyond x y bs cs h k) = no_read _ _ _ _ (hex_first x bs h) (hex_first y cs k)
hex _ _ (Front.ascii a bs cs small u is) = second a bs cs (next bs cs u is)

-- ---- a low surrogate

abbrev if_low : Option ℕ → Option ℕ
if_low o = o >>= λ l. cond (is_low l) (Some l) None

never : (b : Bool) (o : Option ℕ) → cond (b && false) o None ≡ None
never true o = refl
never false o = refl

low_first : (x : ℕ) (t : List ℕ) → 128 ≤ x → low_at (x ∷ t) ≡ None
unfolding low_at
low_first x [] h = refl
low_first x (y ∷ t) h = ap (λ (b : Bool). cond (b && y == small_u) (if_low (hex_at t)) None) (ne_eqb x backslash (λ e. omega arith))

low_second : (x y : ℕ) (t : List ℕ) → 128 ≤ y → low_at (x ∷ y ∷ t) ≡ None
unfolding low_at
low_second x y t h = ap (λ (b : Bool). cond ((x == backslash) && b) (if_low (hex_at t)) None) (ne_eqb y small_u (λ e. omega arith)) ∙ never (x == backslash) (if_low (hex_at t))

kept : (b : Bool) (l : ℕ) (bs cs : List ℕ) → IsUtf8 bs → cs ≡ characters bs → Both bs cs (cond b (if_low (Some l)) None) (cond b (if_low (Some l)) None)
kept b l bs cs u is = same_read bs cs (cond b (if_low (Some l)) None) u is

if_both : (b : Bool) (bs cs : List ℕ) (r s : Option ℕ) → Both bs cs r s → Both bs cs (cond b (if_low r) None) (cond b (if_low s) None)
if_both b bs cs r s (inl p) = no_read _ _ _ _ (ap (λ (o : Option ℕ). cond b (if_low o) None) p.0 ∙ none_either b) (ap (λ (o : Option ℕ). cond b (if_low o) None) p.1 ∙ none_either b) where
  none_either : (b : Bool) → cond b (if_low None) None ≡ None
  none_either true = refl
  none_either false = refl
if_both b bs cs r s (inr p) =
    subst (λ (o : Option ℕ). Both bs cs (cond b (if_low o) None) (cond b (if_low s) None)) (sym p.1)
    (subst (λ (o : Option ℕ). Both bs cs (cond b (if_low (Some p.0)) None) (cond b (if_low o) None)) (sym p.2) (kept b p.0 bs cs p.3 p.4))

low_behind : (x : ℕ) (bs cs : List ℕ) → Front bs cs → Both (drop 6 (x ∷ bs)) (drop 6 (x ∷ cs)) (low_at (x ∷ bs)) (low_at (x ∷ cs))
unfolding low_at
low_behind x _ _ Front.ended = no_read _ _ _ _ refl refl
low_behind x _ _ (Front.beyond y z bs cs h k) = no_read _ _ _ _ (low_second x y bs h) (low_second x z cs k)
low_behind x _ _ (Front.ascii y bs cs small u is) = if_both ((x == backslash) && y == small_u) (drop 4 bs) (drop 4 cs) (hex_at bs) (hex_at cs) (hex bs cs (next bs cs u is))

surrogate : (bs cs : List ℕ) → Front bs cs → Both (drop 6 bs) (drop 6 cs) (low_at bs) (low_at cs)
unfolding low_at
surrogate _ _ Front.ended = no_read _ _ _ _ refl refl
surrogate _ _ (Front.beyond x y bs cs h k) = no_read _ _ _ _ (low_first x bs h) (low_first y cs k)
surrogate _ _ (Front.ascii x bs cs small u is) = low_behind x bs cs (next bs cs u is)

-- ---- an escape

abbrev Piece : Type 0
Piece = ℕ × ℕ

-- the same of what is spelled by so many bytes and characters
abbrev Pieces : List ℕ → List ℕ → Option Piece → Option Piece → Type 0
Pieces bs cs r s = ((r ≡ None) × (s ≡ None)) ⊎ ((p : Piece) × (r ≡ Some p) × (s ≡ Some p) × IsUtf8 (drop p.1 bs) × (drop p.1 cs ≡ characters (drop p.1 bs)))

no_piece : (bs cs : List ℕ) (r s : Option Piece) → r ≡ None → s ≡ None → Pieces bs cs r s
no_piece bs cs r s p q = inl (p, q)

one : (bs cs : List ℕ) (p : Piece) (r s : Option Piece) → r ≡ Some p → s ≡ Some p → IsUtf8 (drop p.1 bs) → drop p.1 cs ≡ characters (drop p.1 bs) → Pieces bs cs r s
one bs cs p r s e f u is = inr (p, e, f, u, is)

abbrev paired : ℕ → Option ℕ → Option Piece
paired u low = low >>= λ l. Some (pair_char u l, 11)

abbrev by_unit : ℕ → Option ℕ → Option Piece
by_unit u low = cond (is_high u) (paired u low) (cond (is_low u) None (Some (u, 5)))

pair : (u : ℕ) (bs cs xs ys : List ℕ) (r s : Option ℕ) → Both xs ys r s → xs ≡ drop 11 bs → ys ≡ drop 11 cs → Pieces bs cs (paired u r) (paired u s)
pair u bs cs xs ys r s (inl p) from to = no_piece bs cs _ _ (ap (paired u) p.0) (ap (paired u) p.1)
pair u bs cs xs ys r s (inr p) from to =
    one bs cs (pair_char u p.0, 11) _ _ (ap (paired u) p.1) (ap (paired u) p.2) (subst IsUtf8 from p.3) (sym to ∙ p.4 ∙ ap characters from)

single : (b : Bool) (u : ℕ) (bs cs : List ℕ) → IsUtf8 (drop 5 bs) → drop 5 cs ≡ characters (drop 5 bs) → Pieces bs cs (cond b None (Some (u, 5))) (cond b None (Some (u, 5)))
single true u bs cs v is = no_piece bs cs _ _ refl refl
single false u bs cs v is = one bs cs (u, 5) _ _ refl refl v is

either_unit : (b : Bool) (u : ℕ) (bs cs : List ℕ) (r s : Option ℕ) → Pieces bs cs (paired u r) (paired u s) → Pieces bs cs (cond (is_low u) None (Some (u, 5))) (cond (is_low u) None (Some (u, 5)))
    → Pieces bs cs (cond b (paired u r) (cond (is_low u) None (Some (u, 5)))) (cond b (paired u s) (cond (is_low u) None (Some (u, 5))))
either_unit true u bs cs r s p q = p
either_unit false u bs cs r s p q = q

unit_behind : (t cs : List ℕ) (r s : Option ℕ) → Both (drop 4 t) (drop 4 cs) r s
    → Pieces (small_u ∷ t) (small_u ∷ cs) (r >>= λ u. by_unit u (low_at (drop 4 t))) (s >>= λ u. by_unit u (low_at (drop 4 cs)))
unit_behind t cs r s (inl p) =
    no_piece _ _ _ _ (ap (λ (o : Option ℕ). o >>= λ u. by_unit u (low_at (drop 4 t))) p.0) (ap (λ (o : Option ℕ). o >>= λ u. by_unit u (low_at (drop 4 cs))) p.1)
unit_behind t cs r s (inr p) =
    let u : ℕ = p.0 in
    let utf8 : IsUtf8 (drop 4 t) = p.3 in
    let is : drop 4 cs ≡ characters (drop 4 t) = p.4 in
    let rest = surrogate (drop 4 t) (drop 4 cs) (next (drop 4 t) (drop 4 cs) utf8 is) in
    let both = pair u (small_u ∷ t) (small_u ∷ cs) _ _ _ _ rest (drop-drop 6 4 t) (drop-drop 6 4 cs) in
    subst (λ (o : Option ℕ). Pieces (small_u ∷ t) (small_u ∷ cs) (o >>= λ u. by_unit u (low_at (drop 4 t))) (s >>= λ u. by_unit u (low_at (drop 4 cs)))) (sym p.1)
    (subst (λ (o : Option ℕ). Pieces (small_u ∷ t) (small_u ∷ cs) (by_unit u (low_at (drop 4 t))) (o >>= λ u. by_unit u (low_at (drop 4 cs)))) (sym p.2)
    (either_unit (is_high u) u (small_u ∷ t) (small_u ∷ cs) (low_at (drop 4 t)) (low_at (drop 4 cs)) both (single (is_low u) u (small_u ∷ t) (small_u ∷ cs) utf8 is)))

unit : (t cs : List ℕ) → Front t cs → Pieces (small_u ∷ t) (small_u ∷ cs) (unit_at t) (unit_at cs)
unfolding unit_at
unit t cs f = unit_behind t cs (hex_at t) (hex_at cs) (hex t cs f)

abbrev shortened : Option ℕ → Option Piece
shortened o = o >>= λ c. Some (c, 1)

no_short : (x : ℕ) → 128 ≤ x → short_escape x ≡ None
no_short x h = none_of (short_escape x) (λ c e. omega (arith, short_small x c e)) where
  none_of : (o : Option ℕ) → ((c : ℕ) → o ≡ given c → ⊥) → o ≡ None
  none_of None n = refl
  none_of (Some c) n = absurd (n c refl)

escape_high : (x : ℕ) (t : List ℕ) → 128 ≤ x → escape_at (x ∷ t) ≡ None
unfolding escape_at
escape_high x t h =
    ap (λ (b : Bool). cond b (unit_at t) (shortened (short_escape x))) (ne_eqb x small_u (λ e. omega arith)) ∙ ap shortened (no_short x h)

short : (x : ℕ) (o : Option ℕ) (bs cs : List ℕ) → IsUtf8 bs → cs ≡ characters bs → Pieces (x ∷ bs) (x ∷ cs) (shortened o) (shortened o)
short x None bs cs u is = no_piece _ _ _ _ refl refl
short x (Some c) bs cs u is = one _ _ (c, 1) _ _ refl refl u is

by_mark : (b : Bool) (x : ℕ) (bs cs : List ℕ) → (x == small_u) ≡ b → IsUtf8 bs → cs ≡ characters bs
    → Pieces (x ∷ bs) (x ∷ cs) (cond b (unit_at bs) (shortened (short_escape x))) (cond b (unit_at cs) (shortened (short_escape x)))
by_mark true x bs cs e u is = subst (λ (y : ℕ). Pieces (y ∷ bs) (y ∷ cs) (unit_at bs) (unit_at cs)) (sym (eqb-true x small_u e)) (unit bs cs (next bs cs u is))
by_mark false x bs cs e u is = short x (short_escape x) bs cs u is

escape : (bs cs : List ℕ) → Front bs cs → Pieces bs cs (escape_at bs) (escape_at cs)
unfolding escape_at
escape _ _ Front.ended = no_piece _ _ _ _ refl refl
escape _ _ (Front.beyond x y bs cs h k) = no_piece _ _ _ _ (escape_high x bs h) (escape_high y cs k)
escape _ _ (Front.ascii x bs cs small u is) = by_mark (x == small_u) x bs cs refl u is

-- ---- what an escape behind a backslash says of the content

-- a text and what follows its first character
record Behind (x : ℕ) (t : List ℕ) : Type 0 where
  utf8 : IsUtf8 t
  is : characters (x ∷ t) ≡ x ∷ characters t

behind_front : (bs cs : List ℕ) → Front bs cs → (x : ℕ) (t : List ℕ) → bs ≡ x ∷ t → x < 128 → IsUtf8 t × (cs ≡ x ∷ characters t)
behind_front _ _ Front.ended x t e small = absurd cc
behind_front _ _ (Front.ascii y bs cs low u is) x t e small =
    let head : y ≡ x = cc in
    let tail : bs ≡ t = cc in
    (subst IsUtf8 tail u, ap (λ (c : List ℕ). y ∷ c) (is ∙ ap characters tail) ∙ ap (λ (z : ℕ). z ∷ characters t) head)
behind_front _ _ (Front.beyond b c bs cs h k) x t e small = let head : b ≡ x = cc in absurd (omega (arith, head))

behind : (x : ℕ) (t : List ℕ) → IsUtf8 (x ∷ t) → x < 128 → Behind x t
behind x t u small = let p = behind_front (x ∷ t) (characters (x ∷ t)) (front (x ∷ t) u) x t refl small in record { utf8 = p.0; is = p.1 }

at_escape : (t : List ℕ) → piece_at (backslash ∷ t) ≡ escape_at t
unfolding piece_at
at_escape t = refl

-- what is left behind the escape
pub record AfterEscape (bs : List ℕ) (c n : ℕ) : Type 0 where
  pub utf8 : IsUtf8 (drop (n + 1) bs)
  pub reads : content_of 0 (characters bs) ≡ (content_of 0 (characters (drop (n + 1) bs)) >>= λ s. Some (c ∷ s))

pub no_escape : (bs t : List ℕ) → bs ≡ backslash ∷ t → IsUtf8 bs → escape_at t ≡ None → content_of 0 (characters bs) ≡ None
unfolding content_of
no_escape bs t is u none =
    let b = behind backslash t (subst IsUtf8 is u) (omega arith) in
    let same : escape_at (characters t) ≡ None = elim (escape t (characters t) (front t b.utf8)) [
      | inl p ↦ p.1
      | inr p ↦ absurd (none_is p.0 (sym none ∙ p.1))
    ] in
    ap (λ (t : List ℕ). content_of 0 (characters t)) is ∙ ap (content_of 0) b.is ∙ ap (λ (o : Option Piece). o >>= λ p. content_of p.1 (characters t) >>= λ s. Some (p.0 ∷ s)) (at_escape (characters t) ∙ same)

pub after_escape : (bs t : List ℕ) (c n : ℕ) → bs ≡ backslash ∷ t → IsUtf8 bs → escape_at t ≡ Some (c, n) → AfterEscape bs c n
after_escape bs t c n is u some =
    let b = behind backslash t (subst IsUtf8 is u) (omega arith) in
    elim (escape t (characters t) (front t b.utf8)) [
      | inl p ↦ absurd (none_is (c, n) (sym p.0 ∙ some))
      | inr p ↦
          let same : p.0 ≡ (c, n) = (let e : Some p.0 ≡ Some (c, n) = sym p.1 ∙ some in cc) in
          let cut : drop (n + 1) bs ≡ drop n t = ap (drop (n + 1)) is ∙ rw add-one refl in
          let left : IsUtf8 (drop n t) = subst (λ (q : Piece). IsUtf8 (drop q.1 t)) same p.3 in
          let chars : drop n (characters t) ≡ characters (drop n t) = subst (λ (q : Piece). drop q.1 (characters t) ≡ characters (drop q.1 t)) same p.4 in
          let piece : piece_at (backslash ∷ characters t) ≡ Some (c, n) = at_escape (characters t) ∙ p.2 ∙ ap Some same in
          record {
            utf8 = subst IsUtf8 (sym cut) left;
            reads = ap (λ (t : List ℕ). content_of 0 (characters t)) is ∙ ap (content_of 0) b.is ∙ one_piece backslash c n (characters t) piece
                ∙ ap (λ (r : List ℕ). content_of 0 r >>= λ s. Some (c ∷ s)) (chars ∙ ap characters (sym cut));
          }
    ]

-- another byte that does not stand for itself spells nothing
pub no_piece_at : (x : ℕ) (t : List ℕ) → is_plain x ≡ false → (x == backslash) ≡ false → piece_at (x ∷ t) ≡ None
unfolding piece_at
no_piece_at x t p b = ap (λ (q : Bool). cond q (escape_at t) (cond (is_plain x) (Some (x, 0)) None)) b ∙ ap (λ (q : Bool). cond {A = Option Piece} q (Some (x, 0)) None) p

pub no_content : (bs : List ℕ) (x : ℕ) (t : List ℕ) → bs ≡ x ∷ t → IsUtf8 bs → x < 128 → is_plain x ≡ false → (x == backslash) ≡ false → content_of 0 (characters bs) ≡ None
unfolding content_of
no_content bs x t is u small p b =
    let h = behind x t (subst IsUtf8 is u) small in
    ap (λ (t : List ℕ). content_of 0 (characters t)) is ∙ ap (content_of 0) h.is ∙ ap (λ (o : Option Piece). o >>= λ p. content_of p.1 (characters t) >>= λ s. Some (p.0 ∷ s)) (no_piece_at x (characters t) p b)
