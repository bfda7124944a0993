-- A text comes back from its bytes, whatever numbers stand for its characters.
use Rattle.std.proofs.Common.{◌≡◌, Bool, true, false, not, cond, subst, ℕ, zero, suc, ◌+◌, ◌-◌, ◌*◌, ◌/◌, ◌<◌, ◌≤◌, ◌⊎◌, List, [], ◌∷◌, ◌++◌, inl, inr, refl, sym, ap, ◌∙◌, append_assoc, append-nil, arith}
use Rattle.std.specs.Str.{chars, chars_after, continuation_len, lead_bits, encode_utf8_all}
use lib.Utf8.{encode, encodes, next}
use lib.Dec.{T, ltb, lt→ltb, ltb→lt, nltb→le}
use Rattle.cfg_base.specs.Text.{characters}
use Rattle.cfg_base.proofs.TextLemmas.{characters-chars}

-- ---- the bytes of a character, by how many there are

taken : {X : Type 0} (y : Bool) (a b : X) → T y → cond y a b ≡ a
taken true a b t = refl
taken false a b t = absurd t

passed_at : {X : Type 0} (y : Bool) (m n : ℕ) (a b : X) → ltb m n ≡ y → n ≤ m → cond y a b ≡ b
passed_at true m n a b e le = let lt : m < n = ltb→lt m n (subst T (sym e) tt) in absurd (omega arith)
passed_at false m n a b e le = refl

passed : {X : Type 0} (m n : ℕ) (a b : X) → n ≤ m → cond (ltb m n) a b ≡ b
passed m n a b le = passed_at (ltb m n) m n a b refl le

one : (c : ℕ) → c < 128 → encode c ≡ c ∷ []
unfolding encode
one c h = taken (ltb c 128) _ _ (lt→ltb c 128 h)

two : (c : ℕ) → 128 ≤ c → c < 2048 → encode c ≡ (192 + c / 64) ∷ next c ∷ []
unfolding encode
two c l h = passed c 128 _ _ l ∙ taken (ltb c 2048) _ _ (lt→ltb c 2048 h)

three : (c : ℕ) → 2048 ≤ c → c < 65536 → encode c ≡ (224 + c / 4096) ∷ next (c / 64) ∷ next c ∷ []
unfolding encode
three c l h = passed c 128 _ _ (omega arith) ∙ passed c 2048 _ _ l ∙ taken (ltb c 65536) _ _ (lt→ltb c 65536 h)

four : (c : ℕ) → 65536 ≤ c → encode c ≡ (240 + c / 262144) ∷ next (c / 4096) ∷ next (c / 64) ∷ next c ∷ []
unfolding encode
four c l = passed c 128 _ _ (omega arith) ∙ passed c 2048 _ _ (omega arith) ∙ passed c 65536 _ _ l

order_at : (y : Bool) (m n : ℕ) → ltb m n ≡ y → (m < n) ⊎ (n ≤ m)
order_at true m n e = inl (ltb→lt m n (subst T (sym e) tt))
order_at false m n e = inr (nltb→le m n (subst (λ (z : Bool). T (not z)) (sym e) tt))

order : (m n : ℕ) → (m < n) ⊎ (n ≤ m)
order m n = order_at (ltb m n) m n refl

-- ---- the character of the bytes

whole : (c : ℕ) (bs : List ℕ) → chars_after zero c bs ≡ c ∷ chars bs
unfolding chars
whole c [] = refl
whole c (b ∷ bs) = refl

led : (a n v : ℕ) (bs : List ℕ) → n ≡ continuation_len a → v ≡ lead_bits a → chars (a ∷ bs) ≡ chars_after n v bs
unfolding chars
led a n v bs p q = λ i. chars_after (sym p i) (sym q i) bs

by_one : (c : ℕ) (rest : List ℕ) → c < 128 → chars (c ∷ rest) ≡ c ∷ chars rest
by_one c rest h = led c zero c rest (grind arith) (grind arith) ∙ whole c rest

by_two : (c a b : ℕ) (rest : List ℕ) → 192 ≤ a → a < 224 → (a - 192) * 64 + (b - 128) ≡ c → chars (a ∷ b ∷ rest) ≡ c ∷ chars rest
by_two c a b rest l h is =
    led a (suc zero) (a - 192) (b ∷ rest) (grind arith) (grind arith)
    ∙ whole _ rest ∙ ap (λ x. x ∷ chars rest) is

by_three : (c a b d : ℕ) (rest : List ℕ) → 224 ≤ a → a < 240 → ((a - 224) * 64 + (b - 128)) * 64 + (d - 128) ≡ c → chars (a ∷ b ∷ d ∷ rest) ≡ c ∷ chars rest
by_three c a b d rest l h is =
    led a (suc (suc zero)) (a - 224) (b ∷ d ∷ rest) (grind arith) (grind arith)
    ∙ whole _ rest ∙ ap (λ x. x ∷ chars rest) is

by_four : (c a b d e : ℕ) (rest : List ℕ) → 240 ≤ a → (((a - 240) * 64 + (b - 128)) * 64 + (d - 128)) * 64 + (e - 128) ≡ c → chars (a ∷ b ∷ d ∷ e ∷ rest) ≡ c ∷ chars rest
by_four c a b d e rest l is =
    led a (suc (suc (suc zero))) (a - 240) (b ∷ d ∷ e ∷ rest) (grind arith) (grind arith)
    ∙ whole _ rest ∙ ap (λ x. x ∷ chars rest) is

one_back : (c : ℕ) (rest : List ℕ) → (c < 128) ⊎ (128 ≤ c) → (c < 2048) ⊎ (2048 ≤ c) → (c < 65536) ⊎ (65536 ≤ c) → chars (encode c ++ rest) ≡ c ∷ chars rest
one_back c rest (inl h) _ _ = ap (λ p. chars (p ++ rest)) (one c h) ∙ by_one c rest h
one_back c rest (inr l) (inl h) _ =
    ap (λ p. chars (p ++ rest)) (two c l h)
    ∙ by_two c (192 + c / 64) (next c) rest (omega arith) (omega arith) (omega arith)
one_back c rest (inr _) (inr l) (inl h) =
    ap (λ p. chars (p ++ rest)) (three c l h)
    ∙ by_three c (224 + c / 4096) (next (c / 64)) (next c) rest (omega arith) (omega arith) (omega arith)
one_back c rest (inr _) (inr _) (inr l) =
    ap (λ p. chars (p ++ rest)) (four c l)
    ∙ by_four c (240 + c / 262144) (next (c / 4096)) (next (c / 64)) (next c) rest (omega arith) (omega arith)

all_back : (cs rest : List ℕ) → chars (encodes cs ++ rest) ≡ cs ++ chars rest
all_back [] rest = refl
all_back (c ∷ cs) rest =
    ap chars (append_assoc (encode c) (encodes cs) rest)
    ∙ one_back c (encodes cs ++ rest) (order c 128) (order c 2048) (order c 65536)
    ∙ ap (λ l. c ∷ l) (all_back cs rest)

chars_back : (cs : List ℕ) → chars (encodes cs) ≡ cs
unfolding chars
chars_back cs = ap chars (sym (append-nil (encodes cs))) ∙ all_back cs [] ∙ append-nil cs

-- the characters of a text's bytes
pub text_back : (cs : List ℕ) → characters (encode_utf8_all cs) ≡ cs
text_back cs = characters-chars (encode_utf8_all cs) ∙ chars_back cs
