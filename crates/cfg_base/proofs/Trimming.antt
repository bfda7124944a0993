-- Trimming a text's bytes trims its characters.
use Rattle.std.proofs.Common.{◌≡◌, ℕ, suc, add-one, List, [], ◌∷◌, length, Bool, true, false, cond, refl, sym, ap, ◌∙◌, arith}
use Rattle.std.specs.Prelude.{◌&&◌, ◌==◌}
use Rattle.std.proofs.lemmas.Bool.Decides.{nat_tests}
use Rattle.std.specs.Char.{is_whitespace}
use Rattle.std.specs.Str.{chars, encode_utf8_all, IsUtf8, trim, trim_start, trim_end, skip_leading_whitespace, drop_trailing_whitespace}
use Rattle.std.proofs.lemmas.Str.{chars-encodes, scalars-chars}
use lib.Utf8.{scalar, scalars}
use Rattle.cfg_base.specs.Text.{characters}
use Rattle.cfg_base.specs.WhiteSpace.{trimmed, is_empty}
use Rattle.cfg_base.proofs.TextLemmas.{characters-chars, encodes-chars}

both : (a b : Bool) → (a && b) ≡ true → (a ≡ true) × (b ≡ true)
both true true e = (refl, refl)
both true false e = cc
both false b e = cc

scalars-chosen : (b : Bool) (xs ys : List ℕ) → scalars xs ≡ true → scalars ys ≡ true → scalars (cond b xs ys) ≡ true
scalars-chosen true xs ys h k = h
scalars-chosen false xs ys h k = k

scalars-skip : (cs : List ℕ) → scalars cs ≡ true → scalars (skip_leading_whitespace cs) ≡ true
scalars-skip [] h = h
scalars-skip (c ∷ cs) h = scalars-chosen (is_whitespace c) (skip_leading_whitespace cs) (c ∷ cs) (scalars-skip cs (both (scalar c) (scalars cs) h).1) h

scalars-drop : (cs : List ℕ) → scalars cs ≡ true → scalars (drop_trailing_whitespace cs) ≡ true
scalars-drop [] h = h
scalars-drop (c ∷ cs) h =
    let parts = both (scalar c) (scalars cs) h in
    scalars-chosen (is_whitespace c && length (drop_trailing_whitespace cs) == 0) [] (c ∷ drop_trailing_whitespace cs) refl
    (ap (λ (b : Bool). b && scalars (drop_trailing_whitespace cs)) parts.0 ∙ scalars-drop cs parts.1)

chars-trim_start : (bs : List ℕ) → IsUtf8 bs → chars (trim_start bs) ≡ skip_leading_whitespace (chars bs)
unfolding trim_start
chars-trim_start bs u = chars-encodes _ (scalars-skip (chars bs) (scalars-chars bs u))

chars-trim_end : (bs : List ℕ) → scalars (chars bs) ≡ true → chars (trim_end bs) ≡ drop_trailing_whitespace (chars bs)
unfolding trim_end
chars-trim_end bs h = chars-encodes _ (scalars-drop (chars bs) h)

pub characters-trim : (bs : List ℕ) → IsUtf8 bs → characters (trim bs) ≡ trimmed (characters bs)
characters-trim bs u =
    let start = chars-trim_start bs u in
    characters-chars (trim bs)
    ∙ chars-trim_end (trim_start bs) (ap scalars start ∙ scalars-skip (chars bs) (scalars-chars bs u))
    ∙ ap drop_trailing_whitespace (start ∙ ap skip_leading_whitespace (sym (characters-chars bs)))

-- a text with bytes has characters
with_bytes : (cs : List ℕ) (b : ℕ) (bs : List ℕ) → encode_utf8_all cs ≡ b ∷ bs → is_empty cs ≡ false
with_bytes [] b bs e = cc
with_bytes (c ∷ cs) b bs e = refl

not_zero : (n : ℕ) → (suc n == 0) ≡ false
not_zero n = rw (← add-one) (grind (arith, nat_tests))

pub is_empty-characters : (bs : List ℕ) → IsUtf8 bs → (length bs == 0) ≡ is_empty (characters bs)
is_empty-characters [] u = refl
is_empty-characters (b ∷ bs) u = not_zero (length bs) ∙ sym (with_bytes (characters (b ∷ bs)) b bs (encodes-chars (b ∷ bs) u))
