-- The set of escaped bytes is the one that the texts of a line escape.
use Rattle.std.proofs.Common.{◌≡◌, ℕ, List, [], ◌∷◌, ◌++◌, Bool, true, false, cond, refl, ap, ◌∙◌, arith}
use Rattle.std.specs.Prelude.{nat_lt}
use Rattle.std.specs.List.{flat_map}
use Rattle.std.proofs.lemmas.Bool.{agree_below, agree_below_at, lt-ltb, ltb-true, ltb-false}
use Rattle.std.proofs.lemmas.Bool.Decides.{nat_tests}
use Rattle.percent_encoding.specs.AsciiSet.{contains, should_percent_encode}
use Rattle.percent_encoding.specs.Percent.{percent_encode_byte, percent_encode}
use Rattle.cfg_program.specs.declared.lines.TheConstants.{ESCAPED}
use Rattle.cfg_program.specs.Escapes.{escaped_in_word, word_byte}

same_in_ascii : agree_below (contains ESCAPED) escaped_in_word 128 ≡ true
same_in_ascii = refl

-- a byte is escaped exactly where the set says so
pub escaped_as_set : (b : ℕ) → should_percent_encode ESCAPED b ≡ escaped_in_word b
unfolding should_percent_encode
escaped_as_set b = by_test (nat_lt b 128) refl where
  by_test : (is_ascii : Bool) → nat_lt b 128 ≡ is_ascii → should_percent_encode ESCAPED b ≡ escaped_in_word b
  by_test true e = rw e (agree_below_at (contains ESCAPED) escaped_in_word 128 b same_in_ascii (ltb-true b 128 e))
  by_test false e = let beyond : nat_lt 126 b ≡ true = lt-ltb 126 b (let far = ltb-false b 128 e in omega (arith, far)) in grind (arith, nat_tests)

pub word_bytes : (bytes : List ℕ) → percent_encode ESCAPED bytes ≡ flat_map word_byte bytes
unfolding percent_encode
word_bytes [] = refl
word_bytes (b ∷ bytes) =
    ap (λ (t : Bool). cond t (percent_encode_byte b) (b ∷ []) ++ percent_encode ESCAPED bytes) (escaped_as_set b)
    ∙ ap (λ (t : List ℕ). word_byte b ++ t) (word_bytes bytes)
