-- A string: its text between quotation marks, and the characters that it stands for (RFC 8259, sections 7 and 8).
use Rattle.std.specs.Prelude.{◌≡◌, ℕ, List, [], ◌∷◌, ◌++◌, true, false, Some}
use Rattle.std.specs.Str.{encode_utf8_all, all_scalars}
use Rattle.cfg_json.specs.Ascii.{quotation_mark, backslash, small_u}
use Rattle.cfg_json.specs.Characters.{is_plain, short_escape, code_unit, is_high, is_low, pair_char}

-- the characters that are written, and those that they stand for: a rule for each way to write one
pub data IsContent : List ℕ → List ℕ → Type 0 where
  ended : IsContent [] []
  plain : (c : ℕ) (t s : List ℕ) → is_plain c ≡ true → IsContent t s → IsContent (c ∷ t) (c ∷ s)
  short : (x c : ℕ) (t s : List ℕ) → short_escape x ≡ Some c → IsContent t s → IsContent (backslash ∷ x ∷ t) (c ∷ s)
  unit : (a b c d u : ℕ) (t s : List ℕ) → code_unit a b c d ≡ Some u → is_high u ≡ false → is_low u ≡ false → IsContent t s
      → IsContent (backslash ∷ small_u ∷ a ∷ b ∷ c ∷ d ∷ t) (u ∷ s)
  pair : (a b c d u e f g h l : ℕ) (t s : List ℕ) → code_unit a b c d ≡ Some u → is_high u ≡ true → code_unit e f g h ≡ Some l → is_low l ≡ true → IsContent t s
      → IsContent (backslash ∷ small_u ∷ a ∷ b ∷ c ∷ d ∷ backslash ∷ small_u ∷ e ∷ f ∷ g ∷ h ∷ t) (pair_char u l ∷ s)

-- the bytes of a string: what is written, in UTF-8, between quotation marks
pub record IsString (bytes characters : List ℕ) : Type 0 where
  pub written : List ℕ
  pub scalars : all_scalars written ≡ true
  pub content : IsContent written characters
  pub is : bytes ≡ quotation_mark ∷ (encode_utf8_all written ++ quotation_mark ∷ [])
