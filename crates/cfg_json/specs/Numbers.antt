-- Numbers (RFC 8259, section 6).
use Rattle.std.specs.Prelude.{◌≡◌, ◌≢◌, ℕ, ◌⊎◌, List, [], ◌∷◌, ◌++◌, IsTrue}
use Rattle.std.specs.Char.{is_ascii_digit}
use Rattle.std.specs.List.{AllByRecursion}
use Rattle.cfg_json.specs.Ascii.{plus_sign, hyphen_minus, full_stop, digit_zero, capital_e, small_e}

-- nothing, or digits
abbrev pub AllDigits : List ℕ → Type 0
AllDigits t = AllByRecursion (λ c. IsTrue (is_ascii_digit c)) t

-- one digit or more
abbrev pub AreDigits : List ℕ → Type 0
AreDigits [] = ⊥
AreDigits (x ∷ t) = IsTrue (is_ascii_digit x) × AllDigits t

-- 0, or digits without a leading zero
abbrev pub IsWhole : List ℕ → Type 0
IsWhole [] = ⊥
IsWhole (x ∷ t) = ((x ≡ digit_zero) × (t ≡ [])) ⊎ ((x ≢ digit_zero) × AreDigits (x ∷ t))

-- nothing, or a point and digits
abbrev pub IsFraction : List ℕ → Type 0
IsFraction [] = Unit {0}
IsFraction (x ∷ t) = (x ≡ full_stop) × AreDigits t

-- digits, with a sign before them or without one
abbrev pub IsSigned : List ℕ → Type 0
IsSigned [] = ⊥
IsSigned (x ∷ t) = (((x ≡ plus_sign) ⊎ (x ≡ hyphen_minus)) × AreDigits t) ⊎ AreDigits (x ∷ t)

-- nothing, or `e` or `E` and digits, which may have a sign
abbrev pub IsExponent : List ℕ → Type 0
IsExponent [] = Unit {0}
IsExponent (x ∷ t) = ((x ≡ small_e) ⊎ (x ≡ capital_e)) × IsSigned t

-- nothing, or a minus
abbrev pub IsMinus : List ℕ → Type 0
IsMinus [] = Unit {0}
IsMinus (x ∷ t) = (x ≡ hyphen_minus) × (t ≡ [])

pub record IsNumber (n : List ℕ) : Type 0 where
  pub minus : List ℕ
  pub whole : List ℕ
  pub fraction : List ℕ
  pub exponent : List ℕ
  pub is : n ≡ minus ++ (whole ++ (fraction ++ exponent))
  pub is_minus : IsMinus minus
  pub is_whole : IsWhole whole
  pub is_fraction : IsFraction fraction
  pub is_exponent : IsExponent exponent
