-- Writing a date.
use Rattle.std.specs.Prelude.{ℕ, ◌/◌, ◌%◌, List, [], ◌∷◌, ◌++◌, ◌==◌, if◌then◌else◌}
use Rattle.cfg_json.specs.Ascii.{hyphen_minus, full_stop, digit_zero, colon, capital_t, capital_z}
use Rattle.cfg_json.specs.declared.dates.local.LocalTime.{LocalTime}
use Rattle.cfg_json.specs.Dates.{two, three, four}

-- nine digits
unfoldable pub nine : ℕ → List ℕ
nine n = three (n / 1000000) ++ (three (n / 1000 % 1000) ++ three (n % 1000))

abbrev pub drop_zero : ℕ → List ℕ → List ℕ
drop_zero x [] = if x == digit_zero then [] else x ∷ []
drop_zero x (y ∷ ys) = x ∷ y ∷ ys

-- digits without the zeros at their end
unfoldable pub without_zeros : List ℕ → List ℕ
without_zeros [] = []
without_zeros (x ∷ xs) = drop_zero x (without_zeros xs)

-- a point and digits, where there are nanoseconds
unfoldable pub fraction_of : ℕ → List ℕ
fraction_of n = if n == 0 then [] else full_stop ∷ without_zeros (nine n)

unfoldable pub day_text : LocalTime → List ℕ
day_text l = four l.year ++ (hyphen_minus ∷ (two l.month ++ (hyphen_minus ∷ two l.day)))

unfoldable pub clock_text : LocalTime → List ℕ
clock_text l = two l.hour ++ (colon ∷ (two l.minute ++ (colon ∷ two l.second)))

unfoldable pub date_text : LocalTime → ℕ → List ℕ
date_text l n = day_text l ++ (capital_t ∷ (clock_text l ++ (fraction_of n ++ capital_z ∷ [])))
