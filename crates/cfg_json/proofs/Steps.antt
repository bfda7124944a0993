-- Passing over white space and digits, byte by byte.
use Rattle.std.proofs.Common.{◌≡◌, ℕ, List, ◌∷◌, length, true, false, refl, sym, ap, ◌∙◌}
use Rattle.std.specs.Char.{is_ascii_digit}
use Rattle.std.proofs.lemmas.List.{nil_from_length}
use Rattle.cfg_json.specs.WhiteSpace.{is_json_white_space}
use Rattle.cfg_json.specs.Reading.{after_white_space, after_digits}

pub one_more_white_space : (rest : List ℕ) (x : ℕ) (t total : List ℕ) → rest ≡ x ∷ t → is_json_white_space x ≡ true → after_white_space rest ≡ total → after_white_space t ≡ total
unfolding after_white_space
one_more_white_space rest x t total is b so_far = let one : after_white_space (x ∷ t) ≡ after_white_space t = rw b refl in sym one ∙ sym (ap after_white_space is) ∙ so_far

pub no_white_space : (rest : List ℕ) (x : ℕ) (t total : List ℕ) → rest ≡ x ∷ t → is_json_white_space x ≡ false → after_white_space rest ≡ total → rest ≡ total
unfolding after_white_space
no_white_space rest x t total is b so_far = let one : after_white_space (x ∷ t) ≡ x ∷ t = rw b refl in is ∙ sym one ∙ sym (ap after_white_space is) ∙ so_far

pub white_space_at_end : (rest total : List ℕ) → length rest ≡ 0 → after_white_space rest ≡ total → rest ≡ total
unfolding after_white_space
white_space_at_end rest total e so_far = let n = nil_from_length rest e in n ∙ sym (ap after_white_space n) ∙ so_far

pub one_digit_more : (rest : List ℕ) (x : ℕ) (t total : List ℕ) → rest ≡ x ∷ t → is_ascii_digit x ≡ true → after_digits rest ≡ total → after_digits t ≡ total
unfolding after_digits
one_digit_more rest x t total is d so_far = let one : after_digits (x ∷ t) ≡ after_digits t = rw d refl in sym one ∙ sym (ap after_digits is) ∙ so_far

pub no_digit : (rest : List ℕ) (x : ℕ) (t total : List ℕ) → rest ≡ x ∷ t → is_ascii_digit x ≡ false → after_digits rest ≡ total → rest ≡ total
unfolding after_digits
no_digit rest x t total is d so_far = let one : after_digits (x ∷ t) ≡ x ∷ t = rw d refl in is ∙ sym one ∙ sym (ap after_digits is) ∙ so_far

pub digits_at_end : (rest total : List ℕ) → length rest ≡ 0 → after_digits rest ≡ total → rest ≡ total
unfolding after_digits
digits_at_end rest total e so_far = let n = nil_from_length rest e in n ∙ sym (ap after_digits n) ∙ so_far
