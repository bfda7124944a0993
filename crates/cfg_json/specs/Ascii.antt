-- The characters of ASCII that JSON and the texts of dates give a meaning, by name.
use Rattle.std.specs.Prelude.{ℕ}

abbrev pub backspace : ℕ
backspace = 8

abbrev pub tab : ℕ
tab = 9

abbrev pub line_feed : ℕ
line_feed = 10

abbrev pub form_feed : ℕ
form_feed = 12

abbrev pub carriage_return : ℕ
carriage_return = 13

abbrev pub space : ℕ
space = 32

abbrev pub quotation_mark : ℕ
quotation_mark = 34

abbrev pub plus_sign : ℕ
plus_sign = 43

abbrev pub comma : ℕ
comma = 44

abbrev pub hyphen_minus : ℕ
hyphen_minus = 45

abbrev pub full_stop : ℕ
full_stop = 46

abbrev pub solidus : ℕ
solidus = 47

abbrev pub digit_zero : ℕ
digit_zero = 48

abbrev pub digit_nine : ℕ
digit_nine = 57

abbrev pub colon : ℕ
colon = 58

abbrev pub capital_e : ℕ
capital_e = 69

abbrev pub capital_t : ℕ
capital_t = 84

abbrev pub capital_z : ℕ
capital_z = 90

abbrev pub left_square_bracket : ℕ
left_square_bracket = 91

abbrev pub backslash : ℕ
backslash = 92

abbrev pub right_square_bracket : ℕ
right_square_bracket = 93

abbrev pub small_b : ℕ
small_b = 98

abbrev pub small_e : ℕ
small_e = 101

abbrev pub small_f : ℕ
small_f = 102

abbrev pub small_n : ℕ
small_n = 110

abbrev pub small_r : ℕ
small_r = 114

abbrev pub small_t : ℕ
small_t = 116

abbrev pub small_u : ℕ
small_u = 117

abbrev pub small_z : ℕ
small_z = 122

abbrev pub left_curly_bracket : ℕ
left_curly_bracket = 123

abbrev pub right_curly_bracket : ℕ
right_curly_bracket = 125
