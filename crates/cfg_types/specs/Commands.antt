-- What is shown of a command whose arguments may be secrets.
use Rattle.std.specs.Prelude.{◌≡◌, ℕ, List, [], ◌∷◌, ◌++◌, Bool, true, false, if◌then◌else◌, codes}
use Rattle.std.specs.Char.{is_whitespace}
use Rattle.std.specs.Str.{encode_utf8_all}
use Rattle.std.specs.Fmt.{digits}

-- the text before the first white space
abbrev pub program : List ℕ → List ℕ
program [] = []
program (c ∷ text) = if is_whitespace c then [] else c ∷ program text

-- whether there is white space
abbrev pub has_white_space : List ℕ → Bool
has_white_space [] = false
has_white_space (c ∷ text) = if is_whitespace c then true else has_white_space text

-- what stands for all that follows the first white space
abbrev pub note : List ℕ
note = codes " ** arguments redacted **"

-- the text before the first white space, and a note where something is left out
abbrev pub shown_command : List ℕ → List ℕ
shown_command text = program text ++ (if has_white_space text then note else [])

-- a character by its code, as a Debug text has it
abbrev pub code_text : ℕ → List ℕ
code_text code = codes "\\u{" ++ (digits 16 false code ++ codes "}")

-- There is white space in the text, and these bytes are what stands before the first of it.
abbrev pub StandsBefore : List ℕ → List ℕ → Type 0
StandsBefore bytes text = (has_white_space text ≡ true) × (bytes ≡ encode_utf8_all (program text))
