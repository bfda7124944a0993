-- What reading a variable gives.
use Rattle.std.specs.Prelude.{ℕ, List, Option, Some, None, Result, Ok, Err}
use Rattle.std.specs.FinMap.{get}
use Rattle.cfg_types.specs.declared.environment.EnvText.{EnvText}
use Rattle.cfg_types.specs.declared.environment.EnvText.TheVariants as value
use Rattle.cfg_types.specs.declared.environment.VarError.{VarError}
use Rattle.cfg_types.specs.declared.environment.VarError.TheVariants.{NotPresent, NotUnicode}
use Rattle.cfg_base.specs.TextMap.{Named}

-- environment variables by the bytes of their names
abbrev pub Variables : Type 0
Variables = Named EnvText

-- environment variables in the order of a list
abbrev pub ListedVariables : Type 0
ListedVariables = List (List ℕ × EnvText)

-- what a value reads as
abbrev pub read_value : Option EnvText → Result (List ℕ) VarError
read_value None = Err NotPresent
read_value (Some value.NotUnicode) = Err NotUnicode
read_value (Some (value.Text text)) = Ok text

-- what reading the variable of this name gives
abbrev pub variable : Variables → List ℕ → Result (List ℕ) VarError
variable env name = read_value (get env name)

-- the text that was read, where one was
abbrev pub text_read : Result (List ℕ) VarError → Option (List ℕ)
text_read (Ok text) = Some text
text_read (Err e) = None

-- the text of a variable, where it can be read
abbrev pub readable : Variables → List ℕ → Option (List ℕ)
readable env name = text_read (variable env name)
