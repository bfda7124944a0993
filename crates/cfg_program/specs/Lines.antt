-- The line of a call.
use Rattle.std.specs.Prelude.{ℕ, ◌+◌, ◌/◌, ◌%◌, Bool, true, false, List, [], ◌∷◌, ◌++◌, Option, Some, None, Result, Ok, Err, codes}
use Rattle.std.specs.List.{flat_map, count_by}
use Rattle.std.specs.Str.{encode_utf8_all}
use Rattle.std.specs.Fmt.{decimal, signed_decimal}
use Rattle.cfg_base.specs.Moment.{Moment}
use Rattle.cfg_types.specs.Keys.{Keys}
use Rattle.cfg_types.specs.Classes.{class_of, class_name}
use Rattle.cfg_types.specs.declared.errors.CredentialsError.{CredentialsError}
use Rattle.cfg_types.specs.declared.request.Request.TheVariants as request
use Rattle.cfg_world.specs.declared.ask.Question.{Question}
use Rattle.cfg_world.specs.declared.ask.Question.TheVariants as question
use Rattle.cfg_world.specs.declared.ask.Answer.{Answer}
use Rattle.cfg_world.specs.declared.ask.Answer.TheVariants.{Failed}
use Rattle.cfg_world.specs.Fits.{Pair}
use Rattle.cfg_explain.specs.Kinds.{kind_of}
use Rattle.cfg_error_report.specs.CredentialsCauses.{causes_of}
use Rattle.cfg_program.specs.Escapes.{word_byte}
use Rattle.cfg_program.specs.CauseLines.{with_below}
use Rattle.cfg_program.specs.declared.lines.LineForm.{LineForm}
use Rattle.cfg_program.specs.declared.lines.LineForm.TheVariants.{Call, Generated}

-- `=`, and the bytes of a text, those that are escaped as `%` and two digits
abbrev pub shown_text : List ℕ → List ℕ
shown_text bytes = codes "=" ++ flat_map word_byte bytes

-- `0`, from which the ten digits go on
abbrev pub digit_zero : ℕ
digit_zero = 48

-- a number below 1000 in three digits
abbrev pub three_digits : ℕ → List ℕ
three_digits n = (digit_zero + n / 100) ∷ (digit_zero + n / 10 % 10) ∷ (digit_zero + n % 10) ∷ []

-- nanoseconds in nine digits
abbrev pub nine_digits : ℕ → List ℕ
nine_digits n = three_digits (n / 1000000) ++ (three_digits (n / 1000 % 1000) ++ three_digits (n % 1000))

-- seconds, `.` and nine digits, or `none`
abbrev pub shown_expiry : Option Moment → List ℕ
shown_expiry None = codes "none"
shown_expiry (Some m) = signed_decimal m.seconds ++ (codes "." ++ nine_digits m.nanos)

-- `!` behind a question that failed
abbrev pub mark : Answer → List ℕ
mark (Failed kind) = codes "!"
mark _ = []

-- the kind of a question, with `!` where it failed
abbrev pub kind : Pair → List ℕ
kind e = kind_of e.0 ++ mark e.1

-- the kind of a question behind another
abbrev pub later_kind : Pair → List ℕ
later_kind e = codes "," ++ kind e

-- the kinds of the questions, joined by commas, or `-`
abbrev pub kinds : List Pair → List ℕ
kinds [] = codes "-"
kinds (e ∷ journal) = kind e ++ flat_map later_kind journal

-- `credentials`, the id, the provider and the expiry
abbrev pub shown_credentials : Keys → List ℕ
shown_credentials keys =
    codes "credentials " ++ (shown_text (encode_utf8_all keys.access_key_id) ++ (codes " " ++ (shown_text (encode_utf8_all keys.provider_name) ++ (codes " " ++ shown_expiry keys.expiry))))

-- the first part of a line: credentials, or an error's class
abbrev pub shown_outcome : Result Keys CredentialsError → List ℕ
shown_outcome (Ok keys) = shown_credentials keys
shown_outcome (Err e) = codes "error " ++ class_name (class_of e)

-- The line of a call: what it came to, and the questions that it asked.
unfoldable pub shown : Result Keys CredentialsError → List Pair → List ℕ
shown out journal = shown_outcome out ++ (codes " " ++ (kinds journal ++ codes "\n"))

-- whether a role was asked for
abbrev pub is_assume_role : Question → Bool
is_assume_role (question.Send (request.AssumeRole call)) = true
is_assume_role _ = false

-- how many exchanges for roles a journal has
abbrev pub exchanges : List Pair → ℕ
exchanges journal = count_by (λ e. is_assume_role e.0) journal

-- `generate`, the number, how many exchanges for roles there were, and the id of the last key
abbrev pub shown_generated : ℕ → Keys → List Pair → List ℕ
shown_generated n keys journal =
    codes "generate " ++ (decimal n ++ (codes " " ++ (decimal (exchanges journal) ++ (codes " " ++ (shown_text (encode_utf8_all keys.access_key_id) ++ codes "\n")))))

-- The line of a call in this form, with what stands below it.
abbrev pub shown_as : LineForm → Result Keys CredentialsError → List Pair → List ℕ
shown_as (Call below) out journal = with_below causes_of below out (shown out journal)
shown_as (Generated n) (Ok keys) journal = shown_generated n keys journal
shown_as (Generated n) (Err e) journal = shown (Err e) journal
