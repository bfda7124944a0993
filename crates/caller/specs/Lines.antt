-- The line of a call.
use Rattle.std.specs.Prelude.{ℕ, List, [], ◌++◌, Result, Ok, Err, codes}
use Rattle.std.specs.List.{flat_map}
use Rattle.std.specs.Str.{encode_utf8_all}
use Rattle.cfg_types.specs.Keys.{Keys}
use Rattle.cfg_types.specs.declared.errors.CredentialsError.{CredentialsError}
use Rattle.cfg_world.specs.declared.ask.Question.{Question}
use Rattle.cfg_world.specs.declared.ask.Question.TheVariants as question
use Rattle.cfg_world.specs.declared.ask.Answer.{Answer}
use Rattle.cfg_world.specs.declared.ask.Answer.TheVariants.{Failed}
use Rattle.cfg_world.specs.Fits.{Pair}
use Rattle.cfg_error_report.specs.Lines.{one_line}
use Rattle.cfg_error_report.specs.CredentialsCauses.{causes_of}

-- the id of the key and the name of the provider, or the error with all that it comes of
abbrev pub shown_outcome : Result Keys CredentialsError → List ℕ
shown_outcome (Ok keys) = encode_utf8_all keys.access_key_id ++ (codes " by " ++ encode_utf8_all keys.provider_name)
shown_outcome (Err e) = one_line (causes_of e)

-- the kind of a question
abbrev pub word_of : Question → List ℕ
word_of question.Now = codes "clock"
word_of question.Jitter = codes "jitter"
word_of (question.Read path) = codes "file"
word_of (question.Write path bytes) = codes "writing"
word_of (question.Run command) = codes "command"
word_of (question.LookUp host) = codes "name"
word_of (question.Send request) = codes "request"

-- `!` behind a question that failed
abbrev pub mark_of : Answer → List ℕ
mark_of (Failed kind) = codes "!"
mark_of _ = []

abbrev pub shown_entry : Pair → List ℕ
shown_entry e = codes " " ++ (word_of e.0 ++ mark_of e.1)

-- What a call gave, and what it asked.
abbrev pub shown : Result Keys CredentialsError → List Pair → List ℕ
shown out journal = shown_outcome out ++ (codes "; asked:" ++ (flat_map shown_entry journal ++ codes "\n"))
