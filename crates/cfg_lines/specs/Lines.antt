-- Questions as lines, and lines as their answers.
use Rattle.std.specs.Prelude.{◌≡◌, ◌≢◌, ℕ, List, [], ◌∷◌, ◌++◌, IsTrue, IsFalse, Some, IfSome, All, codes}
use Rattle.hex.specs.Hex.{IsBytes}
use Rattle.serde_json.specs.Read.{read}
use Rattle.serde_json.specs.Written.{compact_text}
use Rattle.cfg_types.specs.declared.request.Request.{Request}
use Rattle.cfg_types.specs.declared.request.Request.TheVariants as request
use Rattle.cfg_world.specs.declared.ask.Question.{Question}
use Rattle.cfg_world.specs.declared.ask.Question.TheVariants as question
use Rattle.cfg_world.specs.declared.ask.Answer.{Answer}
use Rattle.cfg_world.specs.Script.{Given, start}
use Rattle.cfg_script.specs.Devices.{lists_of}
use Rattle.cfg_script.specs.Reading.{script_of}
use Rattle.cfg_script.specs.Script.{Plain}
use Rattle.cfg_lines.specs.Items.{answers}
use Rattle.cfg_lines.specs.Questions.{question_value}

-- What a request has as bytes, and not as a text, are bytes.
abbrev pub RequestHasBytes : Request → Type 0
RequestHasBytes (request.Http call) = IfSome call.authorization IsBytes
RequestHasBytes (request.MetadataGet call) = IsBytes call.token
RequestHasBytes _ = Unit {0}

-- The same of a question.
abbrev pub HasBytes : Question → Type 0
HasBytes (question.Write path bytes) = IsBytes bytes
HasBytes (question.Send request) = RequestHasBytes request
HasBytes _ = Unit {0}

-- The line is the question's value as JSON without spaces, in one line, and its end.
pub record IsQuestionLine (asked : Question) (line : List ℕ) : Type 0 where
  pub text : List ℕ
  pub ends : line ≡ text ++ codes "\n"
  pub compact : text ≡ compact_text (question_value asked)
  pub one_line : All (λ byte. byte ≢ 10) text
  pub reads : read text ≡ Some (question_value asked)
  pub bytes : HasBytes asked

-- The line is a script that answers the question and says nothing else, and this is the answer that its lists give.
pub record IsAnswer (asked : Question) (line : List ℕ) (given : Answer) : Type 0 where
  pub said : Plain
  pub script : script_of line ≡ Some said
  pub alone : IsTrue (answers asked said)
  pub gives : Given (lists_of said) start ((asked, given) ∷ [])

-- The line is no script, or one that does not answer the question or says something else.
abbrev pub IsNoAnswer : Question → List ℕ → Type 0
IsNoAnswer asked line = (said : Plain) → script_of line ≡ Some said → IsFalse (answers asked said)
