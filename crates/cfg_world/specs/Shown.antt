-- The Debug text of a question: of a file it tells the path and none of its bytes, and of a command the program alone.
use Rattle.std.specs.Prelude.{ℕ, List, Option, Some, codes}
use Rattle.std.specs.Str.{encode_utf8_all}
use Rattle.std.specs.Fmt.{debug_str, debug_variant, ◌++?◌}
use Rattle.cfg_types.specs.Commands.{shown_command}
use Rattle.cfg_types.specs.declared.request.Request.{Request}
use Rattle.cfg_world.specs.declared.ask.Question.{Question}
use Rattle.cfg_world.specs.declared.ask.Question.TheVariants as question

-- a text in quotation marks, between what stands before it and what stands behind it
abbrev pub quoted : List ℕ → List ℕ → List ℕ → Option (List ℕ)
quoted before text after = Some before ++? debug_str (encode_utf8_all text) ++? Some after

-- by the Debug text of a request, which tells no secret
abbrev pub shown_question : (Request → Option (List ℕ)) → Question → Option (List ℕ)
shown_question request question.Now = Some (codes "Now")
shown_question request question.Jitter = Some (codes "Jitter")
shown_question request (question.Read path) = quoted (codes "Read { path: ") path (codes " }")
shown_question request (question.Write path bytes) = quoted (codes "Write { path: ") path (codes ", bytes: \"** redacted **\" }")
shown_question request (question.Run command) = quoted (codes "Run { command: ") (shown_command command) (codes " }")
shown_question request (question.LookUp host) = quoted (codes "LookUp { host: ") host (codes " }")
shown_question request (question.Send sent) = debug_variant (codes "Send") (request sent)
