-- What stands below the line of an error.
use Rattle.std.specs.Prelude.{ℕ, zero, suc, List, [], ◌++◌, Result, Ok, Err, codes}
use Rattle.std.specs.List.{flat_map}
use Rattle.cfg_error_report.specs.Lines.{Line}
use Rattle.cfg_error_report.specs.declared.kind.LineKind.{LineKind}
use Rattle.cfg_error_report.specs.declared.kind.LineKind.TheVariants as kind
use Rattle.cfg_program.specs.Escapes.{line_text}
use Rattle.cfg_program.specs.declared.causes.Below.{Below}
use Rattle.cfg_program.specs.declared.causes.Below.TheVariants as below

-- two spaces for each level
abbrev pub indent : ℕ → List ℕ
indent zero = []
indent (suc depth) = codes "  " ++ indent depth

-- a line stands deeper by one than it stands among the causes, and a detail deeper by one than its text
abbrev pub lead : LineKind → List ℕ
lead kind.Detail = codes "    "
lead _ = codes "  "

-- the text of an error or a cause, a detail of it, or the name of a member
abbrev pub shown_cause : Line → List ℕ
shown_cause line = lead line.kind ++ (indent line.depth ++ (line_text line.text ++ codes "\n"))

-- each on a line of its own
abbrev pub shown_causes : List Line → List ℕ
shown_causes lines = flat_map shown_cause lines

-- the line of what a call came to, and below that of an error its causes, where they are asked for
abbrev pub with_below : {A E : Type 0} → (E → List Line) → Below → Result A E → List ℕ → List ℕ
with_below causes below.Nothing out line = line
with_below causes below.Causes (Ok gave) line = line
with_below causes below.Causes (Err e) line = line ++ shown_causes (causes e)
