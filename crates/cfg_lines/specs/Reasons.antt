-- Why a line answers nothing.
use Rattle.std.specs.Prelude.{◌≡◌, ℕ, List, IsTrue, Option, Some, None, codes}
use Rattle.cfg_world.specs.declared.ask.Question.{Question}
use Rattle.cfg_script.specs.FaultTexts.{script_fault_text}
use Rattle.cfg_script.specs.Reading.{script_of, fault_of, reason_of}
use Rattle.cfg_script.specs.Script.{Plain}
use Rattle.cfg_lines.specs.Items.{answers}
use Rattle.cfg_lines.specs.Lines.{IsNoAnswer}
use Rattle.cfg_lines.specs.declared.reason.NoAnswer.{NoAnswer}
use Rattle.cfg_lines.specs.declared.reason.NoAnswer.TheVariants as no_answer

-- the text of why a line answers nothing
abbrev pub no_answer_text : NoAnswer → Option (List ℕ)
no_answer_text (no_answer.NoScript fault) = script_fault_text fault
no_answer_text no_answer.OtherItems = Some (codes "an answer has one item of what was asked, and nothing else")

-- Where the line is no script, its fault is told; else that it does not answer. Without a reason it answers.
abbrev pub IsReason : Question → List ℕ → Option NoAnswer → Type 0
IsReason asked line None = (said : Plain) × (script_of line ≡ Some said) × IsTrue (answers asked said)
IsReason asked line (Some (no_answer.NoScript fault)) = fault_of line ≡ Some (reason_of fault)
IsReason asked line (Some no_answer.OtherItems) = (fault_of line ≡ None) × IsNoAnswer asked line
