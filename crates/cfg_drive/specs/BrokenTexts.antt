-- The texts of why a conversation broke off.
use Rattle.std.specs.Prelude.{ℕ, List, ◌++◌, Option, Some, codes}
use Rattle.std.specs.Fmt.{decimal, ◌++?◌}
use Rattle.cfg_script.specs.FaultTexts.{script_fault_text}
use Rattle.cfg_lines.specs.Reasons.{no_answer_text}
use Rattle.cfg_drive.specs.declared.configured.NoConfiguration.{NoConfiguration}
use Rattle.cfg_drive.specs.declared.configured.NoConfiguration.TheVariants.{NoScript, HasAnswers, SeveralCalls}
use Rattle.cfg_drive.specs.declared.driven.Broken.{Broken}
use Rattle.cfg_drive.specs.declared.driven.Cause.{Cause}
use Rattle.cfg_drive.specs.declared.driven.Cause.TheVariants as cause

abbrev pub no_configuration_text : NoConfiguration → Option (List ℕ)
no_configuration_text (NoScript fault) = script_fault_text fault
no_configuration_text HasAnswers = Some (codes "a configuration has no lists of answers")
no_configuration_text SeveralCalls = Some (codes "calls: this command makes one call")

abbrev pub cause_text : Cause → Option (List ℕ)
cause_text (cause.NoConfiguration reason) = no_configuration_text reason
cause_text (cause.NoAnswer reason) = no_answer_text reason
cause_text cause.Ended = Some (codes "the input ended")
cause_text cause.Failed = Some (codes "the input failed")
cause_text cause.TooLong = Some (codes "more than 1048576 bytes")

-- the number of the line, and why
abbrev pub broken_text : Broken → Option (List ℕ)
broken_text b = Some (codes "line " ++ (decimal b.line ++ codes ": ")) ++? cause_text b.cause

-- the same, where this is told of why
abbrev pub reason_text : ℕ → List ℕ → List ℕ
reason_text line why = codes "line " ++ decimal line ++ codes ": " ++ why
