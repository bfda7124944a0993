-- How a chain goes on after what a member answered.
use Rattle.std.specs.Prelude.{◌≡◌, Some, None, Result}
use Rattle.cfg_meta.specs.declared.turn.Turn.{Turn}
use Rattle.cfg_meta.specs.declared.turn.Turn.TheVariants.{PassedOver, Answers}
use Rattle.cfg_meta.specs.AnswerRules.{AnswerRules, passed_over}

-- an error that is passed over, or the answer as it is
abbrev pub IsTurn : {V E : Type 0} → AnswerRules E → Result V E → Turn V E → Type 0
IsTurn rules out (PassedOver e) = passed_over rules out ≡ Some e
IsTurn rules out (Answers answer) = (passed_over rules out ≡ None) × (answer ≡ out)
