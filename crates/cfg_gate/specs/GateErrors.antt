-- An answer of a section as a gate answers it.
use Rattle.std.specs.Prelude.{Result, Ok, Err}
use Rattle.cfg_gate.specs.declared.answer.GateError.{GateError}
use Rattle.cfg_gate.specs.declared.answer.GateError.TheVariants.{Token}

abbrev pub by_token : {T E : Type 0} → Result T E → Result T (GateError T E)
by_token (Ok token) = Ok token
by_token (Err e) = Err (Token e)
