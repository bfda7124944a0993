-- What holds of a poll that ran out of memory.
use Rattle.std.proofs.Common.{Result, Ok, Err, OnErr}

-- what follows of it
pub on_err : {A E : Type 0} {P Q : Type 0} (r : Result A E) → (P → Q) → OnErr r P → OnErr r Q
on_err (Ok x) f h = h
on_err (Err e) f h = f h
