-- A prefix of the line was written.
use Rattle.std.proofs.Common.{inr}
use Rattle.cfg_drive.proofs.conversation.tell_broken.Goals as goal

pub returns-in-Err-OutOfMemory-clause-tells : goal.returns-in-Err-OutOfMemory-clause-tells
returns-in-Err-OutOfMemory-clause-tells g c = inr (c.in-Ok.line.items, c.in-Ok.ensures, rw c.as_slice.ensures.value at c.in-Err-OutOfMemory.ensures.part)
