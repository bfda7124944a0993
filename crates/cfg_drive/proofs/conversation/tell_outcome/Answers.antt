-- The line is that of what the call came to, over its journal.
use Rattle.std.proofs.Common.{Err, inr, ap, ◌∙◌}
use Rattle.cfg_drive.proofs.conversation.tell_outcome.Goals as goal

pub returns-in-Ok-clause-tells : goal.returns-in-Ok-clause-tells
returns-in-Ok-clause-tells g c = record {
  line = c.in_ok-line.line.items;
  tells = rw c.as_slice.ensures.value at c.in_ok-line.ensures;
  credentials = c.is_ok.ensures.value;
  written = rw c.as_slice-2.ensures.value at c.in-Ok.ensures.done;
}

pub returns-in-Err-Failed-clause-tells : goal.returns-in-Err-Failed-clause-tells
returns-in-Err-Failed-clause-tells g c = record {
  line = c.in_ok-line.line.items;
  tells = rw c.as_slice.ensures.value at c.in_ok-line.ensures;
  written = rw c.as_slice-2.ensures.value at c.in-Err-Failed.ensures.part;
  failed = c.write_all.ensures.failed (c.in-Err-Failed.is ∙ ap Err c.in-Err-Failed.field-0-is);
}

pub returns-clause-tells : goal.returns-clause-tells
returns-clause-tells g c = inr (c.in_ok-line.line.items, rw c.as_slice.ensures.value at c.in_ok-line.ensures, rw c.as_slice-2.ensures.value at c.in-Err-OutOfMemory.ensures.part)
