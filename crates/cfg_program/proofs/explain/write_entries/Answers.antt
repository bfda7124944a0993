-- One line more, and behind the last there is none.
use Rattle.std.proofs.Common.{◌++◌, arith}
use Rattle.cfg_program.specs.Explained.{entry_lines}
use Rattle.cfg_program.proofs.Explaining.{entries_next, entries_done}
use Rattle.cfg_program.proofs.explain.write_entries.Goals as goal

pub loop-place-preserved : goal.loop-place-preserved
loop-place-preserved c =
    entries_next c.args.journal.now c.args.members.now c.loop-place.place c.index-journal-place.result c.index-members-place.result c.loop-place.lines.items c.write_entry.new.lines.items
    (c.args.lines.now.items ++ entry_lines 1 c.args.journal.now c.args.members.now)
    c.loop-place-test.true (omega (arith, c.loop-place-test.true, c.requires)) c.index-journal-place.is c.index-members-place.is c.loop-place.invariant c.in_ok-write_entry.ensures

pub returns : goal.returns
returns c =
    entries_done c.args.journal.now c.args.members.now c.loop-place.place c.loop-place.lines.items (c.args.lines.now.items ++ entry_lines 1 c.args.journal.now c.args.members.now) (omega (arith, c.loop-place-test.false)) c.loop-place.invariant
