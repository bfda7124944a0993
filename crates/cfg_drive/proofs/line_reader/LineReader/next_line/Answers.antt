-- What ends the search for a line's end.
use Rattle.std.proofs.Common.{sym}
use Rattle.cfg_drive.proofs.Endings.{kept_trans, line_taken, endless_long}
use Rattle.cfg_drive.proofs.line_reader.LineReader.next_line.Goals as goal

pub returns-in-Some-clause-taken : goal.returns-in-Some-clause-taken
returns-in-Some-clause-taken g c =
    line_taken _ _ c.in-Some.at c.hold_more.new.self _ _ (kept_trans _ _ _ c.loop-seen.invariant.kept c.in_ok-hold_more.ensures.kept)
    (rw (sym c.held-held.ensures.is) c.in-Some.ensures.end) c.in_ok-take_line-in-Some.ensures.line c.in_ok-take_line-in-Some.ensures.rest

pub returns-clause-long : goal.returns-clause-long
returns-clause-long g c = λ _. endless_long _ _ _ _ c.loop-seen.invariant.kept c.loop-seen.invariant.within c.loop-seen.invariant.short c.loop-seen-test.false c.loop-seen.invariant.endless
