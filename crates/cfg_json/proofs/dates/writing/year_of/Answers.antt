use Rattle.std.proofs.Common.{arith, pos, ◌<ℤ◌}
use Rattle.jiff_core.proofs.SignedLemmas.{signed_arith}
use Rattle.jiff_core.proofs.DateLemmas.{civil}
use Rattle.cfg_json.proofs.DatesWritten.{before_year_one}
use Rattle.cfg_json.proofs.dates.writing.year_of.Goals as goal

pub returns-then-year-lt1-clause-none : goal.returns-then-year-lt1-clause-none
returns-then-year-lt1-clause-none c =
    let h = civil c.args.date in
    let lt : c.args.date.year <ℤ pos 1 = omega (arith, signed_arith, c.if-year-lt1.true, h.0) in
    before_year_one c.args.date.year c.args.date.month c.args.date.day h lt
