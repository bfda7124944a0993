-- Where the entries from here on fit, all do.
use Rattle.std.proofs.Common.{drop}
use Rattle.cfg_world.specs.Fits.{EachFits}
use Rattle.cfg_explain.proofs.journals.all_fit.Given as goal

abbrev pub invariant-loop-entry : goal.invariant-loop-entry
invariant-loop-entry l = EachFits (drop l.entry-index l.journal) → EachFits l.journal
