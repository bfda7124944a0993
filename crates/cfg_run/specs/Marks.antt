-- How many receipts a run had.
use Rattle.std.specs.Prelude.{◌≡◌, List, length}
use Rattle.cfg_world.specs.Fits.{Pair}
use Rattle.cfg_run.specs.declared.kept_progress.Mark.{Mark}
use Rattle.cfg_run.specs.Roles.{IsLastRole}

-- So many receipts, and the last of them for a role.
abbrev pub IsMark : Mark → List Pair → Type 0
IsMark mark asked = (mark.count ≡ length asked) × IsLastRole mark.last_role asked
