use Rattle.std.proofs.Common.{sym}
use Rattle.cfg_profile.specs.Bases.{base}
use Rattle.cfg_profile.proofs.ToldErrors.{error_told, base_told}
use Rattle.cfg_profile.proofs.laws.errors_of_bases_are_told.Goals as goal

pub returns : goal.returns
returns c sessions section error given = error_told (base sessions section) (base_told sessions section) error (sym given)
