-- The error of a base has a text.
use Rattle.std.proofs.Common.{rules}
use Rattle.cfg_profile.proofs.ToldErrors.{given_told}
use Rattle.cfg_profile.proofs.resolve.base_of_last.Goals as goal

pub error_of_source-requires : goal.error_of_source-requires
error_of_source-requires c = search (rules, given_told c.args.set.now.sessions c.args.section.now c.in-Err-2.error)
