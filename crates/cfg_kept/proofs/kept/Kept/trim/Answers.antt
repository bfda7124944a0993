-- What is kept of a token does not depend on its records.
use Rattle.std.proofs.Common.{refl}
use Rattle.cfg_kept.proofs.SectionSteps.{trimmed_sso, trimmed_login, trimmed_key, trimmed_records}
use Rattle.cfg_kept.proofs.kept.Kept.trim.Goals as goal

pub returns-clause-records : goal.returns-clause-records
returns-clause-records c = rw c.trim.ensures (trimmed_records c.args.self.now.token)

pub returns-clause-kept : goal.returns-clause-kept
returns-clause-kept c = rw (c.trim.ensures, trimmed_sso c.args.self.now.token, trimmed_login c.args.self.now.token) refl

pub returns-clause-key : goal.returns-clause-key
returns-clause-key c = rw c.trim.ensures (trimmed_key c.args.self.now.token)
