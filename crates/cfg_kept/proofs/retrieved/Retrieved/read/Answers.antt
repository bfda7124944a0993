use Rattle.std.proofs.Common.{rules, subst}
use Rattle.cfg_kept.specs.RoleDocuments.{IsRoleDocument}
use Rattle.cfg_kept.proofs.RetrievedSteps.{is_retrieved}
use Rattle.cfg_kept.proofs.retrieved.Retrieved.read.Goals as goal

pub invariant_of-result : goal.invariant_of-result
invariant_of-result c = is_retrieved c.args.document c.args.reading c.args.jitter _ (subst IsRoleDocument c.document.view_is c.document.invariant) c.requires.reads c.requires.asks c.requires.due (search rules) (search rules)
