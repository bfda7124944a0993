-- The members so far were passed over, and the keys of what is kept are the members'.
use Rattle.std.proofs.Common.{◌≡◌, map}
use Rattle.cfg_kept.specs.KeptStates.{kept_key}
use Rattle.cfg_meta.specs.MemberParts.{keeping_of}
use Rattle.cfg_meta.proofs.MemberSteps.{MembersPassed}
use Rattle.cfg_meta.proofs.follow.follow_members.Given as goal

abbrev pub invariant-loop-i : goal.invariant-loop-i
invariant-loop-i g l = record {
  led : MembersPassed g.A.Asking g.M.Error.ChainError.rules (λ m. g.M.ChainMember.named m) (λ m. g.M.ChainMember.is_tree m) l.members (map keeping_of l.fn.kept) l.fn.asking (map keeping_of l.kept) l.asking l.i l.attempts.items;
  keys : map kept_key l.kept ≡ map kept_key l.fn.kept;
}
