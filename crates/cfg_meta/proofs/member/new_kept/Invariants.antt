-- What is kept of the members so far.
use Rattle.std.proofs.Common.{◌≡◌, map, take}
use Rattle.cfg_kept.specs.KeptStates.{kept_key, states_of}
use Rattle.cfg_kept.specs.Kinds.{no_states}
use Rattle.cfg_meta.proofs.member.new_kept.Given as goal

abbrev pub invariant-loop-member : goal.invariant-loop-member
invariant-loop-member g l = record {
  nothing : map states_of l.kept.items ≡ map (λ _. no_states) (take l.member-index l.members);
  keys : map kept_key l.kept.items ≡ map (λ m. g.M.ChainMember.needs m) (take l.member-index l.members);
}
