use Rattle.std.proofs.Common.{option_map}
use Rattle.cfg_json.specs.Lookups.{number_under}
use Rattle.cfg_json.proofs.LookupSteps.{one_member, mapped_or}
use Rattle.cfg_json.proofs.lookup.last_number.Goals as goal

pub loop-member-preserved : goal.loop-member-preserved
loop-member-preserved c =
    one_member (number_under c.args.name.now) c.args.members.now c.loop-member.member-index c.member-item.result (option_map (λ t. t.now) c.loop-member.found) (option_map (λ t. t.now) c.number_of.result)
    (option_map (λ t. t.now) c.or-found.result) c.loop-member-test.true c.member-item.is c.loop-member.invariant c.number_of.ensures (mapped_or (λ t. t.now) _ _ _ c.or-found.ensures)
