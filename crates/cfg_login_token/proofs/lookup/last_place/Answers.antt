use Rattle.cfg_login_token.specs.Access.{place_under}
use Rattle.cfg_json.proofs.LookupSteps.{one_member}
use Rattle.cfg_login_token.proofs.lookup.last_place.Goals as goal

pub loop-member-preserved : goal.loop-member-preserved
loop-member-preserved c =
    one_member (place_under c.args.name.now) c.args.members.now c.loop-member.member-index c.member-item.result c.loop-member.found c.place_of.result
    c.or-found.result c.loop-member-test.true c.member-item.is c.loop-member.invariant c.place_of.ensures c.or-found.ensures
