use Rattle.cfg_endpoint.proofs.GoingOn.{goes_on}
use Rattle.cfg_endpoint.proofs.laws.a_call_gives_what_is_served.Goals as goal

pub returns : goal.returns
returns c = λ over old new found d journal before later out nothing ready gone few fresh p.
    goes_on over old new found d journal p.part before later out nothing ready gone few fresh p.grows.journal p.grows.same p.grows.stands p.call
