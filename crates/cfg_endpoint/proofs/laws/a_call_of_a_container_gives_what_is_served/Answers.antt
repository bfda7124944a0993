use Rattle.cfg_endpoint.proofs.ContainerCalls.{container_goes_on}
use Rattle.cfg_endpoint.proofs.laws.a_call_of_a_container_gives_what_is_served.Goals as goal

pub returns : goal.returns
returns c = λ over old new found d journal before later out has ready gone p.
    container_goes_on over old new found d journal p.part before later out has ready gone p.grows.journal p.grows.same p.grows.stands p.call
