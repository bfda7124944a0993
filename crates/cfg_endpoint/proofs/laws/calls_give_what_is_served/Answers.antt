use Rattle.cfg_endpoint.proofs.GoingOn.{goes_on, calls_go_on, FewRequests, requests_leave, TwoForEach, calls_leave, few_calls}
use Rattle.cfg_endpoint.proofs.laws.calls_give_what_is_served.Goals as goal

pub returns : goal.returns
returns c = record {
  requests = λ over old d journal before calls nothing ready gone fresh few made.
      calls_go_on _ over d FewRequests requests_leave
      (λ old new found journal before later out gone enough fresh p. goes_on over old new found d journal p.part before later out nothing ready gone enough fresh p.grows.journal p.grows.same p.grows.stands p.call)
      calls old journal before gone few fresh made;
  calls = λ over old d journal before calls nothing ready gone fresh few short made.
      calls_go_on _ over d TwoForEach calls_leave
      (λ old new found journal before later out gone enough fresh p. goes_on over old new found d journal p.part before later out nothing ready gone enough fresh p.grows.journal p.grows.same p.grows.stands p.call)
      calls old journal before gone (few_calls _ before calls few short) fresh made;
}
