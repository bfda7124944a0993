-- Roles fail at the first exchange that gives no credentials.
use Rattle.std.specs.Option.{option_or}
use Rattle.std.proofs.Common.{◌≡◌, ℕ, List, [], ◌∷◌, ◌++◌, Option, Some, None, Ok, Err, option_map, refl, sym, ap, ◌∙◌, subst, append-nil}
use Rattle.std.specs.Result.{result_err}
use Rattle.cfg_types.specs.Keys.{Keys}
use Rattle.cfg_types.specs.declared.request.sts.AssumeRole.{AssumeRole}
use Rattle.cfg_types.specs.declared.settings.CallSettings.{CallSettings}
use Rattle.cfg_types.specs.Replies.{sts_in}
use Rattle.cfg_world.specs.Fits.{Pair}
use Rattle.cfg_world.specs.Inquiry.{Done, Reads, after, if_ok}
use Rattle.cfg_world.specs.Leaves.{clock, assuming, granted_of}
use Rattle.cfg_world.proofs.Inquiries.{split_after}
use Rattle.cfg_profile.specs.declared.chain.RoleArn.{RoleArn}
use Rattle.cfg_providers.specs.CustomSources.{Answer}
use Rattle.cfg_providers.specs.SessionNames.{session_name}
use Rattle.cfg_providers.specs.AssumeRole.{role_session, request, granted, in_role, exchange, assumes, assumes_roles}
use Rattle.cfg_providers.specs.RoleCauses.{exchange_failure, first_failure, of_role, why_roles}

-- the answer of one role
record Assumed (part : List Pair) (out : Answer) : Type 0 where
  given : Answer
  is : out ≡ in_role given
  failure : first_failure part ≡ result_err given

or_none : {T : Type 0} (o : Option T) → option_or o None ≡ o
or_none None = refl
or_none (Some x) = refl

option_or-assoc : {T : Type 0} (a b c : Option T) → option_or a (option_or b c) ≡ option_or (option_or a b) c
option_or-assoc None b c = refl
option_or-assoc (Some x) b c = refl

pub first_failure-append : (p q : List Pair) → first_failure (p ++ q) ≡ option_or (first_failure p) (first_failure q)
first_failure-append [] q = refl
first_failure-append (e ∷ p) q = ap (option_or (exchange_failure e.0 e.1)) (first_failure-append p q) ∙ option_or-assoc (exchange_failure e.0 e.1) (first_failure p) (first_failure q)

sent : (r : AssumeRole) (part : List Pair) (out : Answer) → Reads (after (assuming r) (λ answer. Done (in_role (granted answer)))) part out → Assumed part out
unfolding assuming
sent r [] out h = absurd h
sent r (e ∷ []) out h = record {
  given = granted (granted_of sts_in e.1);
  is = sym h.1;
  failure = ap (λ q. option_or (exchange_failure q e.1) None) h.0 ∙ or_none (result_err (granted (granted_of sts_in e.1)));
}
sent r (e ∷ f ∷ part) out h = absurd h.1

assumed_named : (settings : CallSettings) (role : RoleArn) (signer : Keys) (given : Option (List ℕ)) (part : List Pair) (out : Answer) →
    Reads (after (session_name role_session given) (exchange settings role signer)) part out → Assumed part out
unfolding session_name clock
assumed_named settings role signer (Some name) part out h = sent (request settings role signer name) part out h
assumed_named settings role signer None [] out h = absurd h
assumed_named settings role signer None (e ∷ part) out h =
    let a = sent _ part out h.1 in
    record { given = a.given; is = a.is; failure = ap (λ q. option_or (exchange_failure q e.1) (first_failure part)) h.0 ∙ a.failure }

assumed : (settings : CallSettings) (signer : Keys) (role : RoleArn) (part : List Pair) (out : Answer) → Reads (assumes settings signer role) part out → Assumed part out
unfolding assumes
assumed settings signer role part out h = assumed_named settings role signer role.session_name part out h

fails : (given : Answer) → result_err (in_role given) ≡ option_map of_role (result_err given)
fails (Ok keys) = refl
fails (Err e) = refl

-- the others, after a role
then_others : (settings : CallSettings) (roles : List RoleArn) (journal part rest : List Pair) (given out : Answer) →
    journal ≡ part ++ rest → first_failure part ≡ result_err given →
    ((signer : Keys) → Reads (assumes_roles settings roles signer) rest out → result_err out ≡ why_roles rest) →
    Reads (if_ok (assumes_roles settings roles) (in_role given)) rest out → result_err out ≡ why_roles journal
then_others settings roles journal part rest (Ok keys) out parts failure others h =
    others keys h ∙ ap (option_map of_role) (sym (ap first_failure parts ∙ first_failure-append part rest ∙ ap (λ o. option_or o (first_failure rest)) failure))
then_others settings roles journal part [] (Err e) out parts failure others h =
    ap result_err (sym h) ∙ ap (option_map of_role) (sym (ap first_failure (parts ∙ append-nil part) ∙ failure))
then_others settings roles journal part (x ∷ rest) (Err e) out parts failure others h = absurd h

pub roles_fail : (settings : CallSettings) (roles : List RoleArn) (signer : Keys) (journal : List Pair) (out : Answer) →
    Reads (assumes_roles settings roles signer) journal out → result_err out ≡ why_roles journal
unfolding assumes_roles
roles_fail settings [] signer [] out h = ap result_err (sym h)
roles_fail settings [] signer (e ∷ journal) out h = absurd h
roles_fail settings (role ∷ roles) signer journal out h =
    let s = split_after (assumes settings signer role) (if_ok (assumes_roles settings roles)) journal out h in
    let a = assumed settings signer role s.part s.middle s.first in
    then_others settings roles journal s.part s.rest a.given out s.parts a.failure (λ keys. roles_fail settings roles keys s.rest out) (subst (λ m. Reads (if_ok (assumes_roles settings roles) m) s.rest out) a.is s.then)
