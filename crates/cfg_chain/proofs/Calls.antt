-- A call that follows the default chain provides what its parts read.
use Rattle.std.proofs.Common.{◌≡◌, List, [], ◌++◌, Option, Some, Result, inr, refl, sym, ap, ◌∙◌, subst}
use Rattle.cfg_world.specs.declared.asking.Asking.{Ghosts}
use Rattle.cfg_world.specs.declared.asking.Stop.{Stop}
use Rattle.cfg_world.specs.Fits.{Pair}
use Rattle.cfg_world.specs.declared.script.DeviceLists.{DeviceLists}
use Rattle.cfg_world.specs.Script.{Place, Given}
use Rattle.cfg_world.specs.Agreeing.{AnswerAlike}
use Rattle.cfg_world.proofs.Agreeing.{given_alike}
use Rattle.cfg_kept.specs.Kinds.{Value, States}
use Rattle.cfg_kept.specs.KeptInquiry.{Runs, Begins, Reads, kept_after}
use Rattle.cfg_kept.specs.Holds.{Holdings, HoldsFollows}
use Rattle.cfg_kept.proofs.Told.{told, told_back}
use Rattle.cfg_kept.proofs.Agreeing.{one_run}
use Rattle.cfg_exchange.proofs.OnePlace.{one_place}
use Rattle.cfg_imds.proofs.OneEndpoint.{one_client}
use Rattle.cfg_imds.specs.Setups.{configured, client_of}
use Rattle.cfg_providers.specs.CustomSources.{Answer}
use Rattle.cfg_chain.specs.Settings.{ChainSetting, Services, AreServices, Setting, given_or, setting}
use Rattle.cfg_chain.specs.declared.settled.Settled.{Settled}
use Rattle.cfg_chain.specs.Members.{default_chain}
use Rattle.cfg_chain.specs.Provides.{IsCall, FollowsDefault}
use Rattle.cfg_chain.specs.Settled.{IsSettled}
use Rattle.cfg_chain.proofs.MemberCauses.{resolved, reads_resolved}
use Rattle.cfg_chain.proofs.Validity.{valid_loaded}

pub some_is : {A : Type 0} (x y : A) → ◌≡◌ {A = Option A} (Some x) (Some y) → x ≡ y
some_is x y h = cc

-- what a call is over is a chain over its services, where each part is
pub set_alike : (over : ChainSetting) (services : Services) (s : Setting) → s.configuration ≡ over.configuration → s.sources ≡ over.sources →
    s.container ≡ services.container → s.client ≡ services.client → s.named_client ≡ services.named_client → s ≡ setting over services
set_alike over services s configuration sources container client named =
    λ i. record { configuration = configuration i; sources = sources i; container = container i; client = client i; named_client = named i }

-- the services that are settled, with the client that the chain was given, if it was given one
abbrev pub services_of : ChainSetting → Settled → Services
services_of over settled = record {
  container = settled.container;
  client = given_or over.client (client_of settled.imds_endpoint);
  named_client = client_of settled.imds_endpoint;
}

-- they are those that the configuration names
pub are_services : (over : ChainSetting) (settled : Settled) → IsSettled over.configuration settled → AreServices over (services_of over settled)
are_services over settled h = record { container = h.container; named_client = record { endpoint = h.imds_endpoint; service = refl }; client = refl }

-- a call that follows the members over such services follows the chain
pub follows_chain : {A : Type 0} (a : Ghosts A) (over : ChainSetting) (services : Services) (s : Setting) (old new : A) (before later : Holdings) (out : Result Answer Stop) →
    AreServices over services → s ≡ setting over services → HoldsFollows a (default_chain s) old before new later out → FollowsDefault a over old before new later out
follows_chain a over services s old new before later out names same h = inr (services, names, subst (λ t. HoldsFollows a (default_chain t) old before new later out) same h)

-- a run of the default chain from kept states that are told is a call
pub is_call : (over : ChainSetting) (services : Services) (old new : States) (found : List Value) (part : List Pair) (out : Answer) → AreServices over services →
    Runs (default_chain (setting over services)) (Some old) found part out (Some new) → IsCall over old new found part out
is_call over services old new found part out names runs =
    let s = setting over services in
    let t = told (default_chain s) old (Some new) found part out runs in
    let resolves = resolved s found part out (subst (λ f. Reads (default_chain s) f part out) (sym t.0) t.2) in
    record {
      services = services;
      names = names;
      finds = t.0;
      resolves = resolves;
      keeps = some_is new (kept_after (default_chain s) old part) t.1;
      valid = valid_loaded s found part out names.container resolves;
    }

-- the same where the list of the values that were found was emptied before
pub is_call_from : (over : ChainSetting) (services : Services) (old cleared new : States) (earlier found more : List Value) (part : List Pair) (out : Answer) → AreServices over services →
    earlier ≡ [] → cleared ≡ old → more ≡ earlier ++ found → Runs (default_chain (setting over services)) (Some cleared) found part out (Some new) → IsCall over old new more part out
is_call_from over services old cleared new earlier found more part out names none same list runs =
    subst (λ k. IsCall over k new more part out) same
    (subst (λ f. IsCall over cleared new f part out) (sym (list ∙ ap (λ t. t ++ found) none)) (is_call over services cleared new found part out names runs))

pub begins_from : (over : ChainSetting) (services : Services) (old cleared new : States) (earlier found more : List Value) (part : List Pair) →
    earlier ≡ [] → cleared ≡ old → more ≡ earlier ++ found → Begins (default_chain (setting over services)) (Some cleared) found part (Some new) → Begins (default_chain (setting over services)) (Some old) more part (Some new)
begins_from over services old cleared new earlier found more part none same list begins =
    subst (λ k. Begins (default_chain (setting over services)) (Some k) more part (Some new)) same
    (subst (λ f. Begins (default_chain (setting over services)) (Some cleared) f part (Some new)) (sym (list ∙ ap (λ t. t ++ found) none)) begins)

-- and a call is such a run
pub runs_call : (over : ChainSetting) (old new : States) (found : List Value) (part : List Pair) (out : Answer) (c : IsCall over old new found part out) →
    Runs (default_chain (setting over c.services)) (Some old) found part out (Some new)
runs_call over old new found part out c =
    let s = setting over c.services in
    told_back (default_chain s) old (Some new) found part out (c.finds, ap Some c.keeps, subst (λ f. Reads (default_chain s) f part out) c.finds (reads_resolved s found part out c.resolves))

same_services : (a b : Services) → a.container ≡ b.container → a.client ≡ b.client → a.named_client ≡ b.named_client → a ≡ b
same_services a b container client named = λ i. record { container = container i; client = client i; named_client = named i }

-- a configuration names one answer of services
pub one_answer : (over : ChainSetting) (a b : Services) → AreServices over a → AreServices over b → a ≡ b
one_answer over a b h g =
    let named = one_client (configured over.configuration) a.named_client b.named_client h.named_client g.named_client in
    same_services a b (one_place over.configuration.environment a.container b.container h.container g.container) (h.client ∙ ap (given_or over.client) named ∙ sym g.client) named

-- from one kept state, two calls whose answers agree as far as both ask the same are one
pub one_journal : (over : ChainSetting) (old new newer : States) (found more : List Value) (one other : List Pair) (x y : Answer) →
    IsCall over old new found one x → IsCall over old newer more other y → AnswerAlike one other → (one ≡ other) × (found ≡ more) × (x ≡ y) × (new ≡ newer)
one_journal over old new newer found more one other x y a b alike =
    let same = one_answer over b.services a.services b.names a.names in
    let r = one_run (default_chain (setting over a.services)) old found more one other x y (Some new) (Some newer) (runs_call over old new found one x a)
    (subst (λ p. Runs (default_chain (setting over p)) (Some old) more other y (Some newer)) same (runs_call over old newer more other y b)) alike in
    (r.0, r.1, r.2, some_is new newer r.3)

-- one script of devices, from one place and one kept state, makes one call
pub one_call : (over : ChainSetting) (lists : DeviceLists) (place : Place) (old new newer : States) (found more : List Value) (one other : List Pair) (x y : Answer) →
    IsCall over old new found one x → IsCall over old newer more other y → Given lists place one → Given lists place other → (one ≡ other) × (found ≡ more) × (x ≡ y) × (new ≡ newer)
one_call over lists place old new newer found more one other x y a b g h = one_journal over old new newer found more one other x y a b (given_alike lists place one other g h)
