-- Each call of the default chain over an endpoint gives what it serves.
use Rattle.std.proofs.Common.{◌≡◌, ◌≢◌, ◌≤◌, ◌<◌, ◌+◌, ◌*◌, ℕ, zero, suc, List, [], ◌∷◌, ◌++◌, true, false, Some, None, refl, sym, ap, ◌∙◌, subst, arith}
use Rattle.std.specs.Prelude.{All, slice_get, unwrap_or, option_map, option_and_then, length, drop, ◌-◌, codes}
use Rattle.std.specs.Option.{option_or}
use Rattle.std.specs.FinMap.{get}
use Rattle.std.specs.Str.{encode_utf8_all, all_scalars}
use Rattle.cfg_base.specs.Moment.{Moment}
use Rattle.cfg_world.specs.declared.devices.Devices.{Ghosts}
use Rattle.cfg_world.specs.declared.ask.Question.{Question}
use Rattle.cfg_world.specs.declared.ask.Question.TheVariants as question
use Rattle.cfg_world.specs.declared.ask.Answer.{Answer as Given}
use Rattle.cfg_world.specs.Asked.{Same, StandsOn}
use Rattle.cfg_world.specs.Epoch.{epoch}
use Rattle.cfg_world.specs.Faults.{full_count}
use Rattle.cfg_world.specs.Fits.{Pair}
use Rattle.cfg_world.specs.Held.{Held}
use Rattle.cfg_world.specs.Leaves.{moment_of}
use Rattle.cfg_world.specs.Script.{last_reading}
use Rattle.cfg_kept.specs.Kinds.{Value, States}
use Rattle.cfg_kept.specs.Chains.{chain}
use Rattle.cfg_kept.specs.KeptInquiry.{Runs}
use Rattle.cfg_imds.specs.declared.endpoint.Endpoint.TheVariants.{At}
use Rattle.cfg_imds.specs.Clients.{ClientRules}
use Rattle.cfg_imds.specs.Endpoints.{setting as setting_text, by_mode, mode_by, or_mode, key_in, IsEndpoint, IsEndpointBy}
use Rattle.cfg_imds.specs.Requests.{Service}
use Rattle.cfg_imds.specs.Regions.{is_disabled, is_true_text}
use Rattle.cfg_imds.specs.Paths.{is_path}
use Rattle.cfg_imds_credentials.specs.Metadata.{role_path}
use Rattle.cfg_profile.specs.Configuration.{Configuration}
use Rattle.cfg_profile.specs.Sections.{property}
use Rattle.cfg_profile.specs.Selected.{selected_name}
use Rattle.cfg_profile.specs.declared.sections.ProfileSource.{ProfileSource}
use Rattle.cfg_profile.specs.declared.sections.ProfileSource.TheVariants.{Sections, Refused}
use Rattle.cfg_providers.specs.CustomSources.{Answer}
use Rattle.cfg_chain.specs.declared.member.Member.TheVariants.{Ec2InstanceMetadata}
use Rattle.cfg_chain.specs.Members.{member_tree, credentials_chain}
use Rattle.cfg_chain.specs.Provides.{IsCall, Provides}
use Rattle.cfg_chain.specs.Settings.{ChainSetting, Setting, setting, chain_metadata, given_or}
use Rattle.cfg_chain.proofs.Calls.{runs_call, some_is}
use Rattle.cfg_endpoint.specs.Endpoints.{EndpointState}
use Rattle.cfg_endpoint.specs.Made.{IsWritable, IsMade, is_asked_for, service_address}
use Rattle.cfg_endpoint.specs.Serves.{Serves, after_questions, requests_in}
use Rattle.cfg_endpoint.specs.Devices.{DevicesState, QuestionKept, place_after, reading_at, Keeps, places_after, start, Allows, Stands}
use Rattle.cfg_endpoint.specs.Calls.{HasNoSections, HasNothing, IsEarly, IsReadyFor, HasGone, endpoint_after, HasTokens, Fresh, metadata_expiry, metadata_keys, GivesMetadata, GoesOn, Called, requests_of, AreCalls, EachGives}
use Rattle.cfg_endpoint.proofs.Addresses.{service_at}
use Rattle.cfg_endpoint.proofs.Gets.{timely_split, IsTimely, AreTimely, IsUsual, Later, later_questions}
use Rattle.cfg_endpoint.proofs.Makings.{asked_is}
use Rattle.cfg_endpoint.proofs.Members.{unread, no_container, last_member, first_gives}
use Rattle.cfg_endpoint.proofs.Requests.{given_by_requests, behind_is}
use Rattle.cfg_endpoint.proofs.Roles.{metadata_served}
use Rattle.cfg_endpoint.proofs.Stretches.{serves_split, keeps_split, after_both}

-- ---- the clock is early, and the jitter is 0

early_item : (clock : List Moment) (place : ℕ) (other : Moment) → All IsEarly clock → IsEarly other → IsEarly (unwrap_or (slice_get clock place) other)
early_item [] zero other all h = h
early_item [] (suc place) other all h = h
early_item (m ∷ clock) zero other all h = all 0 m (omega arith)
early_item (m ∷ clock) (suc place) other all h = early_item clock place other (λ k d lt. all (suc k) d (omega (arith, lt))) h

early_epoch : IsEarly epoch
early_epoch = omega arith

pub early_reading : (clock : List Moment) (place : ℕ) → All IsEarly clock → IsEarly (reading_at clock place)
early_reading clock place all = early_item clock place (last_reading clock) all (early_item clock (length clock - 1) epoch all early_epoch)

timely_answer : (clock : List Moment) (place : ℕ) (q : Question) (a : Given) → All IsEarly clock → QuestionKept clock place q a → IsTimely q a
timely_answer clock place question.Now a all h = subst (λ x. IsEarly (moment_of x)) (sym h) (early_reading clock place all)
timely_answer clock place question.Jitter a all h = h
timely_answer clock place (question.Read path) a all h = tt
timely_answer clock place (question.Write path bytes) a all h = tt
timely_answer clock place (question.Run command) a all h = tt
timely_answer clock place (question.LookUp host) a all h = tt
timely_answer clock place (question.Send r) a all h = tt

pub are_timely : (clock : List Moment) (place : ℕ) (part : List Pair) → All IsEarly clock → Keeps clock place part → AreTimely part
are_timely clock place [] all h = tt
are_timely clock place (x ∷ part) all h = (timely_answer clock place x.0 x.1 all h.0, are_timely clock (place_after clock place x.0) part all h.1)

-- ---- where the chain asks

no_key : (profiles : ProfileSource) (name key : List ℕ) → HasNoSections profiles → key_in profiles name key ≡ None
no_key (Sections sets) name key h = ap (λ o. option_and_then (λ section. property section key) o) (h name)
no_key (Refused reason) name key h = absurd h

unset : (conf : Configuration) → ((name : List ℕ) → get conf.environment name ≡ None) → HasNoSections conf.profiles → (variable key : List ℕ) → setting_text conf variable key ≡ None
unfolding setting_text
unset conf none sections variable key =
    ap (λ o. option_or (option_map encode_utf8_all o) (key_in conf.profiles (selected_name conf) key)) (unread conf.environment variable (none variable))
    ∙ no_key conf.profiles (selected_name conf) key sections

service_endpoint : (conf : Configuration) (client : ClientRules) → ((name : List ℕ) → get conf.environment name ≡ None) → HasNoSections conf.profiles → IsEndpoint conf None None client.endpoint → client.endpoint ≡ At service_address
unfolding by_mode mode_by
service_endpoint conf client none sections h =
    let one = subst (λ o. IsEndpointBy (or_mode o conf None) client.endpoint) (unset conf none sections (codes "AWS_EC2_METADATA_SERVICE_ENDPOINT") (codes "ec2_metadata_service_endpoint")) h in
    service_at client.endpoint (subst (λ o. IsEndpointBy (mode_by o) client.endpoint) (unset conf none sections (codes "AWS_EC2_METADATA_SERVICE_ENDPOINT_MODE") (codes "ec2_metadata_service_endpoint_mode")) one)

enabled : (conf : Configuration) → ((name : List ℕ) → get conf.environment name ≡ None) → is_disabled conf.environment ≡ false
unfolding is_disabled
enabled conf none = ap (λ o. is_true_text (option_map encode_utf8_all o)) (unread conf.environment (codes "AWS_EC2_METADATA_DISABLED") (none (codes "AWS_EC2_METADATA_DISABLED")))

-- ---- one call

not_empty : (role : List ℕ) → is_asked_for role ≡ true → role ≢ []
not_empty [] h = absurd cc
not_empty (x ∷ role) h = λ e. absurd cc

module _ (over : ChainSetting) (nothing : HasNothing over) (old new : States) (found : List Value) (part : List Pair) (out : Answer) (c : IsCall over old new found part out) where
  abbrev s : Setting
  s = setting over c.services

  client_is : s.client ≡ c.services.named_client
  client_is = c.names.client ∙ ap (λ o. given_or o c.services.named_client) nothing.client

  at_service : s.client.endpoint ≡ At service_address
  at_service = ap (λ (k : ClientRules). k.endpoint) client_is ∙ service_endpoint over.configuration c.services.named_client nothing.environment nothing.sections c.names.named_client.endpoint

  is_usual : IsUsual s.client.service
  is_usual = ap (λ (k : ClientRules). k.service.settings.ttl_seconds) client_is ∙ ap (λ (v : Service). v.settings.ttl_seconds) c.names.named_client.service

  pub call_served : (e : EndpointState) → IsMade e → HasTokens e → Serves e part → AreTimely part → Fresh e old →
      GivesMetadata e.served part out × Fresh (after_questions e part) new × ((after_questions e part).given ≤ e.given + 2)
  unfolding member_tree
  call_served e made few serves timely fresh =
      let named = not_empty e.role made.role in
      let fine : is_path (role_path e.role) ≡ true = sym (asked_is e.role named) ∙ made.role in
      let only = last_member s nothing.environment nothing.sections (no_container over.configuration.environment nothing.environment c.services.container c.names.container) in
      let runs : Runs (chain (credentials_chain s) (Ec2InstanceMetadata ∷ []) only.0) (Some old) found part out (Some new) = subst (λ t. Runs t (Some old) found part out (Some new)) only.1 (runs_call over old new found part out c) in
      let room : e.given + 1 < full_count = omega (arith, few) in
      let last = first_gives s Ec2InstanceMetadata [] only.0 old found part out (Some new) runs (λ f p o k run rest parts.
      let g = metadata_served s.client is_usual service_address at_service e named made.is_text made.served fine (chain_metadata s) old k f p o (enabled over.configuration nothing.environment) refl refl refl run made.forgotten room
      (serves_split e p rest (subst (Serves e) parts serves)).0 (timely_split p rest (subst AreTimely parts timely)).0 fresh in
      (metadata_keys e.served (metadata_expiry e.served.expires g.now), g.is)) in
      let m = metadata_served s.client is_usual service_address at_service e named made.is_text made.served fine (chain_metadata s) old (Some new) last.0 part out (enabled over.configuration nothing.environment) refl refl refl last.1 made.forgotten room serves timely fresh in
      let same : new ≡ m.kept = some_is new m.kept m.leaves in (
        record { now = m.now; reads = m.reads; gives = m.is },
        subst (λ k. Fresh (after_questions e part) k) (sym same) m.fresh,
        m.few,
      )

-- ---- one call over devices

pub made_later : (e f : EndpointState) → Later e f → IsMade e → IsMade f
made_later e f l m = record {
  role = ap is_asked_for l.role ∙ m.role;
  is_text = ap all_scalars l.role ∙ m.is_text;
  served = subst IsWritable (sym l.served) m.served;
  forgotten = omega (arith, l.since, l.given, m.forgotten);
}

pub goes_on : (over : ChainSetting) (old new : States) (found : List Value) (d : DevicesState) (journal part : List Pair) (before later : Held DevicesState) (out : Answer) → HasNothing over → IsReadyFor d → HasGone d before.devices journal → HasTokens (endpoint_after d journal) → Fresh (endpoint_after d journal) old →
    later.journal ≡ before.journal ++ part → Same (Allows before.devices) (Allows later.devices) → StandsOn (Stands before.devices) (Stands later.devices) part → IsCall over old new found part out → GoesOn d journal new before later out
goes_on over old new found d journal part before later out nothing ready gone few fresh grows same stands call =
    let e : EndpointState = endpoint_after d journal in
    let l : Later (start d) e = later_questions (start d) journal in
    let st : Stands later.devices (journal ++ part) = stands journal gone.stands in
    let allowed : Allows d (journal ++ part) = gone.same.from (journal ++ part) (same.from (journal ++ part) st.allowed) in
    let serves = (serves_split (start d) journal part allowed.0).1 in
    let keeps = (keeps_split d.clock d.first_place journal part allowed.1).1 in
    let timely = are_timely d.clock (places_after d.clock d.first_place journal) part ready.early keeps in
    let r = call_served over nothing old new found part out call e (made_later (start d) e l ready.made) few serves timely fresh in
    let whole : endpoint_after d (journal ++ part) ≡ after_questions e part = after_both (start d) journal part in
    record {
      part = part;
      grows = grows;
      served = record {
        gives = subst (λ s. GivesMetadata s part out) l.served r.0;
        fresh = subst (λ f. Fresh f new) (sym whole) r.1;
        few = subst (λ f. f.given ≤ e.given + 2) (sym whole) r.2;
        asked = subst (λ f. f.given ≤ e.given + requests_in part) (sym whole) (given_by_requests e part);
      };
      gone = record { same = record { to = λ j h. same.to j (gone.same.to j h); from = λ j h. gone.same.from j (same.from j h) }; stands = st };
    }

-- ---- calls one after another

-- So many tokens were given before these calls, and the bound that is meant leaves two for the first of them; behind it
-- the bound holds of the others.
pub record Leaves (Enough : ℕ → Held DevicesState → List Called → Type 0) : Type 0 where
  pub two : (n : ℕ) (before : Held DevicesState) (call : Called) (calls : List Called) → Enough n before (call ∷ calls) → n + 2 ≤ full_count
  pub next : (n m : ℕ) (before : Held DevicesState) (call : Called) (calls : List Called) (part : List Pair) → call.world.journal ≡ before.journal ++ part →
      m ≤ n + 2 → m ≤ n + requests_in part → Enough n before (call ∷ calls) → Enough m call.world calls

pub calls_go_on : (g : Ghosts DevicesState) (over : ChainSetting) (d : DevicesState) (Enough : ℕ → Held DevicesState → List Called → Type 0) → Leaves Enough →
    ((old new : States) (found : List Value) (journal : List Pair) (before later : Held DevicesState) (out : Answer) → HasGone d before.devices journal → HasTokens (endpoint_after d journal) → Fresh (endpoint_after d journal) old →
    Provides g over old new found before later out → GoesOn d journal new before later out) →
    (calls : List Called) (old : States) (journal : List Pair) (before : Held DevicesState) → HasGone d before.devices journal → Enough (endpoint_after d journal).given before calls → Fresh (endpoint_after d journal) old →
    AreCalls g over old before calls → EachGives d.endpoint.served before calls
calls_go_on g over d Enough leaves one [] old journal before gone enough fresh made = tt
calls_go_on g over d Enough leaves one (call ∷ calls) old journal before gone enough fresh made =
    let n : ℕ = (endpoint_after d journal).given in
    let r = one old call.kept call.found journal before call.world call.out gone (leaves.two n before call calls enough) fresh made.0 in
    let m : ℕ = (endpoint_after d (journal ++ r.part)).given in (
      (r.part, r.grows, r.served.gives),
      calls_go_on g over d Enough leaves one calls call.kept (journal ++ r.part) call.world r.gone
          (leaves.next n m before call calls r.part r.grows r.served.few r.served.asked enough) r.served.fresh made.1,
    )

-- fewer than 4,294,967,296 requests
abbrev pub FewRequests : ℕ → Held DevicesState → List Called → Type 0
FewRequests n before calls = n + requests_of before calls < 4294967296

pub requests_leave : Leaves FewRequests
requests_leave = record {
  two = λ n before call calls few. omega (arith, few);
  next = λ n m before call calls part grows two one few.
      let same : requests_in (drop (length before.journal) call.world.journal) ≡ requests_in part = ap requests_in (behind_is before.journal part call.world.journal grows) in
      omega (arith, few, one, same);
}

-- so many tokens that two are left for each call
abbrev pub TwoForEach : ℕ → Held DevicesState → List Called → Type 0
TwoForEach n before calls = n + 2 * length calls ≤ full_count

pub calls_leave : Leaves TwoForEach
calls_leave = record {
  two = λ n before call calls few. omega (arith, few);
  next = λ n m before call calls part grows two one few. omega (arith, few, two);
}

-- fewer than 4,294,967,296 calls
pub few_calls : (n : ℕ) (before : Held DevicesState) (calls : List Called) → n < 4294967296 → length calls < 4294967296 → TwoForEach n before calls
few_calls n before calls few short = omega (arith, few, short)
