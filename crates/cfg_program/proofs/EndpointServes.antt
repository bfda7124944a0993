-- Where no token is forgotten, each call over an endpoint gives what it serves.
use Rattle.std.proofs.Common.{◌≡◌, ◌≤◌, ◌+◌, ◌*◌, ℕ, List, [], ◌∷◌, ◌++◌, length, cond, Bool, true, false, Option, Some, None, Ok, refl, sym, ap, ◌∙◌, subst, arith}
use Rattle.std.specs.Prelude.{All, Result, Err, is_ok, codes, nat_le, ◌&&◌, IsTrue, if◌then◌else◌}
use Rattle.std.specs.FinMap.{get, empty, get-empty, get-insert}
use Rattle.std.specs.Ordering.{nat_cmp}
use Rattle.std.specs.Cmp.Lexicographic.{slice_cmp, nat_list_cmp_total}
use Rattle.std.specs.Str.{bytes_eq}
use Rattle.std.specs.Result.{result_ok}
use Rattle.std.proofs.lemmas.Option.{none-some}
use borrow.Author.Tests.{leb-true}
use Rattle.std.proofs.lemmas.Map.Text.{is_eq-slice_cmp}
use Rattle.cfg_base.specs.Moment.{Moment}
use Rattle.cfg_types.specs.declared.environment.EnvText.{EnvText}
use Rattle.cfg_types.specs.declared.environment.EnvText.TheVariants.{Text}
use Rattle.cfg_world.specs.Asked.{Same, StandsOn}
use Rattle.cfg_world.specs.Faults.{full_count}
use Rattle.cfg_world.specs.Fits.{Pair}
use Rattle.cfg_world.specs.Tallies.{no_faults}
use Rattle.cfg_kept.specs.Kinds.{States, no_states}
use Rattle.cfg_chain.specs.Settings.{ChainSetting}
use Rattle.cfg_endpoint.specs.Calls.{HasNothing, HasContainer, IsEarly, HasTokens, Fresh, GivesMetadata, GivesContainer, container_address}
use Rattle.cfg_endpoint.specs.Devices.{DevicesState, Keeps, places_after, with_given, start, Allows, Stands}
use Rattle.cfg_endpoint.specs.Endpoints.{EndpointState}
use Rattle.cfg_endpoint.specs.Made.{IsMade}
use Rattle.cfg_endpoint.specs.Serves.{Serves, after_question, after_questions}
use Rattle.cfg_endpoint.proofs.ContainerCalls.{container_goes_on}
use Rattle.cfg_endpoint.proofs.Gets.{later_questions}
use Rattle.cfg_endpoint.proofs.GoingOn.{are_timely, call_served, made_later}
use Rattle.cfg_endpoint.proofs.Moving.{question_start}
use Rattle.cfg_endpoint.proofs.Stretches.{serves_split, serves_join, after_both, keeps_split, keeps_join, places_both}
use Rattle.cfg_endpoint.specs.declared.served.Served.{Served}
use Rattle.cfg_script.specs.declared.endpoint.EndpointMode.{EndpointMode}
use Rattle.cfg_script.specs.declared.endpoint.EndpointMode.TheVariants.{Container, Metadata}
use Rattle.cfg_script.specs.declared.endpoint.EndpointScript.{EndpointScript}
use Rattle.cfg_script.specs.Endpoints.{endpoint, endpoint_of}
use Rattle.cfg_script.specs.Reading.{Reason, bytes_said}
use Rattle.cfg_script.specs.Scalars.{is_call_count}
use Rattle.cfg_script.proofs.EndpointFits.{endpoint_fits}
use Rattle.cfg_program.specs.Calls.{Made, IsMade as IsCalled, InTurn, asked_by, last_is_ok}
use Rattle.cfg_program.specs.Endpoints.{is_made, if_made, made_endpoint_of, setting_for, served_of, endpoint_at_first, calls_before, EndpointAnswers, GivesServed, EachGives, ForgetsNothing, GiveServed}
use Rattle.cfg_program.proofs.EndpointCalls.{all_taken}

-- ---- what the chains are over

without_variables : HasNothing (setting_for (Metadata []))
without_variables = record { environment = λ name. get-empty (slice_cmp nat_cmp) name; sections = λ name. get-empty (slice_cmp nat_cmp) name; sources = refl; client = refl }

-- the one variable
abbrev variable : List ℕ
variable = codes "AWS_CONTAINER_CREDENTIALS_FULL_URI"

with_container : HasContainer (setting_for Container)
with_container = record {
  environment = λ name.
      get-insert nat_list_cmp_total empty variable (Text container_address) name
      ∙ ap (λ b. cond b (Some (Text container_address)) (get {X = EnvText} {R = slice_cmp nat_cmp} empty name)) (is_eq-slice_cmp name variable)
      ∙ ap (λ o. if bytes_eq name variable then Some (Text container_address) else o) (get-empty (slice_cmp nat_cmp) name);
  sections = λ name. get-empty (slice_cmp nat_cmp) name;
  sources = refl;
  client = refl;
}

-- ---- devices over an endpoint, at this place of the clock

-- questions change nothing of an endpoint but how many tokens were given
start_of : (e : EndpointState) (part : List Pair) (n : ℕ) → with_given (after_questions e part) n ≡ with_given e n
start_of e [] n = refl
start_of e (x ∷ part) n = start_of (after_question e x.0) part n ∙ question_start e n x.0

module _ (e : EndpointState) (clock : List Moment) (place : ℕ) where
  abbrev at_first : DevicesState
  at_first = record { endpoint = e; clock = clock; place = place; faults = no_faults; first_given = e.given; first_place = place }

  -- the same after these questions
  abbrev later : List Pair → DevicesState
  later part = record { endpoint = after_questions e part; clock = clock; place = places_after clock place part; faults = no_faults; first_given = e.given; first_place = place }

  module _ (part : List Pair) (serves : Serves e part) (keeps : Keeps clock place part) where
    starts_same : start (later part) ≡ e
    starts_same = start_of e part e.given

    same_lists : Same (Allows at_first) (Allows (later part))
    same_lists = record {
      to = λ entries h. (subst (λ x. Serves x entries) (sym starts_same) h.0, h.1);
      from = λ entries h. (subst (λ x. Serves x entries) starts_same h.0, h.1);
    }

    stands_behind : StandsOn (Stands at_first) (Stands (later part)) part
    stands_behind entries h = record {
      allowed = same_lists.to (entries ++ part) (
        serves_join e entries part h.allowed.0 (subst (λ x. Serves x part) (sym h.endpoint) serves),
        keeps_join clock place entries part h.allowed.1 (subst (λ p. Keeps clock p part) (sym h.place) keeps),
      );
      endpoint = ap (λ x. after_questions x (entries ++ part)) starts_same ∙ after_both e entries part ∙ ap (λ x. after_questions x part) h.endpoint;
      place = places_both clock place entries part ∙ ap (λ p. places_after clock p part) h.place;
    }

-- ---- calls one after another

module _ (over : ChainSetting) (s : Served) (clock : List Moment) where
  -- over the instance metadata service, with as many tokens left as the calls may get
  metadata_calls : HasNothing over → All IsEarly clock → (e : EndpointState) → e.served ≡ s → IsMade e → (place : ℕ) (old kept : States) (calls : List Made) → e.given + 2 * length calls ≤ full_count → Fresh e old →
      InTurn (IsCalled over) old calls kept → Serves e (asked_by calls) → Keeps clock place (asked_by calls) → EachGives (λ call. GivesMetadata s call.journal call.out) calls
  metadata_calls nothing early e same made place old kept [] few fresh turn serves keeps = tt
  metadata_calls nothing early e same made place old kept (c ∷ calls) few fresh turn serves keeps =
      let f : EndpointState = after_questions e c.journal in
      let both = serves_split e c.journal (asked_by calls) serves in
      let times = keeps_split clock place c.journal (asked_by calls) keeps in
      let room : HasTokens e = omega (arith, few) in
      let r = call_served over nothing old c.kept c.found c.journal c.out turn.0 e made room both.0 (are_timely clock place c.journal early times.0) fresh in
      let l = later_questions e c.journal in (
        subst (λ t. GivesMetadata t c.journal c.out) same r.0,
        metadata_calls nothing early f (l.served ∙ same) (made_later e f l made) (places_after clock place c.journal) c.kept kept calls (omega (arith, few, r.2)) r.1 turn.1 both.1 times.1,
      )

  -- over a container's endpoint, one call
  container_gives : HasContainer over → All IsEarly clock → (e : EndpointState) → IsMade e → (place : ℕ) (old : States) (c : Made) → IsCalled over old c → Serves e c.journal → Keeps clock place c.journal → GivesContainer e.served c.out
  container_gives has early e made place old c called serves keeps =
      (container_goes_on over old c.kept c.found (at_first e clock place) [] c.journal (record { devices = at_first e clock place; journal = [] }) (record { devices = later e clock place c.journal; journal = c.journal }) c.out has
      (record { made = made; early = early })
      (record { same = record { to = λ entries h. h; from = λ entries h. h }; stands = record { allowed = (tt, tt); endpoint = refl; place = refl } })
      refl (same_lists e clock place c.journal serves keeps) (stands_behind e clock place c.journal serves keeps) called).gives

  -- and all of them
  container_calls : HasContainer over → All IsEarly clock → (e : EndpointState) → e.served ≡ s → IsMade e → (place : ℕ) (old kept : States) (calls : List Made) → InTurn (IsCalled over) old calls kept → Serves e (asked_by calls) → Keeps clock place (asked_by calls) →
      EachGives (λ call. GivesContainer s call.out) calls
  container_calls has early e same made place old kept [] turn serves keeps = tt
  container_calls has early e same made place old kept (c ∷ calls) turn serves keeps =
      let f : EndpointState = after_questions e c.journal in
      let both = serves_split e c.journal (asked_by calls) serves in
      let times = keeps_split clock place c.journal (asked_by calls) keeps in
      let l = later_questions e c.journal in (
        subst (λ t. GivesContainer t c.out) same (container_gives has early e made place old c turn.0 both.0 times.0),
        container_calls has early f (l.served ∙ same) (made_later e f l made) (places_after clock place c.journal) c.kept kept calls turn.1 both.1 times.1,
      )

-- ---- what an object says

-- calls that all give credentials end with one that does
ends_ok : (Gives : Made → Type 0) → ((call : Made) → Gives call → is_ok call.out ≡ true) → (calls : List Made) → 1 ≤ length calls → EachGives Gives calls → last_is_ok calls ≡ true
ends_ok Gives ok [] h g = absurd (omega (arith, h))
ends_ok Gives ok (c ∷ []) h g = ok c g.0
ends_ok Gives ok (c ∷ d ∷ calls) h g = ends_ok Gives ok (d ∷ calls) (omega arith) g.1

gives_ok : (s : EndpointScript) (mode : EndpointMode) (call : Made) → GivesServed s mode call → is_ok call.out ≡ true
gives_ok s Container call g = ap is_ok g
gives_ok s (Metadata role) call g = ap is_ok g.gives

module _ (s : EndpointScript) (forgets : ForgetsNothing s) (some : 1 ≤ s.calls) (few : s.calls ≤ 100) (early : All IsEarly s.clock) (b : Bool) (lines : List ℕ) (a : EndpointAnswers s b lines) where
  serves_all : Serves (endpoint_at_first s) (asked_by a.calls)
  serves_all = subst (λ (l : List Made). Serves (endpoint_at_first s) (asked_by l)) (all_taken (calls_before s) a.calls (omega (arith, forgets, a.counted))) a.answers.first

  by_mode : (mode : EndpointMode) → s.mode ≡ mode → EachGives (GivesServed s mode) a.calls
  by_mode Container is =
      container_calls (setting_for Container) (served_of s) s.clock with_container early (endpoint_at_first s) refl a.endpoint 0 no_states a.kept a.calls
      (subst (λ m. InTurn (IsCalled (setting_for m)) no_states a.calls a.kept) is a.made) serves_all a.answers.keeps
  by_mode (Metadata role) is =
      metadata_calls (setting_for (Metadata role)) (served_of s) s.clock without_variables early (endpoint_at_first s) refl a.endpoint 0 no_states a.kept a.calls (omega (arith, few, a.counted)) tt
      (subst (λ m. InTurn (IsCalled (setting_for m)) no_states a.calls a.kept) is a.made) serves_all a.answers.keeps

  served_by_all : GiveServed s b lines
  served_by_all =
      let give = by_mode s.mode refl in
      record {
        calls = a.calls;
        counted = a.counted;
        give = give;
        credentials = a.credentials ∙ ends_ok (GivesServed s s.mode) (gives_ok s s.mode) a.calls (omega (arith, some, a.counted)) give;
        shows = a.shows;
      }

-- ---- what bytes say

was_made : (o : Option EndpointScript) (s : EndpointScript) → if_made o ≡ Some s → o ≡ Some s
was_made None s h = h
was_made (Some t) s h = by_test (is_made t) h
  where
    by_test : (b : Bool) → (if b then Some t else None) ≡ Some s → Some t ≡ Some s
    by_test true h = h
    by_test false h = absurd (none-some s h)

was_said : (r : Result EndpointScript Reason) (s : EndpointScript) → result_ok r ≡ Some s → Ok s ≡ r
was_said (Ok t) s h = cc
was_said (Err f) s h = absurd (none-some s h)

both_true : (a b : Bool) → (a && b) ≡ true → (a ≡ true) × (b ≡ true)
both_true true b h = (refl, h)
both_true false b h = absurd cc

counted : (n : ℕ) → IsTrue (is_call_count n) → (1 ≤ n) × (n ≤ 100)
counted n h = let both = both_true (nat_le 1 n) (nat_le n 100) h in (leb-true 1 n both.0, leb-true n 100 both.1)

pub gives_served : (bytes : List ℕ) (s : EndpointScript) (b : Bool) (lines : List ℕ) → made_endpoint_of bytes ≡ Some s → ForgetsNothing s → All IsEarly s.clock → EndpointAnswers s b lines → GiveServed s b lines
unfolding endpoint_of
gives_served bytes s b lines is forgets early a =
    let said : Ok s ≡ bytes_said endpoint bytes = was_said (bytes_said endpoint bytes) s (was_made (endpoint_of bytes) s is) in
    let count = counted s.calls (endpoint_fits bytes s said).1.0 in
    served_by_all s forgets count.0 count.1 early b lines a
