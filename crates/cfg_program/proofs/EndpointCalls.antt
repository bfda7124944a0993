-- The calls over an endpoint, before its tokens are forgotten and behind that.
use Rattle.std.proofs.Common.{◌≡◌, ◌≤◌, ◌<◌, ◌+◌, ◌-◌, ℕ, zero, suc, List, [], ◌∷◌, ◌++◌, length, take, drop, map, Bool, Option, Some, None, refl, sym, ap, ◌∙◌, subst, arith, length-append}
use Rattle.std.specs.Prelude.{Result, Ok, Err, IfOk, option_map, unwrap_or}
use Rattle.cfg_base.specs.Moment.{Moment}
use Rattle.cfg_world.specs.Asked.{Same, StandsOn}
use Rattle.cfg_types.specs.declared.environment.EnvText.{EnvText}
use Rattle.cfg_world.specs.Fits.{Pair}
use Rattle.cfg_world.specs.Tallies.{no_faults}
use Rattle.cfg_kept.specs.Kinds.{States, no_states}
use Rattle.cfg_providers.specs.CustomSources.{NamedAnswer}
use Rattle.cfg_chain.specs.Settings.{ChainSetting, with_sources}
use Rattle.cfg_endpoint.specs.Devices.{DevicesState, Keeps, start, Allows, Stands}
use Rattle.cfg_endpoint.specs.Endpoints.{EndpointState, forgotten}
use Rattle.cfg_endpoint.specs.Lending.{started_with}
use Rattle.cfg_endpoint.specs.Made.{IsMade, new_endpoint}
use Rattle.cfg_endpoint.specs.Serves.{Serves, after_questions}
use Rattle.cfg_endpoint.proofs.Starts.{same_readings, same_start}
use Rattle.cfg_endpoint.proofs.Stretches.{keeps_join}
use Rattle.cfg_script.specs.declared.endpoint.EndpointScript.{EndpointScript}
use Rattle.cfg_program.specs.declared.causes.Below.TheVariants.{Nothing}
use Rattle.cfg_program.specs.declared.lines.LineForm.{LineForm}
use Rattle.cfg_program.specs.declared.lines.LineForm.TheVariants.{Call}
use Rattle.cfg_program.specs.Why.{told_as}
use Rattle.cfg_program.specs.Calls.{Made, IsMade as IsCalled, InTurn, asked_by, lines_of, last_is_ok}
use Rattle.cfg_program.specs.declared.outcome.Answered.{Answered}
use Rattle.cfg_program.specs.Endpoints.{StartsNew, AnswersOverEndpoint, EndpointAnswers, endpoint_at_first, variables_for, setting_for, calls_before}
use Rattle.cfg_program.specs.Local.{local_configuration}
use Rattle.cfg_program.proofs.Calling.{last_of_both, in_turn_both, asked_by_both, lines_of_both}

-- ---- the first of some calls, and the others

pub all_taken : (n : ℕ) (calls : List Made) → length calls ≤ n → take n calls ≡ calls
all_taken zero [] h = refl
all_taken (suc n) [] h = refl
all_taken zero (c ∷ calls) h = absurd (omega (arith, h))
all_taken (suc n) (c ∷ calls) h = ap (λ l. c ∷ l) (all_taken n calls (omega (arith, h)))

none_dropped : (n : ℕ) (calls : List Made) → length calls ≤ n → drop n calls ≡ []
none_dropped zero [] h = refl
none_dropped (suc n) [] h = refl
none_dropped zero (c ∷ calls) h = absurd (omega (arith, h))
none_dropped (suc n) (c ∷ calls) h = none_dropped n calls (omega (arith, h))

first_taken : (calls more : List Made) → take (length calls) (calls ++ more) ≡ calls
first_taken [] [] = refl
first_taken [] (c ∷ more) = refl
first_taken (c ∷ calls) more = ap (λ l. c ∷ l) (first_taken calls more)

others_left : (calls more : List Made) → drop (length calls) (calls ++ more) ≡ more
others_left [] [] = refl
others_left [] (c ∷ more) = refl
others_left (c ∷ calls) more = others_left calls more

-- ---- devices

module _ (d : DevicesState) (new : StartsNew d) where
  begins : start d ≡ d.endpoint
  begins = ap (λ n. record d.endpoint { given = n }) new.given

  -- they stand for nothing yet
  stands_first : Stands d []
  stands_first = record { allowed = (tt, tt); endpoint = begins; place = new.first ∙ sym new.place }

  module _ (now : DevicesState) (asked : List Pair) (same : Same (Allows d) (Allows now)) (stands : StandsOn (Stands d) (Stands now) asked) where
    stood : Stands now asked
    stood = stands [] stands_first

    allowed : Allows d asked
    allowed = same.from asked stood.allowed

    pub serves_first : Serves d.endpoint asked
    serves_first = subst (λ e. Serves e asked) begins allowed.0

    pub keeps_first : Keeps d.clock 0 asked
    keeps_first = subst (λ p. Keeps d.clock p asked) new.first allowed.1

    -- later devices, whose endpoint forgot its tokens, and what they answer
    module _ (later end : DevicesState) (forgets : later ≡ started_with now (forgotten now.endpoint)) (made : IsMade later.endpoint) (more : List Pair)
        (same_later : Same (Allows later) (Allows end)) (stands_later : StandsOn (Stands later) (Stands end) more) where
      made_forgotten : IsMade (forgotten now.endpoint)
      made_forgotten = subst (λ (x : DevicesState). IsMade x.endpoint) forgets made

      now_is : now.endpoint ≡ after_questions d.endpoint asked
      now_is =
          sym stood.endpoint
          ∙ ap (λ e. after_questions e asked)
          (same_start d now same d.endpoint.role d.endpoint.served (begins ∙ new.new) (subst IsMade (sym begins) new.made) made_forgotten.is_text made_forgotten.served ∙ begins)

      later_starts : Stands (started_with now (forgotten now.endpoint)) []
      later_starts = record { allowed = (tt, tt); endpoint = refl; place = refl }

      allows_more : Allows (started_with now (forgotten now.endpoint)) more
      allows_more = subst (λ x. Allows x more) forgets (same_later.from more (stands_later [] (subst (λ x. Stands x []) (sym forgets) later_starts)).allowed)

      pub serves_others : Serves (forgotten (after_questions d.endpoint asked)) more
      serves_others = subst (λ e. Serves (forgotten e) more) now_is allows_more.0

      pub keeps_all : Keeps d.clock 0 (asked ++ more)
      keeps_all =
          let there : Keeps now.clock now.first_place (asked ++ more) =
          keeps_join now.clock now.first_place asked more stood.allowed.1 (subst (λ p. Keeps now.clock p more) (sym stood.place) allows_more.1) in
          subst (λ p. Keeps d.clock p (asked ++ more)) new.first (same_readings d now same (asked ++ more) there)

-- ---- the calls

abbrev form : LineForm
form = Call Nothing

module _ (over : ChainSetting) (d : DevicesState) (new : StartsNew d) (count before : ℕ) (old : States) (nothing : old ≡ no_states) (none : List ℕ) (empty : none ≡ []) where
  -- all calls are first ones
  pub all_first : count ≤ before → (now : DevicesState) (kept : States) (ok : Bool) (lines : List ℕ) (calls : List Made) → length calls ≡ count → InTurn (IsCalled over) old calls kept →
      Same (Allows d) (Allows now) → StandsOn (Stands d) (Stands now) (asked_by calls) → ok ≡ last_is_ok calls → lines ≡ none ++ lines_of (told_as over form) calls → AnswersOverEndpoint over d.endpoint d.clock count before ok lines
  all_first le now kept ok lines calls counted made same stands credentials shows =
      let short : length calls ≤ before = omega (arith, le, counted) in
      record {
        endpoint = new.made;
        calls = calls;
        kept = kept;
        counted = counted;
        made = subst (λ k. InTurn (IsCalled over) k calls kept) nothing made;
        answers = record {
          first = subst (λ (l : List Made). Serves d.endpoint (asked_by l)) (sym (all_taken before calls short)) (serves_first d new now (asked_by calls) same stands);
          others = subst (λ (l : List Made). Serves (forgotten (after_questions d.endpoint (asked_by (take before calls)))) (asked_by l)) (sym (none_dropped before calls short)) tt;
          keeps = keeps_first d new now (asked_by calls) same stands;
        };
        credentials = credentials;
        shows = shows ∙ ap (λ l. l ++ lines_of (told_as over form) calls) empty;
      }

  last_with_more : (calls more : List Made) → 0 < length more → last_is_ok (calls ++ more) ≡ last_is_ok more
  last_with_more calls [] h = absurd (omega (arith, h))
  last_with_more calls (c ∷ more) h = last_of_both calls c more

  -- there are first calls and others
  pub both_parts : before < count → (now later end : DevicesState) (between kept : States) (next : Bool) (lines whole : List ℕ) (rest : ℕ) (calls more : List Made) → length calls ≡ before → InTurn (IsCalled over) old calls between →
      Same (Allows d) (Allows now) → StandsOn (Stands d) (Stands now) (asked_by calls) → lines ≡ none ++ lines_of (told_as over form) calls →
      later ≡ started_with now (forgotten now.endpoint) → IsMade later.endpoint → rest + before ≡ count → length more ≡ rest → InTurn (IsCalled over) between more kept →
      Same (Allows later) (Allows end) → StandsOn (Stands later) (Stands end) (asked_by more) → next ≡ last_is_ok more → whole ≡ lines ++ lines_of (told_as over form) more → AnswersOverEndpoint over d.endpoint d.clock count before next whole
  both_parts lt now later end between kept next lines whole rest calls more counted made same stands shows forgets is_made parts also again same_later stands_later credentials tells =
      let asked : asked_by (calls ++ more) ≡ asked_by calls ++ asked_by more = asked_by_both calls more in
      let taken : take before (calls ++ more) ≡ calls = ap (λ n. take n (calls ++ more)) (sym counted) ∙ first_taken calls more in
      let left : drop before (calls ++ more) ≡ more = ap (λ n. drop n (calls ++ more)) (sym counted) ∙ others_left calls more in
      record {
        endpoint = new.made;
        calls = calls ++ more;
        kept = kept;
        counted = length-append calls more ∙ omega (arith, counted, also, parts);
        made = in_turn_both (IsCalled over) no_states between kept calls more (subst (λ k. InTurn (IsCalled over) k calls between) nothing made) again;
        answers = record {
          first = subst (λ (l : List Made). Serves d.endpoint (asked_by l)) (sym taken) (serves_first d new now (asked_by calls) same stands);
          others =
              subst (λ (l : List Made). Serves (forgotten (after_questions d.endpoint (asked_by l))) (asked_by (drop before (calls ++ more)))) (sym taken)
              (subst (λ (l : List Made). Serves (forgotten (after_questions d.endpoint (asked_by calls))) (asked_by l)) (sym left)
              (serves_others d new now (asked_by calls) same stands later end forgets is_made (asked_by more) same_later stands_later));
          keeps = subst (λ (l : List Pair). Keeps d.clock 0 l) (sym asked) (keeps_all d new now (asked_by calls) same stands later end forgets is_made (asked_by more) same_later stands_later);
        };
        credentials = credentials ∙ sym (last_with_more calls more (omega (arith, also, parts, lt)));
        shows =
            tells
            ∙ ap (λ l. l ++ lines_of (told_as over form) more) (shows ∙ ap (λ l. l ++ lines_of (told_as over form) calls) empty)
            ∙ sym (lines_of_both (told_as over form) calls more);
      }

-- ---- what an object says

abbrev new_devices : EndpointState → List Moment → DevicesState
new_devices e clock = record { endpoint = e; clock = clock; place = 0; faults = no_faults; first_given = e.given; first_place = 0 }

pub starts_new : (d : DevicesState) (e : EndpointState) (s : EndpointScript) → e ≡ endpoint_at_first s → IsMade e → d ≡ new_devices e s.clock → StartsNew d
starts_new d e s is made h = subst StartsNew (sym h) (record {
  new = subst (λ (x : EndpointState). x ≡ new_endpoint x.role x.served) (sym is) refl;
  made = made;
  given = refl;
  first = refl;
  place = refl;
})

same_number : (o : Option ℕ) (n : ℕ) → unwrap_or (option_map (λ k. k) o) n ≡ unwrap_or o n
same_number None n = refl
same_number (Some k) n = refl

-- the calls over the devices are those that the object says
pub if_answered : {X E : Type 0} (f : X → NamedAnswer) (s : EndpointScript) (d : DevicesState) (e : EndpointState) (over : ChainSetting) (variables : List (List ℕ × EnvText)) (items : List X) (number : ℕ) (r : Result Answered E) →
    e ≡ endpoint_at_first s → d ≡ new_devices e s.clock → over ≡ with_sources (local_configuration variables) (map f items) → variables ≡ variables_for s.mode → items ≡ [] →
    number ≡ unwrap_or (option_map (λ k. k) s.forget_after) s.calls →
    IfOk r (λ a. AnswersOverEndpoint over d.endpoint d.clock s.calls number a.is_ok a.lines.items) → IfOk r (λ a. EndpointAnswers s a.is_ok a.lines.items)
if_answered f s d e over variables items number (Ok a) first devices is named no_items first_calls h =
    let setting : over ≡ setting_for s.mode =
    is ∙ ap (λ v. with_sources (local_configuration v) (map f items)) named ∙ ap (λ l. with_sources (local_configuration (variables_for s.mode)) (map f l)) no_items in
    subst (λ o. AnswersOverEndpoint o (endpoint_at_first s) s.clock s.calls (calls_before s) a.is_ok a.lines.items) setting
    (subst (λ x. AnswersOverEndpoint over x s.clock s.calls (calls_before s) a.is_ok a.lines.items) (ap (λ (x : DevicesState). x.endpoint) devices ∙ first)
    (subst (λ c. AnswersOverEndpoint over d.endpoint c s.calls (calls_before s) a.is_ok a.lines.items) (ap (λ (x : DevicesState). x.clock) devices)
    (subst (λ n. AnswersOverEndpoint over d.endpoint d.clock s.calls n a.is_ok a.lines.items) (first_calls ∙ same_number s.forget_after s.calls) h)))
if_answered f s d e over variables items number (Err x) first devices is named no_items first_calls h = h
