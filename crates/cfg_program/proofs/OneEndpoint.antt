-- Calls over one endpoint have one list of lines.
use Rattle.std.proofs.Common.{◌≡◌, ℕ, zero, suc, List, [], ◌∷◌, ◌++◌, length, take, drop, Bool, refl, sym, ap, ◌∙◌, subst, arith}
use Rattle.std.proofs.lemmas.List.{take-append-drop}
use Rattle.cfg_base.specs.Moment.{Moment}
use Rattle.cfg_world.specs.Agreeing.{AnswerAlike}
use Rattle.cfg_world.specs.Fits.{Pair}
use Rattle.cfg_kept.specs.Kinds.{States, no_states}
use Rattle.cfg_chain.specs.Settings.{ChainSetting}
use Rattle.cfg_endpoint.specs.Devices.{Keeps, places_after}
use Rattle.cfg_endpoint.specs.Endpoints.{EndpointState, forgotten}
use Rattle.cfg_endpoint.specs.Serves.{Serves, after_questions}
use Rattle.cfg_endpoint.proofs.Alike.{served_alike}
use Rattle.cfg_endpoint.proofs.Stretches.{serves_split, keeps_split}
use Rattle.cfg_script.specs.declared.endpoint.EndpointScript.{EndpointScript}
use Rattle.cfg_program.specs.declared.causes.Below.TheVariants.{Nothing}
use Rattle.cfg_program.specs.declared.lines.LineForm.TheVariants.{Call}
use Rattle.cfg_program.specs.Why.{told_as}
use Rattle.cfg_program.specs.Calls.{Made, IsMade, InTurn, asked_by, lines_of, last_is_ok}
use Rattle.cfg_program.specs.Endpoints.{AnswersCalls, AnswersOverEndpoint, EndpointAnswers, setting_for, endpoint_at_first, calls_before}
use Rattle.cfg_program.proofs.Calling.{asked_by_both}
use Rattle.cfg_program.proofs.OneList.{same_calls}

-- ---- the first of some calls, and the others

as_many_first : (n : ℕ) (one other : List Made) → length one ≡ length other → length (take n one) ≡ length (take n other)
as_many_first zero [] [] e = refl
as_many_first zero (c ∷ one) (d ∷ other) e = refl
as_many_first (suc n) [] [] e = refl
as_many_first n [] (d ∷ other) e = absurd (omega (arith, e))
as_many_first n (c ∷ one) [] e = absurd (omega (arith, e))
as_many_first (suc n) (c ∷ one) (d ∷ other) e = ap (λ k. suc k) (as_many_first n one other (omega (arith, e)))

as_many_others : (n : ℕ) (one other : List Made) → length one ≡ length other → length (drop n one) ≡ length (drop n other)
as_many_others zero [] [] e = refl
as_many_others zero (c ∷ one) (d ∷ other) e = e
as_many_others (suc n) [] [] e = refl
as_many_others n [] (d ∷ other) e = absurd (omega (arith, e))
as_many_others n (c ∷ one) [] e = absurd (omega (arith, e))
as_many_others (suc n) (c ∷ one) (d ∷ other) e = as_many_others n one other (omega (arith, e))

module _ (over : ChainSetting) where
  in_turn_split : (before after : States) (calls more : List Made) → InTurn (IsMade over) before (calls ++ more) after → (between : States) × InTurn (IsMade over) before calls between × InTurn (IsMade over) between more after
  in_turn_split before after [] more made = (before, refl, made)
  in_turn_split before after (c ∷ calls) more made = let rest = in_turn_split c.kept after calls more made.1 in (rest.0, (made.0, rest.1), rest.2)

  -- calls leave one thing kept
  one_end : (before after later : States) (calls : List Made) → InTurn (IsMade over) before calls after → InTurn (IsMade over) before calls later → after ≡ later
  one_end before after later [] a b = a ∙ sym b
  one_end before after later (c ∷ calls) a b = one_end c.kept after later calls a.1 b.1

  module _ (clock : List Moment) where
    -- the endpoint, and the place of the clock
    abbrev Spot : Type 0
    Spot = EndpointState × ℕ

    abbrev Gives : Spot → List Pair → Type 0
    Gives s asked = Serves s.0 asked × Keeps clock s.1 asked

    abbrev left : Spot → List Pair → Spot
    left s asked = (after_questions s.0 asked, places_after clock s.1 asked)

    behind : (s : Spot) (part more : List Pair) → Gives s (part ++ more) → Gives s part × Gives (left s part) more
    behind s part more g =
        let serves = serves_split s.0 part more g.0 in
        let keeps = keeps_split clock s.1 part more g.1 in
        ((serves.0, keeps.0), (serves.1, keeps.1))

    alike : (s : Spot) (one other : List Pair) → Gives s one → Gives s other → AnswerAlike one other
    alike s one other g h = served_alike s.0 clock s.1 one other g.0 g.1 h.0 h.1

    same : (s : Spot) (before after later : States) (one other : List Made) → length one ≡ length other → InTurn (IsMade over) before one after → InTurn (IsMade over) before other later
        → Gives s (asked_by one) → Gives s (asked_by other) → one ≡ other
    same = same_calls over Gives left behind alike

    module _ (n : ℕ) where
      keeps_parts : (calls : List Made) → Keeps clock 0 (asked_by calls) →
          Keeps clock 0 (asked_by (take n calls)) × Keeps clock (places_after clock 0 (asked_by (take n calls))) (asked_by (drop n calls))
      keeps_parts calls k =
          keeps_split clock 0 (asked_by (take n calls)) (asked_by (drop n calls))
          (subst (Keeps clock 0) (ap (λ (l : List Made). asked_by l) (sym (take-append-drop n calls)) ∙ asked_by_both (take n calls) (drop n calls)) k)

      same_answered : (e : EndpointState) (after later : States) (one other : List Made) → length one ≡ length other → InTurn (IsMade over) no_states one after → InTurn (IsMade over) no_states other later →
          AnswersCalls e clock n one → AnswersCalls e clock n other → one ≡ other
      same_answered e after later one other many made also a b =
          let p = in_turn_split no_states after (take n one) (drop n one) (subst (λ l. InTurn (IsMade over) no_states l after) (sym (take-append-drop n one)) made) in
          let q = in_turn_split no_states later (take n other) (drop n other) (subst (λ l. InTurn (IsMade over) no_states l later) (sym (take-append-drop n other)) also) in
          let keeps = keeps_parts one a.keeps in
          let keep = keeps_parts other b.keeps in
          let first : take n one ≡ take n other = same (e, 0) no_states p.0 q.0 (take n one) (take n other) (as_many_first n one other many) p.1 q.1 (a.first, keeps.0) (b.first, keep.0) in
          let between : p.0 ≡ q.0 = one_end no_states p.0 q.0 (take n one) p.1 (subst (λ l. InTurn (IsMade over) no_states l q.0) (sym first) q.1) in
          let others : drop n one ≡ drop n other =
          same (forgotten (after_questions e (asked_by (take n one))), places_after clock 0 (asked_by (take n one))) p.0 after later (drop n one) (drop n other) (as_many_others n one other many)
          p.2 (subst (λ k. InTurn (IsMade over) k (drop n other) later) (sym between) q.2) (a.others, keeps.1) (
            subst (λ (l : List Made). Serves (forgotten (after_questions e (asked_by l))) (asked_by (drop n other))) (sym first) b.others,
            subst (λ (l : List Made). Keeps clock (places_after clock 0 (asked_by l)) (asked_by (drop n other))) (sym first) keep.1,
          ) in
          sym (take-append-drop n one) ∙ ap (λ l. l ++ drop n one) first ∙ ap (λ l. take n other ++ l) others ∙ take-append-drop n other

one_over : (over : ChainSetting) (e : EndpointState) (clock : List Moment) (count before : ℕ) (a b : Bool) (lines other : List ℕ) →
    AnswersOverEndpoint over e clock count before a lines → AnswersOverEndpoint over e clock count before b other → (a ≡ b) × (lines ≡ other)
one_over over e clock count before a b lines other x y =
    let same = same_answered over clock before e x.kept y.kept x.calls y.calls (x.counted ∙ sym y.counted) x.made y.made x.answers y.answers in
    (x.credentials ∙ ap (λ (c : List Made). last_is_ok c) same ∙ sym y.credentials, x.shows ∙ ap (λ (c : List Made). lines_of (told_as over (Call Nothing)) c) same ∙ sym y.shows)

pub one_endpoint : (s : EndpointScript) (a b : Bool) (lines other : List ℕ) → EndpointAnswers s a lines → EndpointAnswers s b other → (a ≡ b) × (lines ≡ other)
one_endpoint s a b lines other x y = one_over (setting_for s.mode) (endpoint_at_first s) s.clock s.calls (calls_before s) a b lines other x y
