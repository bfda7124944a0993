-- A run over the answers of a journal, and whose its entries are.
use Rattle.std.proofs.Common.{◌≡◌, ◌≤◌, ◌<◌, ℕ, zero, suc, ◌+◌, List, [], ◌∷◌, ◌++◌, map, take, length, Option, Some, None, IfSome, IsSome, option_map, option_to_list, refl, sym, ap, ◌∙◌, subst, append-nil, length-append, arith}
use Rattle.std.specs.Prelude.{slice_get}
use Rattle.std.proofs.lemmas.List.{take_more}
use Rattle.std.proofs.lemmas.Option.{slice_get-map, get_or_from_slice_get}
use Rattle.cfg_token.specs.declared.token_key.TokenKey.{TokenKey}
use Rattle.cfg_world.specs.declared.ask.Answer.{Answer as Answered}
use Rattle.cfg_world.specs.declared.ask.Question.{Question}
use Rattle.cfg_world.specs.Asked.{Same, StandsOn}
use Rattle.cfg_world.specs.Fits.{Pair, Fits, EachFits}
use Rattle.cfg_world.specs.Handed.{Handed, IsGiven, Allows, Stands}
use Rattle.cfg_world.proofs.Agreeing.{same_entry}
use Rattle.cfg_world.proofs.Counts.{Same-refl, Same-trans}
use Rattle.cfg_kept.specs.declared.kept.Kept.{Kept}
use Rattle.cfg_kept.specs.KeptStates.{states_of, kept_key}
use Rattle.cfg_kept.specs.KeyedStates.{key_of}
use Rattle.cfg_kept.specs.Kinds.{Value, States}
use Rattle.cfg_providers.specs.CustomSources.{Answer}
use Rattle.cfg_chain.specs.declared.member.Member.{Member}
use Rattle.cfg_chain.specs.BegunCalls.{HasEnded, IsNextOfCall}
use Rattle.cfg_chain.specs.Members.{name_of}
use Rattle.cfg_chain.specs.Provides.{IsCall}
use Rattle.cfg_chain.specs.Settings.{ChainSetting}
use Rattle.cfg_run.proofs.KeptCopies.{same_states}
use Rattle.cfg_run.specs.CallSoFar.{CallSoFar}
use Rattle.cfg_run.specs.Runs.{ComesTo, IsWaitingCall, IsUnderWay, IsUnderWayAt}
use Rattle.cfg_run.specs.declared.run.Step.{Step}
use Rattle.cfg_run.specs.declared.run.Step.TheVariants.{Pending, Ready}
use Rattle.cfg_explain.specs.Owners.{IsOwnedBy, AreOwners, Owns, TellsOwner}
use Rattle.cfg_explain.specs.Verdicts.{Judges}
use Rattle.cfg_explain.specs.declared.verdict.Verdict.{Verdict}
use Rattle.cfg_explain.specs.declared.verdict.Verdict.TheVariants.{Yes, Other, Short, Long}
use Rattle.cfg_explain.proofs.HandedAnswers.{fresh, given_at}
use Rattle.cfg_explain.proofs.JournalSteps.{some_is, not_some, cut_at, take_length, end_of}
use Rattle.cfg_explain.proofs.OneVerdict.{one_verdict}

-- ---- lists

-- the item behind others
item_behind : {A : Type 0} (xs : List A) (x : A) → slice_get (xs ++ x ∷ []) (length xs) ≡ Some x
item_behind [] x = refl
item_behind (y ∷ xs) x = item_behind xs x

-- an item of a list that is longer by one is one of the list, or the last
item_of_more : {A : Type 0} (P : ℕ → A → Type 0) (xs : List A) (x : A) → ((at : ℕ) (y : A) → slice_get xs at ≡ Some y → P at y) → P (length xs) x → (at : ℕ) (y : A) → slice_get (xs ++ x ∷ []) at ≡ Some y → P at y
item_of_more P [] x each last zero y h = subst (P zero) (some_is h) last
item_of_more P [] x each last (suc at) y h = absurd (nothing at h)
  where
    nothing : {A : Type 0} {y : A} (at : ℕ) → slice_get [] at ≡ Some y → ⊥
    nothing zero h = not_some h
    nothing (suc at) h = not_some h
item_of_more P (z ∷ xs) x each last zero y h = each zero y h
item_of_more P (z ∷ xs) x each last (suc at) y h = item_of_more (λ n. P (suc n)) xs x (λ n w k. each (suc n) w k) last at y h

take_more_there : {A : Type 0} (xs : List A) (i : ℕ) (x : A) → slice_get xs i ≡ Some x → take (i + 1) xs ≡ take i xs ++ x ∷ []
take_more_there xs i x h = take_more xs i x (cut_at i xs x h).lt ∙ ap (λ y. take i xs ++ y ∷ []) (get_or_from_slice_get xs i x x h)

-- ---- journals that are not whole

not_yes : {at : ℕ} {q : Question} → Other at q ≡ Yes → ⊥
not_yes h = cc

module _ (over : ChainSetting) (old : States) (journal : List Pair) where
  ends_with_yes : (verdict : Verdict) → ((new : States) (found : List Value) (out : Answer) → Judges over old new found journal out verdict) → HasEnded over old journal → verdict ≡ Yes
  ends_with_yes verdict judges e = one_verdict over old journal e.0 e.0 e.1 e.1 e.2 verdict Yes (judges e.0 e.1 e.2) (e.2, e.3, refl)

  -- the call has come to its end before the end of the journal
  pub long_is_none : (at : ℕ) → at < length journal → HasEnded over old (take at journal) → HasEnded over old journal → ⊥
  long_is_none at lt ended e = no (ends_with_yes (Long at) (λ new found out. (lt, ended)) e)
    where
      no : {at : ℕ} → Long at ≡ Yes → ⊥
      no h = cc

  -- it asks another question
  pub other_is_none : (at : ℕ) (entry : Pair) (q : Question) → slice_get journal at ≡ Some entry → IsNextOfCall over old (take at journal) q → (entry.0 ≡ q → ⊥) → HasEnded over old journal → ⊥
  other_is_none at entry q there next other e = no (ends_with_yes (Other at q) (λ new found out. record { entry = entry; there = there; next = next; other = other }) e)
    where
      no : {at : ℕ} {q : Question} → Other at q ≡ Yes → ⊥
      no h = cc

  -- or one more
  pub short_is_none : (q : Question) → IsNextOfCall over old journal q → HasEnded over old journal → ⊥
  short_is_none q next e = no (ends_with_yes (Short q) (λ new found out. next) e)
    where
      no : {q : Question} → Short q ≡ Yes → ⊥
      no h = cc

-- ---- the question that is shown

next_of : (over : ChainSetting) (old new : States) (found : List Value) (part : List Pair) (q : Question) (member : Option Member) → IsWaitingCall over old new found part q member → IsNextOfCall over old part q
next_of over old new found part q member w = record { services = w.services; names = w.names; next = (found, Some new, w.asks) }

-- the question that is shown is the one that the call waits for
question_of : (o : Option Question) → IsSome o → (q : Question) × (o ≡ Some q)
question_of None some = cc
question_of (Some q) some = (q, refl)

waits_for : (over : ChainSetting) (s : CallSoFar) (q : Question) → s.question ≡ Some q → IsUnderWay over s → IsWaitingCall over s.base s.kept s.found s.asked q s.member
waits_for over s q is under = subst (IsUnderWayAt over s) is under.1

-- a member that has a name
pub named_member : (member : Option Member) (name : List ℕ) → option_map name_of member ≡ Some name → (who : Member) × (member ≡ Some who) × (name_of who ≡ name)
named_member None name h = absurd (not_some h)
named_member (Some who) name h = (who, refl, some_is h)

-- ---- the walk

-- The run was handed the entries before this place, and each of these has its owner's name.
pub record SoFar (over : ChainSetting) (old : States) (key : Option TokenKey) (answers : List Answered) (journal : List Pair) (i : ℕ) (s : CallSoFar) (receipt : Option Pair) (devices : Handed) (names : List (List ℕ)) : Type 0 where
  pub under_way : IsUnderWay over s
  pub base : s.base ≡ old
  pub key_is : s.key ≡ key
  pub handed : s.asked ++ option_to_list receipt ≡ take i journal
  pub fits : IfSome receipt (λ e. s.question ≡ Some e.0)
  pub same : Same (Allows (fresh answers)) (Allows devices)
  pub stands : Stands devices (take i journal)
  pub counted : length names ≡ i
  pub owned : AreOwners over old journal names

begins : (over : ChainSetting) (old : States) (key : Option TokenKey) (answers : List Answered) (journal : List Pair) (s : CallSoFar) (devices : Handed) →
    IsUnderWay over s → s ≡ record { key = key; base = old; kept = old; found = []; asked = []; question = None; member = None } → devices ≡ fresh answers → SoFar over old key answers journal 0 s None devices []
begins over old key answers journal s devices under is fresh_is = record {
  under_way = under;
  base = ap (λ (x : CallSoFar). x.base) is;
  key_is = ap (λ (x : CallSoFar). x.key) is;
  handed = append-nil s.asked ∙ ap (λ (x : CallSoFar). x.asked) is;
  fits = tt;
  same = subst (λ d. Same (Allows (fresh answers)) (Allows d)) (sym fresh_is) (Same-refl _);
  stands = subst (λ d. Stands d []) (sym fresh_is) (record { given = tt; used = omega arith; questions = omega arith });
  counted = refl;
  owned = λ at name h. absurd (nothing at h);
}
  where
    nothing : {A : Type 0} {y : A} (at : ℕ) → slice_get [] at ≡ Some y → ⊥
    nothing zero h = not_some h
    nothing (suc at) h = not_some h

-- over a copy of what is kept
pub begins_copied : (over : ChainSetting) (kept copy : Kept) (answers : List Answered) (journal : List Pair) (s : CallSoFar) (devices : Handed) → copy.token ≡ kept.token → copy.chain ≡ kept.chain → copy.named ≡ kept.named →
    IsUnderWay over s → s ≡ record { key = kept_key copy; base = states_of copy; kept = states_of copy; found = []; asked = []; question = None; member = None } → devices ≡ fresh answers →
    SoFar over (states_of kept) (kept_key kept) answers journal 0 s None devices []
begins_copied over kept copy answers journal s devices token chain named under is fresh_is =
    subst (λ k. SoFar over (states_of kept) k answers journal 0 s None devices []) (ap key_of token)
    (subst (λ b. SoFar over b (kept_key copy) answers journal 0 s None devices []) (same_states copy kept token chain named) (begins over (states_of copy) (kept_key copy) answers journal s devices under is fresh_is))

module _ (over : ChainSetting) (old : States) (key : Option TokenKey) (journal : List Pair) (i : ℕ) (s later : CallSoFar) (receipt : Option Pair) (devices : Handed) (names : List (List ℕ)) (entry : Pair)
    (so : SoFar over old key (map (λ e. e.1) journal) journal i s receipt devices names) (there : slice_get journal i ≡ Some entry)
    (asked : later.asked ≡ s.asked ++ option_to_list receipt) (start : (later.base ≡ s.base) × (later.key ≡ s.key)) where
  asked_is : later.asked ≡ take i journal
  asked_is = asked ∙ so.handed

  base_is : later.base ≡ old
  base_is = start.0 ∙ so.base

  -- what the run waits for then
  waits_there : (q : Question) → later.question ≡ Some q → IsUnderWay over later → IsWaitingCall over old later.kept later.found (take i journal) q later.member
  waits_there q is under = subst (λ j. IsWaitingCall over old later.kept later.found j q later.member) asked_is
      (subst (λ b. IsWaitingCall over b later.kept later.found later.asked q later.member) base_is (waits_for over later q is under))

  -- an early end, and another question
  pub early : (out : Answer) → i < length journal → IsCall over later.base later.kept later.found later.asked out → HasEnded over old journal → ⊥
  early out lt c = long_is_none over old journal i lt
      (later.kept, later.found, out, subst (λ j. IsCall over old later.kept later.found j out) asked_is (subst (λ b. IsCall over b later.kept later.found later.asked out) base_is c))

  pub differs : IsSome later.question → IsUnderWay over later → TellsOwner later.question later.member entry.0 None → HasEnded over old journal → ⊥
  differs some under tells =
      let w = question_of later.question some in
      other_is_none over old journal i entry w.0 there (next_of over old later.kept later.found (take i journal) w.0 later.member (waits_there w.0 w.1 under)) (λ is. tells (w.1 ∙ ap Some (sym is)))

  -- the entry's owner
  owner : IsUnderWay over later → (name : List ℕ) → TellsOwner later.question later.member entry.0 (Some name) → IsOwnedBy over old journal i name
  owner under name tells =
      let m = named_member later.member name tells.1 in
      record {
        who = m.0;
        entry = entry;
        there = there;
        new = later.kept;
        found = later.found;
        asks = subst (λ x. IsWaitingCall over old later.kept later.found (take i journal) entry.0 x) m.1 (waits_there entry.0 tells.0 under);
        is = m.2;
      }

  module _ (new : Handed) (e : Pair) (name : List ℕ) (under : IsUnderWay over later) (tells : TellsOwner later.question later.member entry.0 (Some name)) (is : e.0 ≡ entry.0)
      (entry_fits : Fits entry.0 entry.1) (same : Same (Allows devices) (Allows new)) (stands : StandsOn (Stands devices) (Stands new) (e ∷ [])) (within : i ≤ length journal) where
    stood : Stands new (take i journal ++ e ∷ [])
    stood = stands (take i journal) so.stands

    all_same : Same (Allows (fresh (map (λ x. x.1) journal))) (Allows new)
    all_same = Same-trans so.same same

    given : IsGiven (slice_get (map (λ x. x.1) journal) i) e.0 e.1
    given = given_at (map (λ x. x.1) journal) (take i journal ++ e ∷ []) i e (all_same.from (take i journal ++ e ∷ []) stood.given)
        (subst (λ n. slice_get (take i journal ++ e ∷ []) n ≡ Some e) (take_length i journal within) (item_behind (take i journal) e))

    same_answer : e.1 ≡ entry.1
    same_answer =
        let g = subst (λ o. IsGiven o e.0 e.1) (slice_get-map (λ (x : Pair). x.1) journal i ∙ ap (option_map (λ (x : Pair). x.1)) there) given in
        g.0 (subst (λ q. Fits q entry.1) (sym is) entry_fits)

    is_entry : e ≡ entry
    is_entry = same_entry e entry is same_answer

    longer : take (i + 1) journal ≡ take i journal ++ e ∷ []
    longer = take_more_there journal i entry there ∙ ap (λ x. take i journal ++ x ∷ []) (sym is_entry)

    pub goes_on : SoFar over old key (map (λ x. x.1) journal) journal (i + 1) later (Some e) new (names ++ name ∷ [])
    goes_on = record {
      under_way = under;
      base = base_is;
      key_is = start.1 ∙ so.key_is;
      handed = ap (λ t. t ++ e ∷ []) asked_is ∙ sym longer;
      fits = tells.0 ∙ ap Some (sym is);
      same = all_same;
      stands = subst (Stands new) (sym longer) stood;
      counted = length-append names (name ∷ []) ∙ ap (λ n. n + 1) so.counted;
      owned = item_of_more (IsOwnedBy over old journal) names name so.owned (subst (λ n. IsOwnedBy over old journal n name) (sym so.counted) (owner under name tells));
    }

-- behind all entries the call is whole, or asks one question more
module _ (over : ChainSetting) (old : States) (key : Option TokenKey) (answers : List Answered) (journal : List Pair) (i : ℕ) (s later : CallSoFar) (receipt : Option Pair) (devices : Handed) (names : List (List ℕ))
    (so : SoFar over old key answers journal i s receipt devices names) (end : i ≡ length journal) (asked : later.asked ≡ s.asked ++ option_to_list receipt) (base : later.base ≡ s.base) where
  all_asked : later.asked ≡ journal
  all_asked = asked ∙ so.handed ∙ ap (λ n. take n journal) end ∙ (end_of journal).0

  from_old : later.base ≡ old
  from_old = base ∙ so.base

  pub whole : (out : Answer) → IsCall over later.base later.kept later.found later.asked out → Owns over old later.kept later.found journal (Some names)
  whole out c = (
    (out, subst (λ j. IsCall over old later.kept later.found j out) all_asked (subst (λ b. IsCall over b later.kept later.found later.asked out) from_old c)),
    so.counted ∙ end,
    so.owned,
  )

  pub unfinished : IsSome later.question → IsUnderWay over later → HasEnded over old journal → ⊥
  unfinished some under =
      let w = question_of later.question some in
      short_is_none over old journal w.0
      (next_of over old later.kept later.found journal w.0 later.member
      (subst (λ j. IsWaitingCall over old later.kept later.found j w.0 later.member) all_asked
      (subst (λ b. IsWaitingCall over b later.kept later.found later.asked w.0 later.member) from_old (waits_for over later w.0 w.1 under))))

-- ---- what the body sees of a poll

-- an entry of a list of which each fits does
pub fits_there : (journal : List Pair) (i : ℕ) (entry : Pair) → EachFits journal → slice_get journal i ≡ Some entry → Fits entry.0 entry.1
fits_there [] zero entry fits h = absurd (not_some h)
fits_there [] (suc i) entry fits h = absurd (not_some h)
fits_there (x ∷ xs) zero entry fits h = subst (λ (e : Pair). Fits e.0 e.1) (some_is h) fits.0
fits_there (x ∷ xs) (suc i) entry fits h = fits_there xs i entry fits.1 h

-- a run that is not pending before the end of the journal has ended early
pub ended_early : (over over_at : ChainSetting) (old : States) (key : Option TokenKey) (journal : List Pair) (i : ℕ) (s later : CallSoFar) (receipt : Option Pair) (devices : Handed) (names : List (List ℕ)) (entry : Pair)
    → SoFar over old key (map (λ e. e.1) journal) journal i s receipt devices names → slice_get journal i ≡ Some entry → later.asked ≡ s.asked ++ option_to_list receipt → (later.base ≡ s.base) × (later.key ≡ s.key)
    → over_at ≡ over → (step : Step) → (step ≡ Pending → ⊥) → ComesTo over_at later step → i < length journal → HasEnded over old journal → ⊥
ended_early over over_at old key journal i s later receipt devices names entry so there asked start is_over Pending other comes lt = absurd (other refl)
ended_early over over_at old key journal i s later receipt devices names entry so there asked start is_over (Ready out) other comes lt =
    early over old key journal i s later receipt devices names entry so there asked start out lt (subst (λ o. IsCall o later.base later.kept later.found later.asked out) is_over comes.1)

-- a run that has not ended asks one question more
pub asks_more : (over : ChainSetting) (s : CallSoFar) (step : Step) → ((out : Answer) → step ≡ Ready out → ⊥) → ComesTo over s step → IsSome s.question × IsUnderWay over s
asks_more over s Pending other comes = comes
asks_more over s (Ready out) other comes = absurd (other out refl)

-- nobody asks what the entry asks
pub tells_nobody : (shown : Option Question) (member : Option Member) (asked : Question) (name : Option (List ℕ)) → ((n : List ℕ) → name ≡ Some n → ⊥) → TellsOwner shown member asked name → TellsOwner shown member asked None
tells_nobody shown member asked None other tells = tells
tells_nobody shown member asked (Some n) other tells = absurd (other n refl)
