-- The parts of a call, in its caller's words.
use Rattle.std.proofs.Common.{◌≡◌, ◌⊎◌, inl, inr, List, [], ◌∷◌, ◌++◌, map, Bool, true, false, Some, None, Ok, Err, refl, sym, ap, ◌∙◌, subst, append-nil, append_assoc}
use Rattle.std.specs.Prelude.{if◌then◌else◌}
use Rattle.std.specs.List.{AllByRecursion}
use denote.Hole.Carrier as carrier
use Rattle.cfg_types.specs.declared.errors.CredentialsError as errors
use Rattle.cfg_types.specs.declared.errors.CredentialsError.{CredentialsError}
use Rattle.cfg_types.specs.declared.errors.ProviderAttempt.{ProviderAttempt}
use Rattle.cfg_world.specs.declared.devices.Devices.{Ghosts}
use Rattle.cfg_world.specs.Fits.{Pair}
use Rattle.cfg_world.specs.Held.{Held}
use Rattle.cfg_kept.specs.Chains.{passed}
use Rattle.cfg_kept.specs.ChainParts.{AreParts}
use Rattle.cfg_kept.specs.Kinds.{Value}
use Rattle.cfg_exchange.specs.Containers.{IsContainerUri}
use Rattle.cfg_providers.specs.CustomSources.{Answer}
use Rattle.cfg_types.specs.Classes.{is_not_loaded_answer}
use Rattle.cfg_chain.specs.declared.member.Member.{Member}
use Rattle.cfg_chain.specs.Settings.{Setting, ChainSetting, setting}
use Rattle.cfg_chain.specs.Members.{credentials_chain, default_members}
use Rattle.cfg_meta.specs.CredentialsAnswers.{is_not_loaded, none_loaded}
use Rattle.cfg_chain.specs.Resolves.{IsPart}
use Rattle.cfg_chain.specs.SharedCalls.{IsFoundCall, ProvidesFound}
use Rattle.cfg_chain.specs.Callers.{Passed, WasNotLoaded, members_in, found_in, parts_in, told_of, IsAnsweredBy, IsAnsweredByNone, TellsWho}
use Rattle.cfg_chain.proofs.PassedByTable.{by_table}
use Rattle.cfg_chain.proofs.PassingErrors.{at_odds}

kept_error : (e : CredentialsError) (b : Bool) → (if b then Some e else None) ≡ None → b ≡ false
kept_error e true h = cc
kept_error e false h = refl

same_error : (e f : CredentialsError) (b : Bool) → (if b then Some e else None) ≡ Some f → (b ≡ true) × (e ≡ f)
same_error e f true h = (refl, cc)
same_error e f false h = cc

-- a member that is passed over gave an error, and was not loaded
pub passes_error : (s : Setting) (out : Answer) (e : CredentialsError) → passed (credentials_chain s) out ≡ Some e → (out ≡ Err e) × (is_not_loaded e ≡ true)
passes_error s (Ok keys) e h = cc
passes_error s (Err f) e h = let p = same_error f e (is_not_loaded f) h in (ap Err p.1, ap is_not_loaded (sym p.1) ∙ p.0)

stays : (s : Setting) (out : Answer) → passed (credentials_chain s) out ≡ None → is_not_loaded_answer out ≡ false
stays s (Ok keys) h = refl
stays s (Err e) h = kept_error e (is_not_loaded e) h

-- that none was loaded is an error that is passed over
none_is_not_loaded : (attempts : List (ProviderAttempt CredentialsError)) → is_not_loaded_answer (Err (none_loaded attempts)) ≡ true
unfolding errors.out-CredentialsError carrier.out
none_is_not_loaded attempts = refl

-- ---- the parts of members, from the first one on

-- one stretch before others, and what is behind them
joined : {A : Type 0} (whole first rest parts behind : List A) → whole ≡ first ++ rest → rest ≡ parts ++ behind → whole ≡ (first ++ parts) ++ behind
joined whole first rest parts behind h r = h ∙ ap (λ x. first ++ x) r ∙ sym (append_assoc first parts behind)

module _ (s : Setting) (names : IsContainerUri s.configuration.environment s.container) where
  -- no member of these was loaded, where these attempts were made before
  record NoneOf (members : List Member) (attempts : List (ProviderAttempt CredentialsError)) (found : List Value) (journal : List Pair) (out : Answer) : Type 0 where
    passed_over : List Passed
    order : members ≡ members_in passed_over
    not_loaded : AllByRecursion (WasNotLoaded s) passed_over
    tells : out ≡ Err (none_loaded (attempts ++ map told_of passed_over))
    finds : found ≡ found_in passed_over
    asks : journal ≡ parts_in passed_over

  not_loaded_there : (member : Member) (found : List Value) (part : List Pair) (out : Answer) (e : CredentialsError) → IsPart s member found part out → passed (credentials_chain s) out ≡ Some e →
      WasNotLoaded s (record { who = member; found = found; part = part; error = e })
  not_loaded_there member found part out e p h =
      let is = passes_error s out e h in
      let mine = subst (λ x. IsPart s member found part x) is.0 p in
      record { answers = mine; not_loaded = is.1; line = (by_table s member found part (Err e) names mine.reads).0 is.1 }

  who_of : (members : List Member) (attempts : List (ProviderAttempt CredentialsError)) (found : List Value) (journal : List Pair) (out : Answer) →
      AreParts (credentials_chain s) (IsPart s) members attempts found journal out → IsAnsweredBy s members found journal out ⊎ NoneOf members attempts found journal out
  who_of [] attempts found journal out h =
      inr (record { passed_over = []; order = refl; not_loaded = tt; tells = h.2 ∙ ap (λ a. Err (none_loaded a)) (sym (append-nil attempts)); finds = h.0; asks = h.1 })
  who_of (member ∷ members) attempts found journal out (inr h) =
      inl (record {
        passed_over = [];
        who = member;
        not_asked = members;
        order = refl;
        not_loaded = tt;
        found_there = found;
        answered = journal;
        answers = h.0;
        loaded = stays s out h.1;
        finds = refl;
        asks = refl;
      })
  who_of (member ∷ members) attempts found journal out (inl h) =
      let first : Passed = record { who = member; found = h.0; part = h.2; error = h.5 } in
      let mine = not_loaded_there member h.0 h.2 h.4 h.5 h.8 h.9 in
      elim (who_of members (attempts ++ told_of first ∷ []) h.1 h.3 out h.10) [
        | inl a ↦
            inl (record {
              passed_over = first ∷ a.passed_over;
              who = a.who;
              not_asked = a.not_asked;
              order = ap (λ m. member ∷ m) a.order;
              not_loaded = (mine, a.not_loaded);
              found_there = a.found_there;
              answered = a.answered;
              answers = a.answers;
              loaded = a.loaded;
              finds = joined found h.0 h.1 (found_in a.passed_over) a.found_there h.6 a.finds;
              asks = joined journal h.2 h.3 (parts_in a.passed_over) a.answered h.7 a.asks;
            })
        | inr n ↦
            inr (record {
              passed_over = first ∷ n.passed_over;
              order = ap (λ m. member ∷ m) n.order;
              not_loaded = (mine, n.not_loaded);
              tells = n.tells ∙ ap (λ a. Err (none_loaded a)) (append_assoc attempts (told_of first ∷ []) (map told_of n.passed_over));
              finds = h.6 ∙ ap (λ x. h.0 ++ x) n.finds;
              asks = h.7 ∙ ap (λ x. h.2 ++ x) n.asks;
            })
      ]

  -- the two cases of an answer
  of_none : (members : List Member) (found : List Value) (journal : List Pair) (out : Answer) → IsAnsweredBy s members found journal out ⊎ NoneOf members [] found journal out → is_not_loaded_answer out ≡ true → IsAnsweredByNone s members found journal out
  of_none members found journal out (inl a) none = at_odds (is_not_loaded_answer out) none a.loaded
  of_none members found journal out (inr n) none = record { passed_over = n.passed_over; order = n.order; not_loaded = n.not_loaded; tells = n.tells; finds = n.finds; asks = n.asks }

  of_one : (members : List Member) (found : List Value) (journal : List Pair) (out : Answer) → IsAnsweredBy s members found journal out ⊎ NoneOf members [] found journal out → is_not_loaded_answer out ≡ false → IsAnsweredBy s members found journal out
  of_one members found journal out (inl a) loaded = a
  of_one members found journal out (inr n) loaded = at_odds (is_not_loaded_answer out) (ap is_not_loaded_answer n.tells ∙ none_is_not_loaded (map told_of n.passed_over)) loaded

-- a call tells who answered
pub call_tells : (over : ChainSetting) (found : List Value) (before later part : List Pair) (out : Answer) → later ≡ before ++ part → IsFoundCall over found part out → TellsWho over found before later out
call_tells over found before later part out grows call =
    let s = setting over call.services in
    let who = who_of s call.names.container default_members [] found part out call.resolves in
    record {
      services = call.services;
      names = call.names;
      journal = part;
      grows = grows;
      by_one = of_one s call.names.container default_members found part out who;
      by_none = of_none s call.names.container default_members found part out who;
    }

pub tells_who : {D : Type 0} (d : Ghosts D) (over : ChainSetting) (found : List Value) (before later : Held D) (out : Answer) → ProvidesFound d over found before later out → TellsWho over found before.journal later.journal out
tells_who d over found before later out p = call_tells over found before.journal later.journal p.part out p.grows.journal p.call
