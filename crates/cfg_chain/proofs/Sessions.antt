-- What a call reads of a sign-in session.
use Rattle.std.proofs.Common.{◌≡◌, ◌⊎◌, inl, inr, List, [], ◌∷◌, ◌++◌, Option, Some, None, Ok, Err, refl, sym, ap, ◌∙◌, subst, append-nil}
use Rattle.cfg_types.specs.Classes.{is_not_loaded_answer}
use Rattle.cfg_types.specs.Keys.{Keys}
use Rattle.cfg_types.specs.declared.errors.CredentialsError.{CredentialsError}
use Rattle.cfg_world.specs.declared.devices.Devices.{Ghosts}
use Rattle.cfg_world.specs.Fits.{Pair, EachFits}
use Rattle.cfg_world.specs.Held.{Held}
use Rattle.cfg_world.specs.Inquiry as low
use Rattle.cfg_world.specs.Inquiry.{Inquiry, Done, Ask}
use Rattle.cfg_world.specs.Gains.{Gains}
use Rattle.cfg_kept.specs.Kinds.{Value, States}
use Rattle.cfg_kept.specs.Chains.{passed}
use Rattle.cfg_kept.specs.KeptInquiry.{KeptInquiry, Gives, Reads, Begins, lift, onwards_if_ok}
use Rattle.cfg_kept.proofs.Beginnings.{begins_splits}
use Rattle.cfg_kept.proofs.CallParts.{given_then}
use Rattle.cfg_kept.proofs.ChainParts.{chain_begun}
use Rattle.cfg_kept.proofs.Splits.{lowered, split_onwards}
use Rattle.cfg_kept.proofs.Told.{run_begins}
use Rattle.cfg_imds_credentials.proofs.Given.{given_is, whole_part, run_reads}
use Rattle.cfg_profile.specs.declared.chain.BaseProvider.{BaseProvider}
use Rattle.cfg_profile.specs.declared.chain.BaseProvider.TheVariants as base
use Rattle.cfg_providers.specs.CustomSources.{Answer}
use Rattle.cfg_providers.specs.EnvironmentKeys.{environment, by_environment}
use Rattle.cfg_login.specs.declared.asked_by.AskedBy.TheVariants as by
use Rattle.cfg_login.specs.SignIns.{sign_in_credentials}
use Rattle.cfg_login.proofs.SignInCauses.{sign_in_cause}
use Rattle.cfg_login.proofs.LastReadings.{credentials_last}
use Rattle.cfg_login.proofs.OtherSpots.{begins_elsewhere}
use Rattle.cfg_chain.specs.declared.member.Member.TheVariants.{Environment, Profile}
use Rattle.cfg_chain.specs.Settings.{Setting, ChainSetting, Services, names_of, setting}
use Rattle.cfg_chain.specs.Members.{member_tree, credentials_chain, default_members, default_chain}
use Rattle.cfg_chain.specs.BegunCalls.{IsBegunCall}
use Rattle.cfg_chain.specs.Provides.{IsCall}
use Rattle.cfg_chain.specs.SharedCalls.{ProvidesFound, InterruptedFound}
use Rattle.cfg_chain.specs.Resolves.{Resolves}
use Rattle.cfg_chain.specs.Sessions.{IsSession, PlansNoSession, PlansSession, BeginsUnexpired, GoesOn, HasGoneOn, HandsOn, PassesBySessions, ReadsSession, IsOfEnvironment, ChainReadsSession, StopsBehind, StopsWithin, StopsInSession}
use Rattle.cfg_chain.specs.PassedOver.{plan_is_passed_over}
use Rattle.cfg_chain.specs.profile.Bases.{base_tree, in_base, based}
use Rattle.cfg_chain.specs.profile.Causes.{of_base}
use Rattle.cfg_chain.specs.profile.Plans.{plan}
use Rattle.cfg_chain.specs.profile.Profiles.{assumed, follows_planned, follows_plan, profile}
use Rattle.cfg_chain.specs.profile.Provides.{ProvidesByProfile, InterruptedProfile}
use Rattle.cfg_chain.proofs.MemberCauses.{reads_resolved}
use Rattle.cfg_chain.proofs.OtherSessions.{Elsewhere, planned_session, chain_elsewhere}
use Rattle.cfg_chain.proofs.PassedByTable.{planned_line}
use Rattle.cfg_chain.proofs.PassingErrors.{at_odds}
use Rattle.cfg_chain.proofs.WhoAnswered.{passes_error}

pub fits_first : (one other : List Pair) → EachFits (one ++ other) → EachFits one
fits_first [] other h = tt
fits_first (e ∷ one) other h = (h.0, fits_first one other h.1)

-- what a tree that only asks has begun
pub begun_lift : {R : Type 0} (p : Inquiry R) (old new : Option States) (found : List Value) (part : List Pair) → Begins (lift p) old found part new → (found ≡ []) × low.Begun p part
begun_lift (Done r) old new [] [] h = (refl, tt)
begun_lift (Done r) old new [] (e ∷ part) h = absurd h
begun_lift (Done r) old new (f ∷ found) part h = absurd h
begun_lift (Ask q next) old new [] [] h = (refl, tt)
begun_lift (Ask q next) old new (f ∷ found) [] h = absurd h
begun_lift (Ask q next) old new found (e ∷ part) h = let r = begun_lift (next e.1) old new found part h.1 in (r.0, (h.0, r.1))

begun_nothing : {R : Type 0} (p : Inquiry R) → low.Begun p []
begun_nothing (Done r) = tt
begun_nothing (Ask q next) = tt

-- what was said at once has begun
pub begun_said : {R : Type 0} (said : R) (old new : Option States) (found : List Value) (part : List Pair) → Begins (Gives said) old found part new → (found ≡ []) × (part ≡ [])
begun_said said old new [] [] h = (refl, refl)
begun_said said old new [] (e ∷ part) h = absurd h
begun_said said old new (f ∷ found) part h = absurd h

-- ---- the environment

nothing_asked : (s : Setting) (part : List Pair) (out : Answer) → low.Reads (by_environment s.configuration.environment) part out → (part ≡ []) × (out ≡ environment s.configuration.environment)
nothing_asked s [] out h = (refl, sym h)
nothing_asked s (e ∷ part) out h = absurd h

environment_asks : (s : Setting) (found : List Value) (part : List Pair) (out : Answer) → Reads (member_tree s Environment) found part out → (found ≡ []) × (part ≡ []) × (out ≡ environment s.configuration.environment)
unfolding member_tree
environment_asks s found part out h =
    let r = lowered (by_environment s.configuration.environment) found part out h in
    let n = nothing_asked s part out r.1 in
    (r.0, n.0, n.1)

environment_begun : (s : Setting) (old new : Option States) (found : List Value) (part : List Pair) → Begins (member_tree s Environment) old found part new → (found ≡ []) × (part ≡ [])
unfolding member_tree
environment_begun s old new found part h = begun_said (environment s.configuration.environment) old new found part h

-- what stands behind nothing
behind_none : {A : Type 0} (whole first rest : List A) → whole ≡ first ++ rest → first ≡ [] → whole ≡ rest
behind_none whole first rest parts none = parts ∙ ap (λ x. x ++ rest) none

-- ---- a plan that begins with a session

module _ (over : ChainSetting) (services : Services) (planned : PlansSession over) where
  abbrev Based : KeptInquiry Answer
  Based = base_tree (setting over services) planned.chain.base

  abbrev next : Keys → KeptInquiry Answer
  next keys = lift (assumed over.configuration planned.chain.roles keys)

  base_is : (b : BaseProvider) → IsSession b planned.session → base_tree (setting over services) b ≡ sign_in_credentials over.configuration planned.session by.Profile
  unfolding base_tree
  base_is (base.LoginSession named) is = ap (λ x. sign_in_credentials over.configuration x by.Profile) is
  base_is (base.AccessKey keys) is = absurd is
  base_is (base.NamedSource name) is = absurd is
  base_is (base.WebIdentityTokenRole arn file named) is = absurd is
  base_is (base.CredentialProcess command account) is = absurd is
  base_is (base.Sso named region url account role) is = absurd is

  based_is : Based ≡ sign_in_credentials over.configuration planned.session by.Profile
  based_is = base_is planned.chain.base planned.begins

  profile_is : profile (setting over services) ≡ follows_planned (setting over services) planned.chain
  unfolding profile
  profile_is = ap (λ p. follows_plan (setting over services) p) planned.plans

  -- the part of the session, with what stands behind it
  first_part : (found : List Value) (part rest journal : List Pair) (given : Answer) → EachFits journal → journal ≡ part ++ rest → Reads Based found part given → BeginsUnexpired over planned.session found journal
  first_part found part rest journal given fits parts h =
      let conf = over.configuration in
      let reads = subst (λ t. Reads t found part given) based_is h in
      record {
        part = part;
        rest = rest;
        given = given;
        parts = parts;
        reads = reads;
        unexpired = credentials_last conf planned.session by.Profile found part given (fits_first part rest (subst EachFits parts fits))
            (sign_in_cause conf planned.session by.Profile found part given reads);
      }

  -- ---- a whole call

  on_whole : (given out : Answer) (found : List Value) (rest : List Pair) → Reads (onwards_if_ok next (in_base given)) found rest out → (found ≡ []) × GoesOn over.configuration planned.chain.roles given rest out
  unfolding in_base
  on_whole (Ok keys) out found rest h = let r = lowered (assumed over.configuration planned.chain.roles keys) found rest out h in (r.0, r.1)
  on_whole (Err e) out found rest h = let same = given_is (Err (of_base e)) out found rest h in (same.0, (same.1, sym same.2))

  plan_hands_on : (found : List Value) (journal : List Pair) (out : Answer) → EachFits journal → Reads (follows_planned (setting over services) planned.chain) found journal out → HandsOn over found journal out
  unfolding follows_planned based first_part
  plan_hands_on found journal out fits h =
      let r = split_onwards (based (setting over services) planned.chain.base) (onwards_if_ok next) found journal out h in
      let b = given_then Based in_base r.found_first r.part r.middle r.first in
      let behind = on_whole b.0 out r.found_then r.rest (subst (λ m. Reads (onwards_if_ok next m) r.found_then r.rest out) b.2 r.then) in
      let all : found ≡ r.found_first = whole_part found r.found_first r.found_then r.finds behind.0 in
      record {
        planned = planned;
        first = first_part found r.part r.rest journal b.0 fits r.parts (subst (λ f. Reads Based f r.part b.0) (sym all) b.1);
        goes_on = behind.1;
      }

  profile_hands_on : (found : List Value) (journal : List Pair) (out : Answer) → EachFits journal → Reads (profile (setting over services)) found journal out → HandsOn over found journal out
  profile_hands_on found journal out fits h = plan_hands_on found journal out fits (subst (λ t. Reads t found journal out) profile_is h)

  -- ---- one that has begun

  on_begun : (given : Answer) (old new : Option States) (found : List Value) (rest : List Pair) → Begins (onwards_if_ok next (in_base given)) old found rest new → (found ≡ []) × HasGoneOn over.configuration planned.chain.roles given rest
  unfolding in_base
  on_begun (Ok keys) old new found rest h = begun_lift (assumed over.configuration planned.chain.roles keys) old new found rest h
  on_begun (Err e) old new found rest h = begun_said {R = Answer} (Err (of_base e)) old new found rest h

  not_yet : (given : Answer) → HasGoneOn over.configuration planned.chain.roles given []
  not_yet (Ok keys) = begun_nothing (assumed over.configuration planned.chain.roles keys)
  not_yet (Err e) = refl

  stops_behind : (found first then : List Value) (journal part rest : List Pair) (given : Answer) → EachFits journal → found ≡ first ++ then → journal ≡ part ++ rest → Reads Based first part given →
      then ≡ [] → HasGoneOn over.configuration planned.chain.roles given rest → StopsBehind over found journal
  unfolding first_part
  stops_behind found first then journal part rest given fits finds parts h none on = record {
    planned = planned;
    first = first_part found part rest journal given fits parts (subst (λ f. Reads Based f part given) (sym (whole_part found first then finds none)) h);
    goes_on = on;
  }

  base_stops : (old new : Option States) (found : List Value) (journal : List Pair) → EachFits journal → Begins (based (setting over services) planned.chain.base) old found journal new →
      StopsBehind over found journal ⊎ StopsWithin over found journal
  unfolding based
  base_stops old new found journal fits h = elim (begins_splits Based (λ given. Gives (in_base given)) old new found journal h) [
    | inl b ↦ inr (record { planned = planned; old = old; new = new; begins = subst (λ t. Begins t old found journal new) based_is b })
    | inr r ↦
        let said = begun_said (in_base r.outcome) r.middle new r.found_behind r.rest r.begins in
        inl (stops_behind found r.found_before r.found_behind journal r.part r.rest r.outcome fits r.finds r.parts (run_reads Based old r.middle r.found_before r.part r.outcome r.runs) said.0
        (subst (λ x. HasGoneOn over.configuration planned.chain.roles r.outcome x) (sym said.1) (not_yet r.outcome)))
  ]

  plan_stops : (old new : Option States) (found : List Value) (journal : List Pair) → EachFits journal → Begins (follows_planned (setting over services) planned.chain) old found journal new →
      StopsBehind over found journal ⊎ StopsWithin over found journal
  unfolding follows_planned based
  plan_stops old new found journal fits h =
      let first = based (setting over services) planned.chain.base in
      elim (begins_splits first (onwards_if_ok next) old new found journal h) [
        | inl b ↦ base_stops old new found journal fits b
        | inr r ↦
            let b = given_then Based in_base r.found_before r.part r.outcome (run_reads first old r.middle r.found_before r.part r.outcome r.runs) in
            let on = on_begun b.0 r.middle new r.found_behind r.rest (subst (λ m. Begins (onwards_if_ok next m) r.middle r.found_behind r.rest new) b.2 r.begins) in
            inl (stops_behind found r.found_before r.found_behind journal r.part r.rest b.0 fits r.finds r.parts b.1 on.0 on.1)
      ]

  profile_stops : (old new : Option States) (found : List Value) (journal : List Pair) → EachFits journal → Begins (profile (setting over services)) old found journal new →
      StopsBehind over found journal ⊎ StopsWithin over found journal
  profile_stops old new found journal fits h = plan_stops old new found journal fits (subst (λ t. Begins t old found journal new) profile_is h)

  -- ---- as a member of the chain, where it is not passed over

  member_is : profile (setting over services) ≡ member_tree (setting over services) Profile
  unfolding member_tree
  member_is = refl

  never_passed : {X : Type 0} (found : List Value) (part : List Pair) (given : Answer) (e : CredentialsError) → Reads (member_tree (setting over services) Profile) found part given →
      passed (credentials_chain (setting over services)) given ≡ Some e → X
  unfolding member_tree profile
  never_passed found part given e h k =
      let s = setting over services in
      let was = passes_error s given e k in
      at_odds (is_not_loaded_answer given) (ap is_not_loaded_answer was.0 ∙ was.1)
      (planned_line s (plan over.configuration (names_of over.sources)) found part given h ∙ ap plan_is_passed_over planned.plans)

  chain_hands_on : (found : List Value) (journal : List Pair) (out : Answer) → EachFits journal → Resolves (setting over services) found journal out → HandsOn over found journal out ⊎ IsOfEnvironment over found journal out
  chain_hands_on found journal out fits (inr h) =
      let nothing = environment_asks (setting over services) found journal out h.0.reads in
      inr (record { finds = nothing.0; asks = nothing.1; answers = nothing.2 })
  chain_hands_on found journal out fits (inl h) =
      let nothing = environment_asks (setting over services) h.0 h.2 h.4 h.8.reads in
      let all : found ≡ h.1 = behind_none found h.0 h.1 h.6 nothing.0 in
      let whole : journal ≡ h.3 = behind_none journal h.2 h.3 h.7 nothing.1 in
      elim h.10 [
        | inl k ↦ never_passed k.0 k.2 k.4 k.5 k.8.reads k.9
        | inr k ↦
            let reads = subst (λ t. Reads t h.1 h.3 out) (sym member_is) k.0.reads in
            inl (subst (λ f. HandsOn over f journal out) (sym all) (subst (λ j. HandsOn over h.1 j out) (sym whole) (profile_hands_on h.1 h.3 out (subst EachFits whole fits) reads)))
      ]

  abbrev Stops : List Value → List Pair → Type 0
  Stops found journal = StopsBehind over found journal ⊎ StopsWithin over found journal

  stopped : (found : List Value) (journal : List Pair) → Stops found journal → StopsInSession over found journal
  stopped found journal (inl b) = inl b
  stopped found journal (inr w) = inr (inl w)

  chain_stops : (old new : Option States) (found : List Value) (journal : List Pair) → EachFits journal → Begins (default_chain (setting over services)) old found journal new → StopsInSession over found journal
  chain_stops old new found journal fits h =
      let s = setting over services in
      elim (chain_begun (credentials_chain s) default_members [] old new found journal h) [
        | inr b ↦ inr (inr (inr (environment_begun s old new found journal b).1))
        | inl g ↦
            let nothing = environment_asks s g.0 g.2 g.5 (run_reads (member_tree s Environment) old g.4 g.0 g.2 g.5 g.9) in
            let all : found ≡ g.1 = behind_none found g.0 g.1 g.7 nothing.0 in
            let whole : journal ≡ g.3 = behind_none journal g.2 g.3 g.8 nothing.1 in
            elim g.11 [
              | inl k ↦ never_passed k.0 k.2 k.5 k.6 (run_reads (member_tree s Profile) g.4 k.4 k.0 k.2 k.5 k.9) k.10
              | inr b ↦
                  let begins = subst (λ t. Begins t g.4 g.1 g.3 new) (sym member_is) b in
                  stopped found journal
                  (subst (λ f. Stops f journal) (sym all) (subst (λ j. Stops g.1 j) (sym whole) (profile_stops g.4 new g.1 g.3 (subst EachFits whole fits) begins)))
            ]
      ]

-- ---- any plan

module _ (over : ChainSetting) (services : Services) where
  kind : (Elsewhere (profile (setting over services)) × PlansNoSession (plan over.configuration (names_of over.sources))) ⊎ PlansSession over
  unfolding profile
  kind = elim (planned_session (setting over services) (plan over.configuration (names_of over.sources))) [
    | inl n ↦ inl n
    | inr k ↦ inr (record { chain = k.0; session = k.1; plans = k.2; begins = k.3 })
  ]

  passes_by : (tree : KeptInquiry Answer) (old new : Option States) (found : List Value) (journal : List Pair) → Elsewhere tree → PlansNoSession (plan over.configuration (names_of over.sources)) →
      Begins tree old found journal new → PassesBySessions over found
  passes_by tree old new found journal n none h = record { plans = none; found_none = begins_elsewhere tree old new found journal n h }

  pub profile_reads : (found : List Value) (journal : List Pair) (out : Answer) → EachFits journal → Reads (profile (setting over services)) found journal out → ReadsSession over found journal out
  profile_reads found journal out fits h =
      let tree = profile (setting over services) in
      elim kind [
        | inl n ↦ inr (passes_by tree None None found journal n.0 n.1 (run_begins tree None None found journal out h))
        | inr planned ↦ inl (profile_hands_on over services planned found journal out fits h)
      ]

  in_order : (found : List Value) (journal : List Pair) (out : Answer) → HandsOn over found journal out ⊎ IsOfEnvironment over found journal out → ChainReadsSession over found journal out
  in_order found journal out (inl h) = inl (inl h)
  in_order found journal out (inr e) = inr e

  pub chain_reads : (found : List Value) (journal : List Pair) (out : Answer) → EachFits journal → Resolves (setting over services) found journal out → ChainReadsSession over found journal out
  chain_reads found journal out fits h =
      let s = setting over services in
      elim kind [
        | inl n ↦ inl (inr (passes_by (default_chain s) None None found journal (chain_elsewhere s n.0) n.1
            (run_begins (default_chain s) None None found journal out (reads_resolved s found journal out h))))
        | inr planned ↦ in_order found journal out (chain_hands_on over services planned found journal out fits h)
      ]

  pub profile_begun : (old new : Option States) (found : List Value) (journal : List Pair) → EachFits journal → Begins (profile (setting over services)) old found journal new → StopsInSession over found journal
  profile_begun old new found journal fits h = elim kind [
    | inl n ↦ inr (inr (inl (passes_by (profile (setting over services)) old new found journal n.0 n.1 h)))
    | inr planned ↦ stopped over services planned found journal (profile_stops over services planned old new found journal fits h)
  ]

  pub chain_begun_in : (old new : Option States) (found : List Value) (journal : List Pair) → EachFits journal → Begins (default_chain (setting over services)) old found journal new → StopsInSession over found journal
  chain_begun_in old new found journal fits h = elim kind [
    | inl n ↦ inr (inr (inl (passes_by (default_chain (setting over services)) old new found journal (chain_elsewhere (setting over services) n.0) n.1 h)))
    | inr planned ↦ chain_stops over services planned old new found journal fits h
  ]

-- ---- a call

module _ (over : ChainSetting) (old new : States) (found : List Value) (part : List Pair) (fits : EachFits part) where
  pub begun : IsBegunCall over old new found part → StopsInSession over found part
  begun h = chain_begun_in over h.services (Some old) (Some new) found part fits h.begins

  pub ended : (out : Answer) → IsCall over old new found part out → ChainReadsSession over found part out
  ended out h = chain_reads over h.services found part out fits h.resolves

module _ {D : Type 0} (d : Ghosts D) (over : ChainSetting) (found : List Value) (before later : Held D) where
  abbrev Stopped : Type 0
  Stopped = Gains before.journal later.journal (StopsInSession over found)

  nothing : later ≡ before → Stopped
  nothing same = record { part = []; grows = ap (λ x. x.journal) same ∙ sym (append-nil before.journal); said = inr (inr (inr refl)) }

  pub answered : (out : Answer) → ProvidesFound d over found before later out → Gains before.journal later.journal (λ part. ChainReadsSession over found part out)
  answered out h = record { part = h.part; grows = h.grows.journal; said = chain_reads over h.call.services found h.part out h.grows.fits h.call.resolves }

  pub interrupted : InterruptedFound d over found before later → Stopped
  interrupted (inl same) = nothing same
  interrupted (inr h) = record { part = h.part; grows = h.stays.journal; said = chain_begun_in over h.services None None found h.part h.stays.fits h.begins }

  pub by_profile : (old new : States) (out : Answer) → ProvidesByProfile d over old new found before later out → Gains before.journal later.journal (λ part. ReadsSession over found part out)
  by_profile old new out h = record { part = h.part; grows = h.grows.journal; said = profile_reads over h.call.services found h.part out h.grows.fits h.call.reads }

  pub profile_interrupted : (old new : States) → InterruptedProfile d over old new found before later → Stopped
  profile_interrupted old new (inl h) = nothing h.0
  profile_interrupted old new (inr h) = record { part = h.part; grows = h.stays.journal; said = profile_begun over h.services (Some old) (Some new) found h.part h.stays.fits h.begins }
