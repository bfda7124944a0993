-- A call that asks for a role of the selected profile: what is left of it.
use Rattle.std.proofs.Common.{◌≡◌, List, [], ◌∷◌, ◌++◌, length, drop, Option, Some, None, Ok, Err, inl, inr, refl, sym, ◌∙◌, ap, subst, append_assoc, append-nil}
use denote.Hole.Carrier as carrier
use Rattle.cfg_types.specs.Keys.{Keys}
use Rattle.cfg_types.specs.declared.errors.CredentialsError as errors
use Rattle.cfg_types.specs.declared.errors.CredentialsError.{CredentialsError}
use Rattle.cfg_types.specs.declared.errors.ProviderAttempt.{ProviderAttempt}
use Rattle.cfg_types.specs.declared.settings.CallSettings.{CallSettings}
use Rattle.cfg_world.specs.declared.ask.Question.{Question}
use Rattle.cfg_world.specs.Fits.{Pair}
use Rattle.cfg_world.specs.Inquiry as low
use Rattle.cfg_world.specs.Inquiry.{Inquiry, Done, Ask}
use Rattle.cfg_world.specs.Leaves.{assuming}
use Rattle.cfg_world.proofs.Inquiries.{split_after}
use Rattle.cfg_kept.specs.Chains.{chain, passed, attempt, go_on}
use Rattle.cfg_kept.specs.Kinds.{Value, States}
use Rattle.cfg_kept.specs.KeptInquiry.{KeptInquiry, Gives, Runs, Asks, Begins, lift, onwards, onwards_if_ok}
use Rattle.cfg_kept.proofs.Beginnings.{begins_splits}
use Rattle.cfg_kept.proofs.Trees.{runs_then, asks_then, asks_first, lift_runs, lift_asks}
use Rattle.cfg_profile.specs.declared.chain.ProfileChain.{ProfileChain}
use Rattle.cfg_profile.specs.declared.chain.RoleArn.{RoleArn}
use Rattle.cfg_profile.specs.Settings.{settings_of}
use Rattle.cfg_providers.specs.AssumeRole.{role_session, in_role, exchange, assumes, assumes_roles}
use Rattle.cfg_providers.specs.CustomSources.{Answer}
use Rattle.cfg_providers.specs.SessionNames.{session_name}
use Rattle.cfg_chain.specs.declared.member.Member.{Member}
use Rattle.cfg_chain.specs.declared.member.Member.TheVariants.{Environment, Profile, WebIdentityToken, EcsContainer, Ec2InstanceMetadata}
use Rattle.cfg_chain.specs.Askers.{IsAskedBy}
use Rattle.cfg_chain.specs.Members.{credentials_chain, default_chain, default_members, member_tree}
use Rattle.cfg_chain.specs.Settings.{Setting, names_of}
use Rattle.cfg_chain.specs.profile.Bases.{based}
use Rattle.cfg_chain.specs.profile.Plans.{plan}
use Rattle.cfg_chain.specs.profile.Profiles.{marked, assumed, follows_planned, follows_plan, profile}
use Rattle.cfg_run.specs.Roles.{signer_in, roles_in, asked_before, marked_roles}
use Rattle.cfg_run.proofs.NeverForRole.{NeverForRole, begins_without, runs_without, none_there, is_behind}
use Rattle.cfg_run.proofs.BasesWithoutRoles.{based_without}
use Rattle.cfg_run.proofs.RoleParts.{rest_of, done_reads, begun_unmarked, begun_marked, leads_marked}

-- ---- a tree that asks alone

begins_lowered : {R : Type 0} (p : Inquiry R) (old new : Option States) (found : List Value) (journal : List Pair) → Begins (lift p) old found journal new → (found ≡ []) × (old ≡ new) × low.Begun p journal
begins_lowered (Done r) old new [] [] h = (refl, h, tt)
begins_lowered (Done r) old new [] (e ∷ journal) h = absurd h
begins_lowered (Done r) old new (f ∷ found) journal h = absurd h
begins_lowered (Ask q next) old new [] [] h = (refl, h, tt)
begins_lowered (Ask q next) old new (f ∷ found) [] h = absurd h
begins_lowered (Ask q next) old new found (e ∷ journal) h = let r = begins_lowered (next e.1) old new found journal h.1 in (r.0, r.1, (h.0, r.2))

gives_nothing : {R X : Type 0} (r : R) (old new : Option States) (found : List Value) (front : List Pair) (e : Pair) (behind : List Pair) → Begins (Gives r) old found (front ++ e ∷ behind) new → X
gives_nothing r old new [] [] e behind h = absurd h
gives_nothing r old new [] (d ∷ front) e behind h = absurd h
gives_nothing r old new (f ∷ found) [] e behind h = absurd h
gives_nothing r old new (f ∷ found) (d ∷ front) e behind h = absurd h

-- ---- the profile

module _ (s : Setting) (p : ProfileChain) (planned : plan s.configuration (names_of s.sources) ≡ Ok p) where
  -- What is left of the profile's tree at an entry for a role.
  pub record LeftOfProfile (old new : Option States) (found : List Value) (front : List Pair) (e : Pair) (behind : List Pair) (signer : Keys) : Type 0 where
    pub role : RoleArn
    pub more : List RoleArn
    pub there : drop (roles_in front) p.roles ≡ role ∷ more
    pub before : List Pair
    pub asked : List Pair
    pub parts : front ≡ before ++ asked
    pub few : length asked ≡ asked_before role.session_name
    pub begun : low.Begun (marked_roles (settings_of s.configuration) (role ∷ more) signer) (asked ++ e ∷ behind)
    pub runs : (out : Answer) → low.Reads (marked_roles (settings_of s.configuration) (role ∷ more) signer) (asked ++ e ∷ behind) out → Runs (profile s) old found (front ++ e ∷ behind) out new
    pub asks : (q : Question) → low.AsksNext (marked_roles (settings_of s.configuration) (role ∷ more) signer) (asked ++ e ∷ behind) q → Asks (profile s) old found (front ++ e ∷ behind) q new

  is_planned : follows_plan s (Ok p) ≡ profile s
  unfolding profile
  is_planned = ap (follows_plan s) (sym planned)

  abbrev next : Keys → KeptInquiry Answer
  next keys = lift (marked_roles (settings_of s.configuration) p.roles keys)

  abbrev tree : KeptInquiry Answer
  tree = onwards (based s p.base) (onwards_if_ok next)

  is_tree : tree ≡ follows_planned s p
  unfolding follows_planned assumed
  is_tree = refl

  is_profile : tree ≡ profile s
  is_profile = is_tree ∙ is_planned

  module _ (old new : Option States) (found : List Value) (front : List Pair) (e : Pair) (behind : List Pair) (signer : Keys) (is : signer_in e.0 ≡ Some signer) where
    behind_base : (outcome : Answer) (middle : Option States) (found_before found_behind : List Value) (part rest : List Pair) → found ≡ found_before ++ found_behind → front ++ e ∷ behind ≡ part ++ rest →
        Runs (based s p.base) old found_before part outcome middle → Begins (onwards_if_ok next outcome) middle found_behind rest new → LeftOfProfile old new found front e behind signer
    behind_base (Err f) middle found_before found_behind part rest finds parts runs begins =
        let w = is_behind part rest front e behind signer is (runs_without (based s p.base) old middle found_before part (Err f) (based_without s p.base) runs) parts in
        gives_nothing {R = Answer} (Err f) middle new found_behind w.middle e behind (subst (λ j. Begins {R = Answer} (Gives (Err f)) middle found_behind j new) w.left begins)
    behind_base (Ok keys) middle found_before found_behind part rest finds parts runs begins =
        let settings = settings_of s.configuration in
        let w = is_behind part rest front e behind signer is (runs_without (based s p.base) old middle found_before part (Ok keys) (based_without s p.base) runs) parts in
        let low_begins = begins_lowered (marked_roles settings p.roles keys) middle new found_behind rest begins in
        let begun = begun_unmarked settings p.roles keys (w.middle ++ e ∷ behind) (subst (λ j. low.Begun (marked_roles settings p.roles keys) j) w.left low_begins.2) in
        let r = rest_of settings e behind signer is p.roles keys w.middle begun in
        let leads = leads_marked settings p.roles (r.role ∷ r.more) keys signer (w.middle ++ e ∷ behind) (r.asked ++ e ∷ behind) r.leads in
        let finds_all : found_before ++ [] ≡ found = ap (λ t. found_before ++ t) (sym low_begins.0) ∙ sym finds in
        let parts_all : part ++ (w.middle ++ e ∷ behind) ≡ front ++ e ∷ behind = ap (λ t. part ++ t) (sym w.left) ∙ sym parts in
        record {
          role = r.role;
          more = r.more;
          there = subst (λ n. drop n p.roles ≡ r.role ∷ r.more) (sym w.number) r.there;
          before = part ++ r.before;
          asked = r.asked;
          parts = w.before ∙ ap (λ t. part ++ t) r.parts ∙ sym (append_assoc part r.before r.asked);
          few = r.few;
          begun = begun_marked settings (r.role ∷ r.more) signer (r.asked ++ e ∷ behind) r.begun;
          runs = λ out h.
              let all = runs_then (based s p.base) (onwards_if_ok next) old middle middle found_before [] part (w.middle ++ e ∷ behind) (Ok keys) out runs
              (lift_runs (marked_roles settings p.roles keys) middle (w.middle ++ e ∷ behind) out (leads.reads out h)) in
              subst (λ t. Runs t old found (front ++ e ∷ behind) out new) is_profile
              (subst (λ k. Runs tree old found (front ++ e ∷ behind) out k) low_begins.1
              (subst (λ j. Runs tree old found j out middle) parts_all (subst (λ f. Runs tree old f (part ++ (w.middle ++ e ∷ behind)) out middle) finds_all all)));
          asks = λ q h.
              let all = asks_then (based s p.base) (onwards_if_ok next) old middle middle found_before [] part (w.middle ++ e ∷ behind) (Ok keys) q runs
              (lift_asks (marked_roles settings p.roles keys) middle (w.middle ++ e ∷ behind) q (leads.asks q h)) in
              subst (λ t. Asks t old found (front ++ e ∷ behind) q new) is_profile
              (subst (λ k. Asks tree old found (front ++ e ∷ behind) q k) low_begins.1
              (subst (λ j. Asks tree old found j q middle) parts_all (subst (λ f. Asks tree old f (part ++ (w.middle ++ e ∷ behind)) q middle) finds_all all)));
        }

    pub left_of_profile : Begins (profile s) old found (front ++ e ∷ behind) new → LeftOfProfile old new found front e behind signer
    left_of_profile h =
        let begins = subst (λ t. Begins t old found (front ++ e ∷ behind) new) (sym is_profile) h in
        elim (begins_splits (based s p.base) (onwards_if_ok next) old new found (front ++ e ∷ behind) begins) [
          | inl b ↦ none_there front e behind signer is (begins_without (based s p.base) old new found (front ++ e ∷ behind) (based_without s p.base) b)
          | inr b ↦ behind_base b.outcome b.middle b.found_before b.found_behind b.part b.rest b.finds b.parts b.runs b.begins
        ]

-- ---- the answer of roles is the chain's

module _ (s : Setting) where
  abbrev Stays : Answer → Type 0
  Stays out = passed (credentials_chain s) out ≡ None

  in_role_stays : (out : Answer) → Stays (in_role out)
  unfolding errors.out-CredentialsError carrier.out
  in_role_stays (Ok keys) = refl
  in_role_stays (Err e) = refl

  exchange_stays : (settings : CallSettings) (role : RoleArn) (keys : Keys) (name : List _) (journal : List Pair) (out : Answer) → low.Reads (exchange settings role keys name) journal out → Stays out
  unfolding assuming
  exchange_stays settings role keys name [] out h = absurd h
  exchange_stays settings role keys name (e ∷ []) out h = subst Stays h.1 (in_role_stays _)
  exchange_stays settings role keys name (e ∷ d ∷ journal) out h = absurd h.1

  assumes_stays : (settings : CallSettings) (role : RoleArn) (keys : Keys) (journal : List Pair) (out : Answer) → low.Reads (assumes settings keys role) journal out → Stays out
  unfolding assumes
  assumes_stays settings role keys journal out h =
      let r = split_after (session_name role_session role.session_name) (exchange settings role keys) journal out h in
      exchange_stays settings role keys r.middle r.rest out r.then

  error_stays : (settings : CallSettings) (roles : List RoleArn) (r : Answer) (journal : List Pair) (out : Answer) → Stays r →
      ((keys : Keys) (journal : List Pair) (out : Answer) → low.Reads (assumes_roles settings roles keys) journal out → Stays out) → low.Reads (low.if_ok (assumes_roles settings roles) r) journal out → Stays out
  error_stays settings roles (Ok keys) journal out stays on h = on keys journal out h
  error_stays settings roles (Err e) [] out stays on h = subst Stays h stays
  error_stays settings roles (Err e) (d ∷ journal) out stays on h = absurd h

  roles_stay : (settings : CallSettings) (roles : List RoleArn) (keys : Keys) (journal : List Pair) (out : Answer) → low.Reads (assumes_roles settings roles keys) journal out → Stays out
  unfolding assumes_roles
  roles_stay settings [] keys [] out h = subst Stays h refl
  roles_stay settings [] keys (e ∷ journal) out h = absurd h
  roles_stay settings (role ∷ roles) keys journal out h =
      let r = split_after (assumes settings keys role) (low.if_ok (assumes_roles settings roles)) journal out h in
      error_stays settings roles r.middle r.rest out (assumes_stays settings role keys r.part r.middle r.first) (roles_stay settings roles) r.then

  marked_stays : (out : Answer) → Stays out → Stays (marked out)
  unfolding marked
  marked_stays (Ok keys) h = refl
  marked_stays (Err e) h = h

  pub answer_stays : (settings : CallSettings) (roles : List RoleArn) (keys : Keys) (journal : List Pair) (out : Answer) → low.Reads (marked_roles settings roles keys) journal out → Stays out
  answer_stays settings roles keys journal out h =
      let r = done_reads (assumes_roles settings roles keys) marked journal out h in
      subst Stays r.2 (marked_stays r.0 (roles_stay settings roles keys journal r.0 r.1))

-- ---- the chain

abbrev behind_profile : List Member
behind_profile = WebIdentityToken ∷ EcsContainer ∷ Ec2InstanceMetadata ∷ []

module _ (s : Setting) (old middle new : Option States) (found_first found_then : List Value) (part rest : List Pair) (given : Answer) (error : CredentialsError)
    (first : Runs (member_tree s Environment) old found_first part given middle) (passes : passed (credentials_chain s) given ≡ Some error) where
  abbrev attempts : List (ProviderAttempt CredentialsError)
  attempts = [] ++ attempt (credentials_chain s) Environment error ∷ []

  abbrev others : Answer → KeptInquiry Answer
  others out = go_on (credentials_chain s) (chain (credentials_chain s) behind_profile) Profile attempts out (passed (credentials_chain s) out)

  abbrev from_profile : KeptInquiry Answer
  from_profile = onwards (member_tree s Profile) others

  abbrev from_environment : Answer → KeptInquiry Answer
  from_environment out = go_on (credentials_chain s) (chain (credentials_chain s) (Profile ∷ behind_profile)) Environment [] out (passed (credentials_chain s) out)

  is_chain : onwards (member_tree s Environment) from_environment ≡ default_chain s
  unfolding chain
  is_chain = refl

  is_passed : from_profile ≡ from_environment given
  unfolding chain
  is_passed = ap (go_on (credentials_chain s) (chain (credentials_chain s) (Profile ∷ behind_profile)) Environment [] given) (sym passes)

  profile_runs : (out : Answer) → Runs (profile s) middle found_then rest out new → passed (credentials_chain s) out ≡ None → Runs from_profile middle found_then rest out new
  unfolding member_tree
  profile_runs out h stays =
      let gives : Runs (others out) new [] [] out new = subst (λ o. Runs (go_on (credentials_chain s) (chain (credentials_chain s) behind_profile) Profile attempts out o) new [] [] out new) (sym stays) (refl, refl) in
      subst (λ j. Runs from_profile middle found_then j out new) (append-nil rest)
      (subst (λ f. Runs from_profile middle f (rest ++ []) out new) (append-nil found_then) (runs_then (profile s) others middle new new found_then [] rest [] out out h gives))

  profile_asks : (q : Question) → Asks (profile s) middle found_then rest q new → Asks from_profile middle found_then rest q new
  unfolding member_tree
  profile_asks q h = asks_first (profile s) others middle new found_then rest q h

  pub chain_runs : (out : Answer) → Runs (profile s) middle found_then rest out new → passed (credentials_chain s) out ≡ None → Runs (default_chain s) old (found_first ++ found_then) (part ++ rest) out new
  chain_runs out h stays =
      subst (λ t. Runs t old (found_first ++ found_then) (part ++ rest) out new) is_chain
      (runs_then (member_tree s Environment) from_environment old middle new found_first found_then part rest given out first
      (subst (λ t. Runs t middle found_then rest out new) is_passed (profile_runs out h stays)))

  pub chain_asks : (q : Question) → Asks (profile s) middle found_then rest q new → Asks (default_chain s) old (found_first ++ found_then) (part ++ rest) q new
  chain_asks q h =
      subst (λ t. Asks t old (found_first ++ found_then) (part ++ rest) q new) is_chain
      (asks_then (member_tree s Environment) from_environment old middle new found_first found_then part rest given q first
      (subst (λ t. Asks t middle found_then rest q new) is_passed (profile_asks q h)))

  pub profile_asker : (q : Question) → Asks (profile s) middle found_then rest q new → IsAskedBy (credentials_chain s) default_members old (found_first ++ found_then) (part ++ rest) (Some Profile) q new
  unfolding member_tree
  profile_asker q h = inl (found_first, found_then, part, rest, middle, given, error, refl, refl, first, passes, inr (refl, h))

pub environment_without : (s : Setting) → NeverForRole (member_tree s Environment)
unfolding member_tree
environment_without s = tt
