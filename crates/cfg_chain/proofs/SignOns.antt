-- What a call asks IAM Identity Center for.
use Rattle.std.proofs.Common.{◌≡◌, ◌⊎◌, inl, inr, List, [], ◌∷◌, ◌++◌, Option, Some, None, Ok, Err, sym, ap, ◌∙◌, subst, append-nil, append_assoc}
use Rattle.cfg_types.specs.Keys.{Keys}
use Rattle.cfg_types.specs.declared.errors.CredentialsError.{CredentialsError}
use Rattle.cfg_types.specs.declared.errors.ProviderAttempt.{ProviderAttempt}
use Rattle.cfg_world.specs.declared.devices.Devices.{Ghosts}
use Rattle.cfg_world.specs.Fits.{Pair}
use Rattle.cfg_world.specs.Held.{Held}
use Rattle.cfg_world.specs.Gains.{Gains}
use Rattle.cfg_kept.specs.Chains.{passed, go_on, chain}
use Rattle.cfg_kept.specs.Kinds.{Value, States}
use Rattle.cfg_kept.specs.KeptInquiry.{KeptInquiry, Gives, Begins, lift, onwards, onwards_if_ok}
use Rattle.cfg_kept.proofs.Beginnings.{begins_splits}
use Rattle.cfg_kept.proofs.Told.{run_begins}
use Rattle.cfg_profile.specs.declared.chain.BaseProvider.{BaseProvider}
use Rattle.cfg_profile.specs.declared.chain.BaseProvider.TheVariants as base
use Rattle.cfg_profile.specs.Configuration.{Configuration}
use Rattle.cfg_providers.specs.CustomSources.{Answer}
use Rattle.cfg_providers.specs.EnvironmentKeys.{environment}
use Rattle.cfg_providers.specs.WebIdentities.{no_policies}
use Rattle.cfg_sso.specs.declared.config.SsoProviderConfig.{SsoProviderConfig}
use Rattle.cfg_sso.specs.RoleRequests.{AsksNoRole}
use Rattle.cfg_sso.specs.SsoCredentials.{sso_credentials}
use Rattle.cfg_sso.proofs.BegunRequests.{begun_sends}
use Rattle.cfg_sso.proofs.NoRoleAsked.{NeverAsks, begins_without, onwards_without, if_ok_without}
use Rattle.cfg_chain.specs.declared.member.Member.{Member}
use Rattle.cfg_chain.specs.declared.member.Member.TheVariants.{Environment, Profile, WebIdentityToken, EcsContainer, Ec2InstanceMetadata}
use Rattle.cfg_chain.specs.Settings.{Setting, ChainSetting, Services, container_settings, chain_metadata, names_of, setting}
use Rattle.cfg_chain.specs.Members.{member_tree, credentials_chain, default_chain}
use Rattle.cfg_chain.specs.BegunCalls.{IsBegunCall}
use Rattle.cfg_chain.specs.Provides.{IsCall}
use Rattle.cfg_chain.specs.SharedCalls.{ProvidesFound, InterruptedFound}
use Rattle.cfg_chain.specs.SignOns.{IsSignOn, PlansSignOn, AsksOnce, SignsOn}
use Rattle.cfg_chain.specs.profile.Provides.{ProvidesByProfile, InterruptedProfile}
use Rattle.cfg_chain.specs.profile.Plans.{Planned, plan}
use Rattle.cfg_chain.specs.profile.Bases.{base_tree, in_base, based}
use Rattle.cfg_chain.specs.profile.Profiles.{assumed, follows_planned, follows_plan, profile}
use Rattle.cfg_chain.proofs.MemberCauses.{reads_resolved}
use Rattle.cfg_chain.proofs.OtherBases.{planned_kind}
use Rattle.cfg_chain.proofs.WithoutRoles.{last_role_without, web_identity_without, container_without, metadata_without}

abbrev Attempts : Type 0
Attempts = List (ProviderAttempt CredentialsError)

pub none_then : (one other : List Pair) → AsksNoRole one → AsksNoRole other → AsksNoRole (one ++ other)
none_then [] other h k = k
none_then (e ∷ one) other h k = (h.0, none_then one other h.1 k)

module _ (conf : Configuration) (sso : SsoProviderConfig) where
  abbrev Asks : List Value → List Pair → Type 0
  Asks found journal = AsksOnce conf sso found journal ⊎ AsksNoRole journal

  -- each beginning of the tree asks for the role's credentials once, or not at all
  abbrev AsksInTree : {R : Type 0} → KeptInquiry R → Type 0
  AsksInTree tree = (old new : Option States) (found : List Value) (journal : List Pair) → Begins tree old found journal new → Asks found journal

  none_asks : {R : Type 0} (tree : KeptInquiry R) → NeverAsks tree → AsksInTree tree
  none_asks tree n old new found journal h = inr (begins_without tree old new found journal n h)

  extended : (found first then : List Value) (journal part rest : List Pair) → found ≡ first ++ then → journal ≡ part ++ rest → Asks first part → AsksNoRole rest → Asks found journal
  extended found first then journal part rest finds parts (inr none) h = inr (subst AsksNoRole (sym parts) (none_then part rest none h))
  extended found first then journal part rest finds parts (inl once) h = inl (record {
    found_first = once.found_first;
    found_then = once.found_then ++ then;
    part = once.part;
    rest = once.rest ++ rest;
    finds = finds ∙ ap (λ t. t ++ then) once.finds ∙ append_assoc once.found_first once.found_then then;
    parts = parts ∙ ap (λ t. t ++ rest) once.parts ∙ append_assoc once.part once.rest rest;
    sends = once.sends;
    alone = none_then once.rest rest once.alone h;
  })

  -- nothing behind a tree asks for them
  then_none : {A B : Type 0} (tree : KeptInquiry A) (f : A → KeptInquiry B) → AsksInTree tree → ((x : A) → NeverAsks (f x)) → AsksInTree (onwards tree f)
  then_none tree f asks none old new found journal h = elim (begins_splits tree f old new found journal h) [
    | inl b ↦ asks old new found journal b
    | inr r ↦
        extended found r.found_before r.found_behind journal r.part r.rest r.finds r.parts
        (asks old r.middle r.found_before r.part (run_begins tree old r.middle r.found_before r.part r.outcome r.runs))
        (begins_without (f r.outcome) r.middle new r.found_behind r.rest (none r.outcome) r.begins)
  ]

  sso_asks : AsksInTree (sso_credentials conf sso)
  sso_asks old new found journal h = elim (begun_sends conf sso old new found journal h) [
    | inl once ↦ inl (record {
      found_first = found;
      found_then = [];
      part = journal;
      rest = [];
      finds = sym (append-nil found);
      parts = sym (append-nil journal);
      sends = once;
      alone = tt;
    })
    | inr none ↦ inr none
  ]

-- ---- the members that ask for none

module _ (s : Setting) where
  abbrev on : List Member → Member → Attempts → Answer → KeptInquiry Answer
  on members member attempts out = go_on (credentials_chain s) (chain (credentials_chain s) members) member attempts out (passed (credentials_chain s) out)

  on_without : (members : List Member) (member : Member) (attempts : Attempts) (out : Answer) (o : Option CredentialsError) → ((more : Attempts) → NeverAsks (chain (credentials_chain s) members more)) →
      NeverAsks (go_on (credentials_chain s) (chain (credentials_chain s) members) member attempts out o)
  on_without members member attempts out (Some e) others = others _
  on_without members member attempts out None others = tt

  one_without : (member : Member) (members : List Member) (attempts : Attempts) → NeverAsks (member_tree s member) → ((more : Attempts) → NeverAsks (chain (credentials_chain s) members more)) →
      NeverAsks (chain (credentials_chain s) (member ∷ members) attempts)
  unfolding chain
  one_without member members attempts n others =
      onwards_without (member_tree s member) (on members member attempts) n (λ out. on_without members member attempts out (passed (credentials_chain s) out) others)

  end_without : (attempts : Attempts) → NeverAsks (chain (credentials_chain s) [] attempts)
  unfolding chain
  end_without attempts = tt

  identity_without : NeverAsks (member_tree s WebIdentityToken)
  unfolding member_tree
  identity_without = web_identity_without s.configuration None no_policies

  ecs_without : NeverAsks (member_tree s EcsContainer)
  unfolding member_tree
  ecs_without = container_without s.configuration.environment (container_settings s.configuration) s.container

  ec2_without : NeverAsks (member_tree s Ec2InstanceMetadata)
  unfolding member_tree
  ec2_without = metadata_without (chain_metadata s)

  abbrev behind_profile : List Member
  behind_profile = WebIdentityToken ∷ EcsContainer ∷ Ec2InstanceMetadata ∷ []

  rest_without : (attempts : Attempts) → NeverAsks (chain (credentials_chain s) behind_profile attempts)
  rest_without attempts =
      one_without WebIdentityToken (EcsContainer ∷ Ec2InstanceMetadata ∷ []) attempts identity_without (λ more.
      one_without EcsContainer (Ec2InstanceMetadata ∷ []) more ecs_without (λ most. one_without Ec2InstanceMetadata [] most ec2_without end_without))

  environment_without : NeverAsks (member_tree s Environment)
  unfolding member_tree
  environment_without = tt

  profile_without : NeverAsks (profile s) → NeverAsks (member_tree s Profile)
  unfolding member_tree
  profile_without n = n

  chain_without : NeverAsks (profile s) → NeverAsks (default_chain s)
  chain_without n =
      one_without Environment (Profile ∷ behind_profile) [] environment_without (λ more. one_without Profile behind_profile more (profile_without n) rest_without)

-- ---- a plan that begins with a role

module _ (s : Setting) (sso : SsoProviderConfig) where
  abbrev InTree : {R : Type 0} → KeptInquiry R → Type 0
  InTree tree = AsksInTree s.configuration sso tree

  base_asks : (b : BaseProvider) → IsSignOn b sso → InTree (base_tree s b)
  unfolding base_tree
  base_asks (base.Sso session region url (Some account) (Some role)) is = subst (λ x. InTree (sso_credentials s.configuration x)) is (sso_asks s.configuration sso)
  base_asks (base.Sso session region url (Some account) None) is = absurd is
  base_asks (base.Sso session region url None role) is = absurd is
  base_asks (base.AccessKey keys) is = absurd is
  base_asks (base.NamedSource name) is = absurd is
  base_asks (base.WebIdentityTokenRole arn file session) is = absurd is
  base_asks (base.CredentialProcess command account) is = absurd is
  base_asks (base.LoginSession session) is = absurd is

  planned_asks : (planned : Planned) → PlansSignOn planned sso → InTree (follows_plan s planned)
  unfolding follows_planned based
  planned_asks (Err e) is = absurd is
  planned_asks (Ok p) is =
      let next : Keys → KeptInquiry Answer = λ keys. lift (assumed s.configuration p.roles keys) in
      then_none s.configuration sso (based s p.base) (onwards_if_ok next)
      (then_none s.configuration sso (base_tree s p.base) (λ given. Gives (in_base given)) (base_asks p.base is) (λ given. tt))
      (λ given. if_ok_without next given (last_role_without s.configuration p.roles))

  module _ (plans : PlansSignOn (plan s.configuration (names_of s.sources)) sso) where
    profile_asks : InTree (profile s)
    unfolding profile
    profile_asks = planned_asks (plan s.configuration (names_of s.sources)) plans

    member_asks : InTree (member_tree s Profile)
    unfolding member_tree
    member_asks = profile_asks

    from_profile : (attempts : Attempts) → InTree (chain (credentials_chain s) (Profile ∷ behind_profile s) attempts)
    unfolding chain
    from_profile attempts =
        then_none s.configuration sso (member_tree s Profile) (on s (behind_profile s) Profile attempts) member_asks
        (λ out. on_without s (behind_profile s) Profile attempts out (passed (credentials_chain s) out) (rest_without s))

    behind_environment : (attempts : Attempts) (out : Answer) (o : Option CredentialsError) →
        InTree (go_on (credentials_chain s) (chain (credentials_chain s) (Profile ∷ behind_profile s)) Environment attempts out o)
    behind_environment attempts out (Some e) = from_profile _
    behind_environment attempts out None = none_asks s.configuration sso (Gives out) tt

    chain_asks : InTree (default_chain s)
    unfolding chain member_tree
    chain_asks =
        let out = environment s.configuration.environment in
        behind_environment [] out (passed (credentials_chain s) out)

-- ---- what a call has sent, so far

kind : (s : Setting) → NeverAsks (profile s) ⊎ ((sso : SsoProviderConfig) × PlansSignOn (plan s.configuration (names_of s.sources)) sso)
unfolding profile
kind s = planned_kind s (plan s.configuration (names_of s.sources))

of_role : (over : ChainSetting) (sso : SsoProviderConfig) (found : List Value) (journal : List Pair) → PlansSignOn (plan over.configuration (names_of over.sources)) sso → Asks over.configuration sso found journal →
    SignsOn over found journal
of_role over sso found journal plans (inl once) = inl (record { sso = sso; plans = plans; asks = once })
of_role over sso found journal plans (inr none) = inr none

-- nothing behind a part asks for a role's credentials
pub signs_then : (over : ChainSetting) (found first then : List Value) (journal part rest : List Pair) → found ≡ first ++ then → journal ≡ part ++ rest → SignsOn over first part → AsksNoRole rest → SignsOn over found journal
signs_then over found first then journal part rest finds parts (inl a) h =
    of_role over a.sso found journal a.plans (extended over.configuration a.sso found first then journal part rest finds parts (inl a.asks) h)
signs_then over found first then journal part rest finds parts (inr none) h = inr (subst AsksNoRole (sym parts) (none_then part rest none h))

module _ (over : ChainSetting) (services : Services) (old new : Option States) (found : List Value) (journal : List Pair) where
  pub profile_signs : Begins (profile (setting over services)) old found journal new → SignsOn over found journal
  profile_signs h =
      let s = setting over services in
      elim (kind s) [
        | inl n ↦ inr (begins_without (profile s) old new found journal n h)
        | inr k ↦ of_role over k.0 found journal k.1 (profile_asks s k.0 k.1 old new found journal h)
      ]

  pub chain_signs : Begins (default_chain (setting over services)) old found journal new → SignsOn over found journal
  chain_signs h =
      let s = setting over services in
      elim (kind s) [
        | inl n ↦ inr (begins_without (default_chain s) old new found journal (chain_without s n) h)
        | inr k ↦ of_role over k.0 found journal k.1 (chain_asks s k.0 k.1 old new found journal h)
      ]

-- ---- a call

module _ (over : ChainSetting) (old new : States) (found : List Value) (part : List Pair) where
  pub begun : IsBegunCall over old new found part → SignsOn over found part
  begun h = chain_signs over h.services (Some old) (Some new) found part h.begins

  pub ended : (out : Answer) → IsCall over old new found part out → SignsOn over found part
  ended out h =
      let s = setting over h.services in
      chain_signs over h.services None None found part (run_begins (default_chain s) None None found part out (reads_resolved s found part out h.resolves))

module _ {D : Type 0} (d : Ghosts D) (over : ChainSetting) (found : List Value) (before later : Held D) where
  abbrev Signs : Type 0
  Signs = Gains before.journal later.journal (SignsOn over found)

  nothing : later ≡ before → Signs
  nothing same = record { part = []; grows = ap (λ x. x.journal) same ∙ sym (append-nil before.journal); said = inr tt }

  pub answered : (out : Answer) → ProvidesFound d over found before later out → Signs
  answered out h =
      let call = h.call in
      let s = setting over call.services in
      record {
        part = h.part;
        grows = h.grows.journal;
        said = chain_signs over call.services None None found h.part (run_begins (default_chain s) None None found h.part out (reads_resolved s found h.part out call.resolves));
      }

  pub interrupted : InterruptedFound d over found before later → Signs
  interrupted (inl same) = nothing same
  interrupted (inr h) = record { part = h.part; grows = h.stays.journal; said = chain_signs over h.services None None found h.part h.begins }

  pub by_profile : (old new : States) (out : Answer) → ProvidesByProfile d over old new found before later out → Signs
  by_profile old new out h =
      let s = setting over h.call.services in
      record {
        part = h.part;
        grows = h.grows.journal;
        said = profile_signs over h.call.services None None found h.part (run_begins (profile s) None None found h.part out h.call.reads);
      }

  pub profile_interrupted : (old new : States) → InterruptedProfile d over old new found before later → Signs
  profile_interrupted old new (inl h) = nothing h.0
  profile_interrupted old new (inr h) = record { part = h.part; grows = h.stays.journal; said = profile_signs over h.services (Some old) (Some new) found h.part h.begins }
