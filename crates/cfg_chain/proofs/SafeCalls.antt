-- Where the `Http` requests of a call go.
use Rattle.std.proofs.Common.{◌≡◌, inl, inr, ℕ, List, [], ◌∷◌, Bool, true, false, Option, Some, None, Ok, Err, refl, sym, ap, subst}
use Rattle.std.specs.Prelude.{codes, if◌then◌else◌}
use Rattle.cfg_types.specs.Classes.{is_not_loaded_answer}
use Rattle.cfg_types.specs.Keys.{Keys}
use Rattle.cfg_types.specs.declared.errors.CredentialsError.{CredentialsError}
use Rattle.cfg_types.specs.declared.errors.ProviderAttempt.{ProviderAttempt}
use Rattle.cfg_world.specs.declared.devices.Devices.{Ghosts}
use Rattle.cfg_world.specs.Fits.{Pair}
use Rattle.cfg_world.specs.Held.{Held}
use Rattle.cfg_world.specs.Inquiry.{Inquiry}
use Rattle.cfg_world.specs.Gains.{Gains}
use Rattle.cfg_exchange.specs.Containers.{IsContainerUri}
use Rattle.cfg_exchange.specs.SafeJournals.{AsksNoHttp, AsksSafely}
use Rattle.cfg_world.proofs.Gains.{grew_by_nothing}
use Rattle.cfg_exchange.proofs.NoHttp.{NeverAsksHttp}
use Rattle.cfg_exchange.proofs.SafeJournals.{none_then, part_safely, safely_behind, safely_before, unset_without}
use Rattle.cfg_imds_credentials.specs.Metadata.{metadata}
use Rattle.cfg_imds_credentials.proofs.NoHttp.{NeverPutsHttp, begins_without, lift_without, if_ok_without, metadata_without}
use Rattle.cfg_kept.specs.Chains.{passed}
use Rattle.cfg_kept.specs.ChainParts.{MemberReads, AreParts, AreBegunParts}
use Rattle.cfg_kept.specs.Kinds.{Value, States}
use Rattle.cfg_kept.specs.KeptInquiry.{KeptInquiry, Gives, Begins, Reads, lift, onwards, onwards_if_ok}
use Rattle.cfg_kept.proofs.Beginnings.{begins_splits}
use Rattle.cfg_kept.proofs.CallParts.{read_of_run}
use Rattle.cfg_kept.proofs.ChainParts.{chain_parts, chain_begun}
use Rattle.cfg_kept.proofs.Told.{run_begins}
use Rattle.cfg_login.specs.declared.asked_by.AskedBy.TheVariants as by
use Rattle.cfg_login.specs.SignIns.{sign_in_credentials}
use Rattle.cfg_profile.specs.declared.chain.BaseProvider.{BaseProvider}
use Rattle.cfg_profile.specs.declared.chain.BaseProvider.TheVariants as base
use Rattle.cfg_profile.specs.NamedSources.{is_alike}
use Rattle.cfg_providers.specs.declared.web_identity_token.WebIdentity.{WebIdentity}
use Rattle.cfg_providers.specs.CustomSources.{Answer, last_named}
use Rattle.cfg_providers.specs.EnvironmentKeys.{by_environment}
use Rattle.cfg_providers.specs.Processes.{credential_process}
use Rattle.cfg_providers.specs.WebIdentities.{no_policies, assumes_by_web_identity, web_identity}
use Rattle.cfg_providers.proofs.NoHttp.{process_without, identity_without, web_identity_without}
use Rattle.cfg_sso.specs.SsoCredentials.{sso_credentials}
use Rattle.cfg_chain.specs.declared.member.Member.{Member}
use Rattle.cfg_chain.specs.declared.member.Member.TheVariants.{Environment, Profile, WebIdentityToken, EcsContainer, Ec2InstanceMetadata}
use Rattle.cfg_chain.specs.Settings.{Setting, ChainSetting, container_settings, chain_metadata, named_metadata, names_of, setting}
use Rattle.cfg_chain.specs.Members.{member_tree, credentials_chain, default_members, default_chain}
use Rattle.cfg_meta.specs.CredentialsAnswers.{is_not_loaded}
use Rattle.cfg_chain.specs.SharedCalls.{ProvidesFound, InterruptedFound}
use Rattle.cfg_chain.specs.SafeCalls.{ChainAsksSafely}
use Rattle.cfg_chain.specs.BegunCalls.{IsBegunCall}
use Rattle.cfg_chain.specs.Provides.{IsCall}
use Rattle.cfg_chain.specs.profile.Bases.{by_container, unknown_source, without_role, built_in_source, source_or, named_source, profile_session, signed_on, base_tree, in_base, based}
use Rattle.cfg_chain.specs.profile.Plans.{Planned, plan, refusal}
use Rattle.cfg_chain.specs.profile.Profiles.{assumed, follows_planned, follows_plan, profile}
use Rattle.cfg_chain.specs.profile.Provides.{ProvidesByProfile, InterruptedProfile}
use Rattle.cfg_chain.proofs.ContainerTargets.{begun_lowered}
use Rattle.cfg_chain.proofs.MemberCauses.{reads_resolved}
use Rattle.cfg_chain.proofs.NoHttp.{sso_without, sign_in_without, assumed_without}
use Rattle.cfg_chain.proofs.PassedByTable.{by_table}

-- ---- what is passed over

is_kept : (f e : CredentialsError) (b : Bool) → (if b then Some f else None) ≡ Some e → b ≡ true
is_kept f e true h = refl
is_kept f e false h = cc

not_kept : (f : CredentialsError) (b : Bool) → (if b then Some f else None) ≡ None → b ≡ true → ⊥
not_kept f true h k = cc
not_kept f false h k = cc

passes_answer : (s : Setting) (out : Answer) (e : CredentialsError) → passed (credentials_chain s) out ≡ Some e → is_not_loaded_answer out ≡ true
passes_answer s (Ok keys) e h = cc
passes_answer s (Err f) e h = is_kept f e (is_not_loaded f) h

stays_answer : (s : Setting) (out : Answer) → passed (credentials_chain s) out ≡ None → is_not_loaded_answer out ≡ true → ⊥
stays_answer s (Ok keys) h k = cc
stays_answer s (Err f) h k = not_kept f (is_not_loaded f) h k

module _ (s : Setting) (names : IsContainerUri s.configuration.environment s.container) where
  abbrev Safely : List Pair → Type 0
  Safely journal = AsksSafely s.configuration.environment (container_settings s.configuration) journal

  -- so does each beginning of the tree
  abbrev SafelyInTree : {R : Type 0} → KeptInquiry R → Type 0
  SafelyInTree tree = (old new : Option States) (found : List Value) (journal : List Pair) → Begins tree old found journal new → Safely journal

  none_safely : {R : Type 0} (tree : KeptInquiry R) → NeverPutsHttp tree → SafelyInTree tree
  none_safely tree n old new found journal h = inr (begins_without tree old new found journal n h)

  container_safely : SafelyInTree (lift (by_container s.configuration s.container))
  container_safely old new found journal h =
      part_safely s.configuration.environment (container_settings s.configuration) s.container journal names (begun_lowered (by_container s.configuration s.container) old new found journal h)

  -- nothing behind a tree asks more
  then_none : {A B : Type 0} (tree : KeptInquiry A) (f : A → KeptInquiry B) → SafelyInTree tree → ((x : A) → NeverPutsHttp (f x)) → SafelyInTree (onwards tree f)
  then_none tree f safely none old new found journal h = elim (begins_splits tree f old new found journal h) [
    | inl b ↦ safely old new found journal b
    | inr r ↦
        subst Safely (sym r.parts)
        (safely_before s.configuration.environment (container_settings s.configuration) r.part r.rest
        (safely old r.middle r.found_before r.part (run_begins tree old r.middle r.found_before r.part r.outcome r.runs))
        (begins_without (f r.outcome) r.middle new r.found_behind r.rest (none r.outcome) r.begins))
  ]

  -- ---- the profile

  choice_safely : (b d m : Bool) (name : List ℕ) →
      SafelyInTree (if b then lift (by_environment s.configuration.environment) else (if d then lift (by_container s.configuration s.container) else (if m then metadata (named_metadata s) else Gives (unknown_source name))))
  choice_safely true d m name = none_safely (lift (by_environment s.configuration.environment)) tt
  choice_safely false true m name = container_safely
  choice_safely false false true name = none_safely (metadata (named_metadata s)) (metadata_without (named_metadata s))
  choice_safely false false false name = none_safely (Gives (unknown_source name)) tt

  source_safely : (name : List ℕ) (own : Option Answer) → SafelyInTree (source_or (built_in_source s name) own)
  unfolding built_in_source
  source_safely name (Some answer) = none_safely (Gives answer) tt
  source_safely name None = choice_safely (is_alike name (codes "Environment")) (is_alike name (codes "EcsContainer")) (is_alike name (codes "Ec2InstanceMetadata")) name

  base_safely : (b : BaseProvider) → SafelyInTree (base_tree s b)
  unfolding base_tree named_source
  base_safely (base.AccessKey keys) = none_safely {R = Answer} (Gives (Ok keys)) tt
  base_safely (base.NamedSource name) = source_safely name (last_named name s.sources)
  base_safely (base.WebIdentityTokenRole arn file session) =
      let identity : WebIdentity = record { web_identity_token_file = file; role_arn = arn; session_name = session } in
      none_safely (lift (assumes_by_web_identity s.configuration profile_session identity no_policies))
      (lift_without (assumes_by_web_identity s.configuration profile_session identity no_policies) (identity_without s.configuration no_policies profile_session identity))
  base_safely (base.CredentialProcess command account) = none_safely (lift (credential_process command account)) (lift_without (credential_process command account) (process_without command account))
  base_safely (base.Sso session region url (Some account) (Some role)) =
      let sso = signed_on session region url account role in
      none_safely (sso_credentials s.configuration sso) (sso_without s.configuration sso)
  base_safely (base.Sso session region url (Some account) None) = none_safely (Gives without_role) tt
  base_safely (base.Sso session region url None (Some role)) = none_safely (Gives without_role) tt
  base_safely (base.Sso session region url None None) = none_safely (Gives without_role) tt
  base_safely (base.LoginSession session) = none_safely (sign_in_credentials s.configuration session by.Profile) (sign_in_without s.configuration session by.Profile)

  planned_safely : (planned : Planned) → SafelyInTree (follows_plan s planned)
  unfolding follows_planned based
  planned_safely (Err e) = none_safely {R = Answer} (Gives (Err (refusal e))) tt
  planned_safely (Ok p) =
      let next : Keys → KeptInquiry Answer = λ keys. lift (assumed s.configuration p.roles keys) in
      then_none (based s p.base) (onwards_if_ok next)
      (then_none (base_tree s p.base) (λ given. Gives (in_base given)) (base_safely p.base) (λ given. tt))
      (λ given. if_ok_without next given (λ keys. lift_without (assumed s.configuration p.roles keys) (assumed_without s.configuration p.roles keys)))

  pub profile_safely : SafelyInTree (profile s)
  unfolding profile
  profile_safely = planned_safely (plan s.configuration (names_of s.sources))

  -- ---- the members

  member_safely : (member : Member) → SafelyInTree (member_tree s member)
  unfolding member_tree
  member_safely Environment = none_safely (lift (by_environment s.configuration.environment)) tt
  member_safely Profile = profile_safely
  member_safely WebIdentityToken =
      none_safely (lift (web_identity s.configuration None no_policies)) (lift_without (web_identity s.configuration None no_policies) (web_identity_without s.configuration no_policies None))
  member_safely EcsContainer = container_safely
  member_safely Ec2InstanceMetadata = none_safely (metadata (chain_metadata s)) (metadata_without (chain_metadata s))

  -- nor does one that is passed over
  passed_without : (member : Member) (found : List Value) (part : List Pair) (given : Answer) → Reads (member_tree s member) found part given → is_not_loaded_answer given ≡ true → AsksNoHttp part
  unfolding member_tree
  passed_without Environment found part given h loaded =
      begins_without (lift (by_environment s.configuration.environment)) None None found part tt (run_begins (lift (by_environment s.configuration.environment)) None None found part given h)
  passed_without Profile found part given h loaded = subst AsksNoHttp (sym ((by_table s Profile found part given names h).0 loaded).0) tt
  passed_without WebIdentityToken found part given h loaded =
      let tree = web_identity s.configuration None no_policies in
      begins_without (lift tree) None None found part (lift_without tree (web_identity_without s.configuration no_policies None)) (run_begins (lift tree) None None found part given h)
  passed_without EcsContainer found part given h loaded = unset_without s.configuration.environment part ((by_table s EcsContainer found part given names h).0 loaded)
  passed_without Ec2InstanceMetadata found part given h loaded =
      begins_without (metadata (chain_metadata s)) None None found part (metadata_without (chain_metadata s)) (run_begins (metadata (chain_metadata s)) None None found part given h)

  members_safely : (members : List Member) (old new : Option States) (found : List Value) (journal : List Pair) → AreBegunParts (credentials_chain s) members old found journal new → Safely journal
  members_safely [] old new found journal h = inr (subst AsksNoHttp (sym h.1) tt)
  members_safely (member ∷ members) old new found journal (inr h) = member_safely member old new found journal h
  members_safely (member ∷ members) old new found journal (inl h) =
      let reads = read_of_run (member_tree s member) old h.4 h.0 h.2 h.5 h.9 in
      subst Safely (sym h.8)
      (safely_behind s.configuration.environment (container_settings s.configuration) h.2 h.3
      (passed_without member h.0 h.2 h.5 reads (passes_answer s h.5 h.6 h.10)) (members_safely members h.4 new h.1 h.3 h.11))

  pub chain_safely : SafelyInTree (default_chain s)
  chain_safely old new found journal h = members_safely default_members old new found journal (chain_begun (credentials_chain s) default_members [] old new found journal h)

  -- what is only asked behind it, and asks none
  pub asked_behind : (f : Answer → Inquiry Answer) → ((given : Answer) → NeverAsksHttp (f given)) → SafelyInTree (onwards (default_chain s) (λ given. lift (f given)))
  asked_behind f none = then_none (default_chain s) (λ given. lift (f given)) chain_safely (λ given. lift_without (f given) (none given))

  -- ---- a chain, or a profile, that was not loaded

  parts_without : (members : List Member) (attempts : List (ProviderAttempt CredentialsError)) (found : List Value) (journal : List Pair) (out : Answer) →
      AreParts (credentials_chain s) (MemberReads (credentials_chain s)) members attempts found journal out → is_not_loaded_answer out ≡ true → AsksNoHttp journal
  parts_without [] attempts found journal out h loaded = subst AsksNoHttp (sym h.1) tt
  parts_without (member ∷ members) attempts found journal out (inr h) loaded = absurd (stays_answer s out h.1 loaded)
  parts_without (member ∷ members) attempts found journal out (inl h) loaded =
      subst AsksNoHttp (sym h.7)
      (none_then h.2 h.3 (passed_without member h.0 h.2 h.4 h.8 (passes_answer s h.4 h.5 h.9)) (parts_without members _ h.1 h.3 out h.10 loaded))

  pub chain_without : (found : List Value) (journal : List Pair) (out : Answer) → Reads (default_chain s) found journal out → is_not_loaded_answer out ≡ true → AsksNoHttp journal
  chain_without found journal out h loaded = parts_without default_members [] found journal out (chain_parts (credentials_chain s) default_members [] found journal out h) loaded

  pub profile_without : (found : List Value) (journal : List Pair) (out : Answer) → Reads (profile s) found journal out → is_not_loaded_answer out ≡ true → AsksNoHttp journal
  unfolding member_tree
  profile_without found journal out h loaded = passed_without Profile found journal out h loaded

-- ---- a call

module _ (over : ChainSetting) (old new : States) (found : List Value) (part : List Pair) where
  pub begun : IsBegunCall over old new found part → ChainAsksSafely over part
  begun h = chain_safely (setting over h.services) h.names.container (Some old) (Some new) found part h.begins

  pub ended : (out : Answer) → IsCall over old new found part out → ChainAsksSafely over part
  ended out h =
      let s = setting over h.services in
      chain_safely s h.names.container None None found part (run_begins (default_chain s) None None found part out (reads_resolved s found part out h.resolves))

module _ {D : Type 0} (d : Ghosts D) (over : ChainSetting) (found : List Value) (before later : Held D) where
  abbrev Grew : Type 0
  Grew = Gains before.journal later.journal (ChainAsksSafely over)

  nothing_grew : later ≡ before → Grew
  nothing_grew same = grew_by_nothing (ChainAsksSafely over) before.journal later.journal (ap (λ x. x.journal) same) (inr tt)

  pub answered : (out : Answer) → ProvidesFound d over found before later out → Grew
  answered out h =
      let call = h.call in
      let s = setting over call.services in
      record {
        part = h.part;
        grows = h.grows.journal;
        said = chain_safely s call.names.container None None found h.part (run_begins (default_chain s) None None found h.part out (reads_resolved s found h.part out call.resolves));
      }

  pub interrupted : InterruptedFound d over found before later → Grew
  interrupted (inl same) = nothing_grew same
  interrupted (inr h) = record {
    part = h.part;
    grows = h.stays.journal;
    said = chain_safely (setting over h.services) h.names.container None None found h.part h.begins;
  }

  pub profile_answered : (old new : States) (out : Answer) → ProvidesByProfile d over old new found before later out → Grew
  profile_answered old new out h =
      let call = h.call in
      let s = setting over call.services in
      record {
        part = h.part;
        grows = h.grows.journal;
        said = profile_safely s call.names.container None None found h.part (run_begins (profile s) None None found h.part out call.reads);
      }

  pub profile_interrupted : (old new : States) → InterruptedProfile d over old new found before later → Grew
  profile_interrupted old new (inl h) = nothing_grew h.0
  profile_interrupted old new (inr h) = record {
    part = h.part;
    grows = h.stays.journal;
    said = profile_safely (setting over h.services) h.names.container (Some old) (Some new) found h.part h.begins;
  }
