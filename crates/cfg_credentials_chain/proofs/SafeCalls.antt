-- Where the `Http` requests of members and of their chain go.
use Rattle.std.proofs.Common.{◌≡◌, ◌⊎◌, inl, inr, List, [], ◌∷◌, ◌++◌, Bool, true, false, Option, Some, None, Ok, Err, refl, sym, ap, subst, ◌∙◌, append_assoc}
use Rattle.std.specs.Prelude.{if◌then◌else◌}
use Rattle.cfg_types.specs.Classes.{is_not_loaded_answer}
use Rattle.cfg_types.specs.declared.errors.CredentialsError.{CredentialsError}
use Rattle.cfg_types.specs.declared.errors.ProviderAttempt.{ProviderAttempt}
use Rattle.cfg_world.specs.declared.devices.Devices.{Ghosts}
use Rattle.cfg_world.specs.Fits.{Pair}
use Rattle.cfg_world.specs.Held.{Held}
use Rattle.cfg_exchange.specs.SafeJournals.{AsksNoHttp}
use Rattle.cfg_world.specs.Gains.{Gains}
use Rattle.cfg_exchange.proofs.SafeJournals.{none_then, part_safely, unset_without}
use Rattle.cfg_exchange.proofs.Unset.{passed_over}
use Rattle.cfg_imds_credentials.specs.Metadata.{metadata}
use Rattle.cfg_imds_credentials.proofs.NoHttp.{NeverPutsHttp, begins_without, lift_without, metadata_without}
use Rattle.cfg_kept.specs.Kinds.{Value, States}
use Rattle.cfg_kept.specs.KeptInquiry.{KeptInquiry, Gives, Begins, Reads, lift, found_by}
use Rattle.cfg_kept.proofs.Splits.{lowered}
use Rattle.cfg_kept.proofs.Told.{run_begins}
use Rattle.cfg_login.specs.declared.asked_by.AskedBy.TheVariants.{Caller}
use Rattle.cfg_login.specs.SignIns.{sign_in_credentials}
use Rattle.cfg_meta.specs.AnswerRules.{passed_over as passed_by}
use Rattle.cfg_meta.specs.CredentialsAnswers.{is_not_loaded, none_loaded, credentials_rules}
use Rattle.cfg_meta.specs.MemberParts.{Keeping, IsMemberPart, IsMemberBeginning, HasBegun, GoesThrough}
use Rattle.cfg_meta.specs.Provides.{ProvidesByMembers, InterruptedMembers}
use Rattle.cfg_providers.specs.ContainerSetups.{settings_in, asks_container}
use Rattle.cfg_providers.specs.CustomSources.{Answer}
use Rattle.cfg_providers.specs.EnvironmentKeys.{by_environment}
use Rattle.cfg_providers.specs.Processes.{credential_process}
use Rattle.cfg_providers.specs.WebIdentities.{web_identity}
use Rattle.cfg_providers.proofs.NoHttp.{process_without, web_identity_without}
use Rattle.cfg_sso.specs.SsoCredentials.{sso_credentials}
use Rattle.cfg_chain.specs.Settings.{setting}
use Rattle.cfg_chain.proofs.ContainerTargets.{begun_lowered}
use Rattle.cfg_chain.proofs.NoHttp.{sso_without, sign_in_without}
use Rattle.cfg_chain.proofs.SafeCalls.{profile_safely, chain_safely, profile_without, chain_without}
use Rattle.cfg_assume_role.proofs.SafeCalls.{base_safely, role_loaded}
use Rattle.cfg_credentials_chain.specs.Members.{Asked, OfEnvironment, OfProcess, OfWebIdentity, OfContainer, OfMetadata, OfSession, OfSignIn, OfProfile, ByDefault, ForRole, Given, ByCaller, NamedAsked, name_in, IsMemberTree, IsNamedTree}
use Rattle.cfg_credentials_chain.specs.SafeCalls.{MemberAsksSafely, MembersAskSafely}

-- a member that is this tree, which never asks
tree_without : (tree one : KeptInquiry Answer) → tree ≡ one → NeverPutsHttp one → (old new : Option States) (found : List Value) (part : List Pair) → Begins tree old found part new → AsksNoHttp part
tree_without tree one is n old new found part h = begins_without one old new found part n (subst (λ t. Begins t old found part new) is h)

-- ---- the beginning of a member's part

pub member_safely : (m : Asked) (tree : KeptInquiry Answer) → IsMemberTree m tree → (old new : Option States) (found : List Value) (part : List Pair) → Begins tree old found part new → MemberAsksSafely m part
member_safely (OfEnvironment env) tree is old new found part h = tree_without tree (lift (by_environment env)) is tt old new found part h
member_safely (OfProcess p) tree is old new found part h =
    tree_without tree (lift (credential_process p.command p.account_id)) is (lift_without (credential_process p.command p.account_id) (process_without p.command p.account_id)) old new found part h
member_safely (OfWebIdentity w) tree is old new found part h =
    tree_without tree (lift (web_identity w.configuration w.given w.policies)) is
    (lift_without (web_identity w.configuration w.given w.policies) (web_identity_without w.configuration w.policies w.given)) old new found part h
member_safely (OfContainer c) tree is old new found part h =
    part_safely c.configuration.environment (settings_in c) is.0 part is.1
    (begun_lowered (asks_container c is.0) old new found part (subst (λ t. Begins t old found part new) is.2 h))
member_safely (OfMetadata m) tree is old new found part h = tree_without tree (metadata m) is (metadata_without m) old new found part h
member_safely (OfSession s) tree is old new found part h = tree_without tree (sso_credentials s.configuration s.sso) is (sso_without s.configuration s.sso) old new found part h
member_safely (OfSignIn s) tree is old new found part h =
    tree_without tree (sign_in_credentials s.configuration s.session Caller) is (sign_in_without s.configuration s.session Caller) old new found part h
member_safely (OfProfile over) tree is old new found part h =
    profile_safely (setting over is.0) is.1.container old new found part (subst (λ t. Begins t old found part new) is.2 h)
member_safely (ByDefault over) tree is old new found part h =
    chain_safely (setting over is.0) is.1.container old new found part (subst (λ t. Begins t old found part new) is.2 h)
member_safely (ForRole call b) tree is old new found part h = base_safely call b is.0 is.1 old new found part (subst (λ t. Begins t old found part new) is.2 h)
member_safely (Given keys) tree is old new found part h = tree_without tree (Gives (Ok keys)) is tt old new found part h
member_safely (ByCaller answer fallback) tree is old new found part h = tree_without tree (Gives answer) is tt old new found part h

pub part_is_safe : (m : Asked) (old new : Keeping) (part : List Pair) (out : Answer) → IsMemberPart (IsMemberTree m) old new part out → MemberAsksSafely m part
part_is_safe m old new part out p =
    let found = found_by p.tree old.states part in
    member_safely m p.tree p.is_its None None found part (run_begins p.tree None None found part out p.reads)

pub beginning_is_safe : (m : Asked) (old new : Keeping) (part : List Pair) → IsMemberBeginning (IsMemberTree m) old new part → MemberAsksSafely m part
beginning_is_safe m old new part p = member_safely m p.tree p.is_its (Some old.states) (Some new.states) p.found part p.begins

-- ---- a member that was not loaded

clash : (b : Bool) → b ≡ false → b ≡ true → ⊥
clash true h k = cc
clash false h k = cc

read_without : (tree one : KeptInquiry Answer) → tree ≡ one → NeverPutsHttp one → (found : List Value) (part : List Pair) (out : Answer) → Reads tree found part out → AsksNoHttp part
read_without tree one is n found part out h = tree_without tree one is n None None found part (run_begins tree None None found part out h)

member_without : (m : Asked) (tree : KeptInquiry Answer) → IsMemberTree m tree → (found : List Value) (part : List Pair) (out : Answer) → Reads tree found part out → is_not_loaded_answer out ≡ true → AsksNoHttp part
member_without (OfEnvironment env) tree is found part out h loaded = read_without tree (lift (by_environment env)) is tt found part out h
member_without (OfProcess p) tree is found part out h loaded =
    read_without tree (lift (credential_process p.command p.account_id)) is (lift_without (credential_process p.command p.account_id) (process_without p.command p.account_id)) found part out h
member_without (OfWebIdentity w) tree is found part out h loaded =
    read_without tree (lift (web_identity w.configuration w.given w.policies)) is
    (lift_without (web_identity w.configuration w.given w.policies) (web_identity_without w.configuration w.policies w.given)) found part out h
member_without (OfContainer c) tree is found part out h loaded =
    let reads = (lowered (asks_container c is.0) found part out (subst (λ t. Reads t found part out) is.2 h)).1 in
    unset_without c.configuration.environment part (passed_over c.configuration.environment (settings_in c) is.0 part out is.1 reads loaded)
member_without (OfMetadata m) tree is found part out h loaded = read_without tree (metadata m) is (metadata_without m) found part out h
member_without (OfSession s) tree is found part out h loaded = read_without tree (sso_credentials s.configuration s.sso) is (sso_without s.configuration s.sso) found part out h
member_without (OfSignIn s) tree is found part out h loaded =
    read_without tree (sign_in_credentials s.configuration s.session Caller) is (sign_in_without s.configuration s.session Caller) found part out h
member_without (OfProfile over) tree is found part out h loaded =
    profile_without (setting over is.0) is.1.container found part out (subst (λ t. Reads t found part out) is.2 h) loaded
member_without (ByDefault over) tree is found part out h loaded =
    chain_without (setting over is.0) is.1.container found part out (subst (λ t. Reads t found part out) is.2 h) loaded
member_without (ForRole call b) tree is found part out h loaded =
    absurd (clash (is_not_loaded_answer out) (role_loaded call is.0 found part out (subst (λ t. Reads t found part out) is.2 h)) loaded)
member_without (Given keys) tree is found part out h loaded = read_without tree (Gives (Ok keys)) is tt found part out h
member_without (ByCaller answer fallback) tree is found part out h loaded = read_without tree (Gives answer) is tt found part out h

is_kept : (f e : CredentialsError) (b : Bool) → (if b then Some f else None) ≡ Some e → b ≡ true
is_kept f e true h = refl
is_kept f e false h = cc

passes_answer : (out : Answer) (e : CredentialsError) → passed_by credentials_rules out ≡ Some e → is_not_loaded_answer out ≡ true
passes_answer (Ok keys) e h = cc
passes_answer (Err f) e h = is_kept f e (is_not_loaded f) h

passed_without : (m : Asked) (old new : Keeping) (part : List Pair) (given : Answer) (e : CredentialsError) → IsMemberPart (IsMemberTree m) old new part given → passed_by credentials_rules given ≡ Some e → AsksNoHttp part
passed_without m old new part given e p h = member_without m p.tree p.is_its (found_by p.tree old.states part) part given p.reads (passes_answer given e h)

-- ---- the members in order

here : (m : NamedAsked) (members : List NamedAsked) (part : List Pair) → MemberAsksSafely m.1 part → MembersAskSafely (m ∷ members) part
here m members part safe = inl (record { passed_over = []; who = m; not_asked = members; order = refl; before = []; own = part; parts = refl; alone_before = tt; safe = safe })

behind : (m : NamedAsked) (members : List NamedAsked) (part first rest : List Pair) → part ≡ first ++ rest → AsksNoHttp first → MembersAskSafely members rest → MembersAskSafely (m ∷ members) part
behind m members part first rest parts none (inr others) = inr (subst AsksNoHttp (sym parts) (none_then first rest none others))
behind m members part first rest parts none (inl o) = inl (record {
  passed_over = m ∷ o.passed_over;
  who = o.who;
  not_asked = o.not_asked;
  order = ap (λ t. m ∷ t) o.order;
  before = first ++ o.before;
  own = o.own;
  parts = parts ∙ ap (λ t. first ++ t) o.parts ∙ sym (append_assoc first o.before o.own);
  alone_before = none_then first o.before none o.alone_before;
  safe = o.safe;
})

through_safely : (at_member : NamedAsked → Keeping → Keeping → List Pair → Type 0) (at_end : List (ProviderAttempt CredentialsError) → Type 0) → ((m : NamedAsked) (old new : Keeping) (part : List Pair) → at_member m old new part → MemberAsksSafely m.1 part ⊎ (part ≡ [])) →
    (members : List NamedAsked) (attempts : List (ProviderAttempt CredentialsError)) (olds news : List Keeping) (part : List Pair) →
    GoesThrough credentials_rules name_in IsNamedTree at_member at_end members attempts olds news part → MembersAskSafely members part
through_safely at_member at_end at [] attempts olds news part h = inr (subst AsksNoHttp (sym h.0) tt)
through_safely at_member at_end at (m ∷ members) attempts [] news part h = absurd h
through_safely at_member at_end at (m ∷ members) attempts (old ∷ olds) [] part h = absurd h
through_safely at_member at_end at (m ∷ members) attempts (old ∷ olds) (new ∷ news) part (inl h) =
    behind m members part h.0 h.1 h.4 (passed_without m.1 old new h.0 h.2 h.3 h.5 h.6) (through_safely at_member at_end at members _ olds news h.1 h.7)
through_safely at_member at_end at (m ∷ members) attempts (old ∷ olds) (new ∷ news) part (inr h) = elim (at m old new part h.0) [
  | inl safe ↦ here m members part safe
  | inr none ↦ inr (subst AsksNoHttp (sym none) tt)
]

begun_or_untouched : (m : NamedAsked) (old new : Keeping) (part : List Pair) → HasBegun (IsNamedTree m) old new part → MemberAsksSafely m.1 part ⊎ (part ≡ [])
begun_or_untouched m old new part (inl b) = inl (beginning_is_safe m.1 old new part b)
begun_or_untouched m old new part (inr n) = inr n.0

-- ---- a call

module _ {D : Type 0} (d : Ghosts D) (members : List NamedAsked) (olds news : List Keeping) (before later : Held D) where
  abbrev Grew : Type 0
  Grew = Gains before.journal later.journal (MembersAskSafely members)

  pub answered : (out : Answer) → ProvidesByMembers d credentials_rules name_in IsNamedTree members olds news before later out → Grew
  answered out h = record {
    part = h.part;
    grows = h.grows.journal;
    said = through_safely (λ m old new mine. IsMemberPart (IsNamedTree m) old new mine out × (passed_by credentials_rules out ≡ None)) (λ told. out ≡ Err (none_loaded told))
        (λ m old new part p. inl (part_is_safe m.1 old new part out p.0)) members [] olds news h.part h.parts;
  }

  pub interrupted : InterruptedMembers d credentials_rules name_in IsNamedTree members olds news before later → Grew
  interrupted h = record {
    part = h.part;
    grows = h.stays.journal;
    said = through_safely (λ m old new mine. HasBegun (IsNamedTree m) old new mine) (λ told. Unit {0}) begun_or_untouched members [] olds news h.part h.begun;
  }
