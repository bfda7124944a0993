-- A poll behind a question for a role: what is left is walked, and what it comes to is what the call comes to.
use Rattle.std.proofs.Common.{◌≡◌, ◌⊎◌, List, [], ◌∷◌, ◌++◌, length, drop, map, Option, Some, None, IfSome, IsSome, Ok, option_to_list, inl, inr, refl, sym, ◌∙◌, ap, subst, append_assoc, append-nil}
use Rattle.std.specs.declared.alloc.Global.{Global}
use Rattle.std.specs.declared.dyn_box.DynBox.{DynBox}
use Rattle.cfg_types.specs.declared.settings.CallSettings.{CallSettings}
use Rattle.cfg_world.specs.declared.ask.Question.{Question}
use Rattle.cfg_world.specs.Fits.{Pair}
use Rattle.cfg_world.specs.Inquiry as low
use Rattle.cfg_kept.specs.Kinds.{Value, States}
use Rattle.cfg_kept.specs.KeptInquiry.{KeptInquiry, Gives as GivesIt, Puts, Finds, Leaves, Runs, Asks, Begins, leave}
use Rattle.cfg_kept.proofs.Trees.{begins_here}
use Rattle.cfg_profile.specs.declared.chain.ProfileChain.{ProfileChain}
use Rattle.cfg_profile.specs.declared.chain.RoleArn.{RoleArn}
use Rattle.cfg_profile.specs.Settings.{settings_of}
use Rattle.cfg_providers.specs.declared.custom.CustomSource.{CustomSource}
use Rattle.cfg_providers.specs.CustomSources.{Answer, named}
use Rattle.cfg_chain.specs.declared.member.Member.{Member}
use Rattle.cfg_chain.specs.declared.member.Member.TheVariants.{Environment, Profile, WebIdentityToken, EcsContainer, Ec2InstanceMetadata}
use Rattle.cfg_chain.specs.Askers.{IsAskedBy}
use Rattle.cfg_chain.specs.Members.{credentials_chain, default_chain, default_members, member_tree}
use Rattle.cfg_chain.specs.Settings.{ChainSetting, Services, AreServices, Setting, names_of, setting}
use Rattle.cfg_chain.specs.profile.Plans.{plan}
use Rattle.cfg_chain.specs.profile.Profiles.{profile}
use Rattle.cfg_chain.specs.Provides.{IsCall}
use Rattle.cfg_chain.proofs.Calls.{is_call}
use Rattle.cfg_run.specs.declared.last_role.LastRole.{LastRole}
use Rattle.cfg_run.specs.CallSoFar.{CallSoFar}
use Rattle.cfg_run.specs.Places.{IsInProfile, IsInMember}
use Rattle.cfg_run.specs.Planned.{names_in}
use Rattle.cfg_run.specs.Roles.{IsAtRole, AreLeft, marked_roles}
use Rattle.cfg_run.specs.Runs.{IsWaitingCall, IsUnderWay, IsUnderWayAt}
use Rattle.cfg_run.proofs.NeverForRole.{runs_without, is_behind}
use Rattle.cfg_run.proofs.ReplaySteps.{some_is, no_question}
use Rattle.cfg_run.proofs.RolePlaces.{left_of_profile, answer_stays, chain_runs, chain_asks, profile_asker, environment_without}
use Rattle.cfg_run.proofs.TreeSteps.{asks_begins}

-- ---- where a question of the profile is shown

-- an entry of the question that is next goes on, and leaves what is kept
entry_begins : {R : Type 0} (p : KeptInquiry R) (old new : Option States) (found : List Value) (journal : List Pair) (e : Pair) → Asks p old found journal e.0 new → Begins p old found (journal ++ e ∷ []) new
entry_begins (GivesIt r) old new found journal e h = absurd h
entry_begins (Puts q n) old new [] [] e h = (sym h.0, subst (λ k. Begins (n e.1) old [] [] k) h.1 (begins_here (n e.1) old))
entry_begins (Puts q n) old new (f ∷ found) [] e h = absurd h
entry_begins (Puts q n) old new found (d ∷ journal) e h = (h.0, entry_begins (n d.1) old new found journal e h.1)
entry_begins (Finds spot n) old new [] journal e h = absurd h
entry_begins (Finds spot n) old new (f ∷ found) [] e h = (h.0, h.1, entry_begins (n f) old new found [] e h.2)
entry_begins (Finds spot n) old new (f ∷ found) (d ∷ journal) e h = (h.0, h.1, entry_begins (n f) old new found (d ∷ journal) e h.2)
entry_begins (Leaves v p) old new found journal e h = inr (entry_begins p (leave old v) new found journal e h)

receipt_begins : {R : Type 0} (p : KeptInquiry R) (old new : Option States) (found : List Value) (journal : List Pair) (q : Question) (receipt : Option Pair) → IfSome receipt (λ e. Some q ≡ Some e.0) → Asks p old found journal q new →
    Begins p old found (journal ++ option_to_list receipt) new
receipt_begins p old new found journal q None fits h = subst (λ j. Begins p old found j new) (sym (append-nil journal)) (asks_begins p old new found journal q h)
receipt_begins p old new found journal q (Some e) fits h = entry_begins p old new found journal e (subst (λ t. Asks p old found journal t new) (some_is q e.0 fits) h)

-- the member is one of these
abbrev IsAmong : Option Member → List Member → Type 0
IsAmong who [] = ⊥
IsAmong who (member ∷ members) = (who ≡ Some member) ⊎ IsAmong who members

asked_among : (s : Setting) (members : List Member) (old new : Option States) (found : List Value) (journal : List Pair) (who : Option Member) (q : Question) →
    IsAskedBy (credentials_chain s) members old found journal who q new → IsAmong who members
asked_among s [] old new found journal who q h = absurd h
asked_among s (member ∷ members) old new found journal who q (inl h) = inr (asked_among s members h.4 new h.1 h.3 who q h.11)
asked_among s (member ∷ members) old new found journal who q (inr h) = inl h.0

not_behind : {X : Type 0} → IsAmong (Some Profile) (WebIdentityToken ∷ EcsContainer ∷ Ec2InstanceMetadata ∷ []) → X
not_behind (inl h) = absurd cc
not_behind (inr (inl h)) = absurd cc
not_behind (inr (inr (inl h))) = absurd cc
not_behind (inr (inr (inr h))) = absurd h

module _ (over : ChainSetting) (s : CallSoFar) (receipt : Option Pair) (q : Question) (fits : IfSome receipt (λ e. Some q ≡ Some e.0)) (services : Services) (names : AreServices over services) where
  in_profile : IsAskedBy (credentials_chain (setting over services)) default_members (Some s.base) s.found s.asked (Some Profile) q (Some s.kept) → IsInProfile over s.base s.kept s.found (s.asked ++ option_to_list receipt)
  unfolding member_tree
  in_profile (inl h) = elim h.11 [
    | inl k ↦ not_behind (asked_among (setting over services) (WebIdentityToken ∷ EcsContainer ∷ Ec2InstanceMetadata ∷ []) k.4 (Some s.kept) k.1 k.3 (Some Profile) q k.11)
    | inr k ↦ record {
      services = services;
      names = names;
      found_first = h.0;
      found_then = h.1;
      part = h.2;
      rest = h.3 ++ option_to_list receipt;
      middle = h.4;
      given = h.5;
      error = h.6;
      finds = h.7;
      parts = ap (λ t. t ++ option_to_list receipt) h.8 ∙ append_assoc h.2 h.3 (option_to_list receipt);
      first = h.9;
      passes = h.10;
      begins = receipt_begins (profile (setting over services)) h.4 (Some s.kept) h.1 h.3 q receipt fits k.1;
    }
  ]
  in_profile (inr h) = absurd cc

  in_member : (member : Option Member) → IsAskedBy (credentials_chain (setting over services)) default_members (Some s.base) s.found s.asked member q (Some s.kept) →
      IsInMember over (record s { asked = s.asked ++ option_to_list receipt }) (Some q) member
  in_member None h = tt
  in_member (Some Environment) h = tt
  in_member (Some Profile) h = in_profile h
  in_member (Some WebIdentityToken) h = tt
  in_member (Some EcsContainer) h = tt
  in_member (Some Ec2InstanceMetadata) h = tt

in_member_at : (over : ChainSetting) (s : CallSoFar) (receipt : Option Pair) (question : Option Question) → IfSome receipt (λ e. question ≡ Some e.0) → IsUnderWayAt over s question →
    IsInMember over (record s { asked = s.asked ++ option_to_list receipt }) question s.member
in_member_at over s receipt None fits h = tt
in_member_at over s receipt (Some q) fits h = in_member over s receipt q fits h.services h.names s.member h.asker

pub handed_in_member : (over : ChainSetting) (s : CallSoFar) (receipt : Option Pair) → IsUnderWay over s → IfSome receipt (λ e. s.question ≡ Some e.0) →
    IsInMember over (record s { asked = s.asked ++ option_to_list receipt }) s.question s.member
handed_in_member over s receipt h fits = in_member_at over s receipt s.question fits h.1

-- so it is where the profile asks
pub profile_there : (over : ChainSetting) (s : CallSoFar) (question : Option Question) (member : Option Member) → IsInMember over s question member → member ≡ Some Profile → IsSome question → IsInProfile over s.base s.kept s.found s.asked
profile_there over s None member h is some = absurd (no_question some)
  where
    no_question : IsSome (let o : Option Question = None in o) → ⊥
    no_question e = cc
profile_there over s (Some q) member h is some = subst (λ m. IsInMember over s (Some q) m) is h

-- ---- what is left of the call there

-- the names of sources are those of their answers
pub names_same : {V : Type 0} {I : V → Type 0} (value : DynBox V Global I → Answer) (sources : List (CustomSource V I)) → names_in sources ≡ names_of (map (named value) sources)
names_same value [] = refl
names_same value (source ∷ sources) = ap (λ t. source.name ∷ t) (names_same value sources)

-- The roles that are left, and what the call does where they do it.
pub record LeftOfCall (over : ChainSetting) (settings : CallSettings) (roles : List RoleArn) (old new : States) (found : List Value) (asked : List Pair) (last : LastRole) : Type 0 where
  pub left : AreLeft settings roles asked last
  pub gives : (out : Answer) → low.Reads (marked_roles settings (left.role ∷ left.more) left.signer) (left.asked ++ left.entry ∷ left.behind) out → IsCall over old new found asked out
  pub asks : (q : Question) → low.AsksNext (marked_roles settings (left.role ∷ left.more) left.signer) (left.asked ++ left.entry ∷ left.behind) q → IsWaitingCall over old new found asked q (Some Profile)

pub left_of_call : (over : ChainSetting) (settings : CallSettings) (p : ProfileChain) (old new : States) (found : List Value) (asked : List Pair) (last : LastRole) →
    plan over.configuration (names_of over.sources) ≡ Ok p → settings ≡ settings_of over.configuration → IsAtRole last asked → IsInProfile over old new found asked → LeftOfCall over settings p.roles old new found asked last
left_of_call over settings p old new found asked last planned same a place =
    let s = setting over place.services in
    let e = a.entry in
    let none = runs_without (member_tree s Environment) (Some old) place.middle place.found_first place.part place.given (environment_without s) place.first in
    let w = is_behind place.part place.rest a.front e a.behind a.signer a.is.signed none (sym a.is.parts ∙ place.parts) in
    let l = left_of_profile s p planned place.middle (Some new) place.found_then w.middle e a.behind a.signer a.is.signed (subst (λ j. Begins (profile s) place.middle place.found_then j (Some new)) w.left place.begins) in
    let front : a.front ≡ (place.part ++ l.before) ++ l.asked = w.before ∙ ap (λ t. place.part ++ t) l.parts ∙ sym (append_assoc place.part l.before l.asked) in
    let rest = l.asked ++ e ∷ a.behind in
    record {
      left = record {
        role = l.role;
        more = l.more;
        there = subst (λ n. drop n p.roles ≡ l.role ∷ l.more) (sym (a.number ∙ w.number)) l.there;
        before = place.part ++ l.before;
        asked = l.asked;
        entry = e;
        behind = a.behind;
        signer = a.signer;
        is = record { parts = a.is.parts ∙ ap (λ t. t ++ e ∷ a.behind) front; signed = a.is.signed };
        at = a.at ∙ ap length front;
        few = l.few;
        begun = subst (λ c. low.Begun (marked_roles c (l.role ∷ l.more) a.signer) rest) (sym same) l.begun;
      };
      gives = λ out h.
          let there = subst (λ c. low.Reads (marked_roles c (l.role ∷ l.more) a.signer) rest out) same h in
          let runs = chain_runs s (Some old) place.middle (Some new) place.found_first place.found_then place.part place.rest place.given place.error place.first place.passes out
          (subst (λ j. Runs (profile s) place.middle place.found_then j out (Some new)) (sym w.left) (l.runs out there)) (answer_stays s (settings_of over.configuration) (l.role ∷ l.more) a.signer rest out there) in
          is_call over place.services old new found asked out place.names
          (subst (λ j. Runs (default_chain s) (Some old) found j out (Some new)) (sym place.parts) (subst (λ f. Runs (default_chain s) (Some old) f (place.part ++ place.rest) out (Some new)) (sym place.finds) runs));
      asks = λ q h.
          let there = subst (λ c. low.AsksNext (marked_roles c (l.role ∷ l.more) a.signer) rest q) same h in
          let next = subst (λ j. Asks (profile s) place.middle place.found_then j q (Some new)) (sym w.left) (l.asks q there) in
          let asks = chain_asks s (Some old) place.middle (Some new) place.found_first place.found_then place.part place.rest place.given place.error place.first place.passes q next in
          let asker = profile_asker s (Some old) place.middle (Some new) place.found_first place.found_then place.part place.rest place.given place.error place.first place.passes q next in
          record {
            services = place.services;
            names = place.names;
            asks = subst (λ j. Asks (default_chain s) (Some old) found j q (Some new)) (sym place.parts) (subst (λ f. Asks (default_chain s) (Some old) f (place.part ++ place.rest) q (Some new)) (sym place.finds) asks);
            asker = subst (λ j. IsAskedBy (credentials_chain s) default_members (Some old) found j (Some Profile) q (Some new)) (sym place.parts)
                (subst (λ f. IsAskedBy (credentials_chain s) default_members (Some old) f (place.part ++ place.rest) (Some Profile) q (Some new)) (sym place.finds) asker);
          };
    }
