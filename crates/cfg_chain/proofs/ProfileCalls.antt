-- A call that follows a profile's questions provides what they read.
use Rattle.std.proofs.Common.{◌≡◌, List, [], ◌++◌, true, Some, Result, Ok, Err, inr, sym, ap, ◌∙◌, subst}
use Rattle.cfg_world.specs.declared.asking.Asking.{Ghosts}
use Rattle.cfg_world.specs.declared.asking.Stop.{Stop}
use Rattle.std.specs.Prelude.{is_ok}
use Rattle.cfg_world.specs.Fits.{Pair}
use Rattle.cfg_kept.specs.Kinds.{Value, States}
use Rattle.cfg_kept.specs.KeptInquiry.{Runs, Begins, Reads, kept_after}
use Rattle.cfg_kept.specs.Holds.{Holdings, HoldsFollows}
use Rattle.cfg_kept.proofs.Told.{told}
use Rattle.cfg_providers.specs.CustomSources.{Answer}
use Rattle.cfg_chain.specs.Settings.{Setting, ChainSetting, Services, AreServices, setting, names_of}
use Rattle.cfg_chain.specs.Valid.{AreOfUse, IsFile}
use Rattle.cfg_chain.specs.profile.Plans.{Planned, plan}
use Rattle.cfg_chain.specs.profile.Profiles.{follows_plan, profile}
use Rattle.cfg_chain.specs.profile.Provides.{PlanGives, IsUsable, IsProfileCall, FollowsProfile}
use Rattle.cfg_chain.proofs.Calls.{some_is}
use Rattle.cfg_chain.proofs.ProfileCauses.{profile_fails}
use Rattle.cfg_chain.proofs.UsableProfile.{plan_succeeds}

planned_gives : (s : Setting) (p : Planned) (found : List Value) (part : List Pair) (out : Answer) → Reads (follows_plan s p) found part out → AreOfUse (IsFile s.configuration.environment p) part → PlanGives s p found part → is_ok out ≡ true
planned_gives s (Ok p) found part out h uses fine = plan_succeeds s p found part out h uses fine
planned_gives s (Err e) found part out h uses fine = absurd fine

-- where nothing stands in the way, the profile gives credentials
profile_gives : (s : Setting) (found : List Value) (part : List Pair) (out : Answer) → Reads (profile s) found part out → IsUsable s found part → is_ok out ≡ true
unfolding profile
profile_gives s found part out h u = planned_gives s (plan s.configuration (names_of s.sources)) found part out h u.answers u.given

-- a call that follows a profile's questions over such services follows its provider
pub follows_provider : {A : Type 0} (a : Ghosts A) (over : ChainSetting) (services : Services) (s : Setting) (old new : A) (before later : Holdings) (out : Result Answer Stop) →
    AreServices over services → s ≡ setting over services → HoldsFollows a (profile s) old before new later out → FollowsProfile a over old before new later out
follows_provider a over services s old new before later out names same h = inr (services, names, subst (λ t. HoldsFollows a (profile t) old before new later out) same h)

-- a run of a profile's questions from kept states that are told is a call
is_profile_call : (over : ChainSetting) (services : Services) (old new : States) (found : List Value) (part : List Pair) (out : Answer) → AreServices over services →
    Runs (profile (setting over services)) (Some old) found part out (Some new) → IsProfileCall over old new found part out
is_profile_call over services old new found part out names runs =
    let s = setting over services in
    let t = told (profile s) old (Some new) found part out runs in
    let reads = subst (λ f. Reads (profile s) f part out) (sym t.0) t.2 in
    record {
      services = services;
      names = names;
      finds = t.0;
      reads = reads;
      cause = profile_fails s found part out reads;
      keeps = some_is new (kept_after (profile s) old part) t.1;
      valid = profile_gives s found part out reads;
    }

-- the same where the list of the values that were found was emptied before
pub profile_call_from : (over : ChainSetting) (services : Services) (old cleared new : States) (earlier found more : List Value) (part : List Pair) (out : Answer) → AreServices over services →
    earlier ≡ [] → cleared ≡ old → more ≡ earlier ++ found → Runs (profile (setting over services)) (Some cleared) found part out (Some new) → IsProfileCall over old new more part out
profile_call_from over services old cleared new earlier found more part out names none same list runs =
    subst (λ k. IsProfileCall over k new more part out) same
    (subst (λ f. IsProfileCall over cleared new f part out) (sym (list ∙ ap (λ t. t ++ found) none)) (is_profile_call over services cleared new found part out names runs))

pub profile_begins_from : (over : ChainSetting) (services : Services) (old cleared new : States) (earlier found more : List Value) (part : List Pair) →
    earlier ≡ [] → cleared ≡ old → more ≡ earlier ++ found → Begins (profile (setting over services)) (Some cleared) found part (Some new) → Begins (profile (setting over services)) (Some old) more part (Some new)
profile_begins_from over services old cleared new earlier found more part none same list begins =
    subst (λ k. Begins (profile (setting over services)) (Some k) more part (Some new)) same
    (subst (λ f. Begins (profile (setting over services)) (Some cleared) f part (Some new)) (sym (list ∙ ap (λ t. t ++ found) none)) begins)
