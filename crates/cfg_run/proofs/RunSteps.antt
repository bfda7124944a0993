-- What a run of the default chain may be handed, and what comes of it.
use Rattle.std.proofs.Common.{◌≡◌, List, [], ◌++◌, Option, Some, None, IfSome, option_to_list, refl, sym, ◌∙◌, ap, subst, append-nil}
use Rattle.std.proofs.lemmas.List.{append_cancel_left}
use Rattle.cfg_world.specs.declared.ask.Question.{Question}
use Rattle.cfg_world.specs.Fits.{Pair}
use Rattle.cfg_world.specs.Replayed.{Replayed, all_entries}
use Rattle.cfg_token.specs.Replays.{IsLeftOpen}
use Rattle.cfg_kept.specs.Kinds.{Value, States}
use Rattle.cfg_kept.specs.KeptInquiry.{Runs, Asks, Begins}
use Rattle.cfg_kept.proofs.Trees.{begins_here}
use Rattle.cfg_providers.specs.CustomSources.{Answer}
use Rattle.cfg_chain.specs.profile.Plans.{key_of}
use Rattle.cfg_chain.specs.declared.member.Member.{Member}
use Rattle.cfg_chain.specs.Askers.{IsAskedBy}
use Rattle.cfg_chain.specs.Members.{credentials_chain, default_chain, default_members}
use Rattle.cfg_chain.specs.Provides.{IsCall}
use Rattle.cfg_chain.specs.Settings.{ChainSetting, Services, AreServices, setting}
use Rattle.cfg_chain.proofs.Calls.{one_answer, is_call_from}
use Rattle.cfg_run.specs.CallSoFar.{CallSoFar}
use Rattle.cfg_run.specs.Runs.{IsWaitingCall, IsUnderWay, IsUnderWayAt, ComesTo, HasBegun, ComesNext, question_of, step_of}
use Rattle.cfg_run.specs.declared.next.Next.{Next}
use Rattle.cfg_run.specs.declared.next.Next.TheVariants.{Asks as AsksQuestion, Gives}
use Rattle.cfg_run.specs.declared.run.Step.{Step}
use Rattle.cfg_run.specs.declared.run.Step.TheVariants.{Pending, Ready}
use Rattle.cfg_run.proofs.ReplaySteps.{some_is, no_question}
use Rattle.cfg_run.proofs.TreeSteps.{asks_begins, entry_begins, all_run, all_asked, part_is_all}

module _ (over : ChainSetting) (s : CallSoFar) where
  waiting : (q : Question) → IsWaitingCall over s.base s.kept s.found s.asked q s.member → (services : Services) → AreServices over services → Asks (default_chain (setting over services)) (Some s.base) s.found s.asked q (Some s.kept)
  waiting q w services names = subst (λ t. Asks (default_chain (setting over t)) (Some s.base) s.found s.asked q (Some s.kept)) (one_answer over w.services services w.names names) w.asks

  begun_at : (question : Option Question) (receipt : Option Pair) → IsUnderWayAt over s question → IfSome receipt (λ e. question ≡ Some e.0) → HasBegun over s.base (s.asked ++ option_to_list receipt)
  begun_at None None h fits = λ services names.
      let p = default_chain (setting over services) in
      ([], Some s.base, subst (λ j. Begins p (Some s.base) [] j (Some s.base)) (sym (append-nil s.asked ∙ h.0)) (begins_here p (Some s.base)))
  begun_at None (Some e) h fits = absurd (no_question e.0 fits)
  begun_at (Some q) None h fits = λ services names.
      let p = default_chain (setting over services) in
      (s.found, Some s.kept, subst (λ j. Begins p (Some s.base) s.found j (Some s.kept)) (sym (append-nil s.asked)) (asks_begins p (Some s.base) (Some s.kept) s.found s.asked q (waiting q h services names)))
  begun_at (Some q) (Some e) h fits = λ services names.
      let p = default_chain (setting over services) in
      let b = entry_begins p (Some s.base) (Some s.kept) s.found s.asked e (subst (λ t. Asks p (Some s.base) s.found s.asked t (Some s.kept)) (some_is q e.0 fits) (waiting q h services names)) in
      (s.found, b.0, b.1)

  -- what was asked so far has begun, with the receipt of a poll too
  pub handed_begun : (receipt : Option Pair) → IsUnderWay over s → IfSome receipt (λ e. s.question ≡ Some e.0) → HasBegun over s.base (s.asked ++ option_to_list receipt)
  handed_begun receipt h fits = begun_at s.question receipt h.1 fits

module _ (over : ChainSetting) (base cleared new : States) (asked part : List Pair) (first last : Replayed) (earlier found more : List Value) (services : Services) (names : AreServices over services)
    (begun : HasBegun over base asked) (is : first ≡ record { handed = []; left = asked; unanswered = None }) (grows : last.handed ≡ first.handed ++ part) (made : all_entries last ≡ all_entries first)
    (none : earlier ≡ []) (same : cleared ≡ base) (list : more ≡ earlier ++ found) where
  -- a walk that came to its end is the call over all that was asked
  pub walk_ends : (out : Answer) → Runs (default_chain (setting over services)) (Some cleared) found part out (Some new) → IsCall over base new more asked out
  walk_ends out runs =
      let p = default_chain (setting over services) in
      is_call_from over services base base new earlier found more asked out names none refl list
      (all_run p base asked part first last is grows made (begun services names) found out (Some new) (subst (λ k. Runs p (Some k) found part out (Some new)) same runs))

  -- and one that stopped at an open question waits for it behind all that was asked
  pub walk_waits : (q : Question) (member : Option Member) → last.unanswered ≡ Some q → IsLeftOpen last.left last.unanswered → Asks (default_chain (setting over services)) (Some cleared) found part q (Some new) →
      IsAskedBy (credentials_chain (setting over services)) default_members (Some cleared) found part member q (Some new) → IsWaitingCall over base new more asked q member
  walk_waits q member shown unmet asks asker =
      let p = default_chain (setting over services) in
      let c = credentials_chain (setting over services) in
      let finds = sym (list ∙ ap (λ t. t ++ found) none) in
      let there = subst (λ k. Asks p (Some k) found part q (Some new)) same asks in
      let all = part_is_all p base asked part first last is grows made (begun services names) found q (Some new) there shown unmet in
      record {
        services = services;
        names = names;
        asks = subst (λ f. Asks p (Some base) f asked q (Some new)) finds (all_asked p base asked part first last is grows made (begun services names) found q (Some new) there shown unmet);
        asker = subst (λ f. IsAskedBy c default_members (Some base) f asked member q (Some new)) finds
            (subst (λ j. IsAskedBy c default_members (Some base) found j member q (Some new)) all (subst (λ k. IsAskedBy c default_members (Some k) found part member q (Some new)) same asker));
      }

-- what a walk came to is what a poll answers
pub walk_comes : (over : ChainSetting) (s handed left : CallSoFar) (asked : List Pair) (kept : States) (found : List Value) (member : Option Member) (next : Next Answer) (step : Step) → s.key ≡ key_of over.configuration →
    handed ≡ record s { asked = asked } → left ≡ record handed { kept = kept; found = found; question = question_of next; member = member } → step ≡ step_of next →
    ComesNext over handed.base kept found handed.asked member next → ComesTo over left step
walk_comes over s handed left asked kept found member (AsksQuestion q) step key grew goes is w =
    subst (ComesTo over left) (sym is) (subst (λ x. ComesTo over x Pending) (sym goes) (refl, (ap (λ (x : CallSoFar). x.key) grew ∙ key, w)))
walk_comes over s handed left asked kept found member (Gives out) step key grew goes is c =
    subst (ComesTo over left) (sym is) (subst (λ x. ComesTo over x (Ready out)) (sym goes) (refl, c))

-- the member that asks, by the part and the found values that the walk tells
pub there_too : {A : Type 0} (before later one other : List A) → later ≡ before ++ one → later ≡ before ++ other → other ≡ one
there_too before later one other a b = append_cancel_left before other one (sym b ∙ a)

pub asker_there : (over : ChainSetting) (services asked_of : Services) (old new : Option States) (found more : List Value) (part other : List Pair) (member : Option Member) (q : Question) → AreServices over services → AreServices over asked_of →
    more ≡ found → other ≡ part → IsAskedBy (credentials_chain (setting over asked_of)) default_members old more other member q new → IsAskedBy (credentials_chain (setting over services)) default_members old found part member q new
asker_there over services asked_of old new found more part other member q names named finds parts h =
    let c = credentials_chain (setting over services) in
    subst (λ f. IsAskedBy c default_members old f part member q new) finds
    (subst (λ j. IsAskedBy c default_members old more j member q new) parts
    (subst (λ t. IsAskedBy (credentials_chain (setting over t)) default_members old more other member q new) (one_answer over asked_of services named names) h))
