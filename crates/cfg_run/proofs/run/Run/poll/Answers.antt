-- The run stands on the walk over what was asked.
use Rattle.std.proofs.Common.{◌++◌, option_to_list, refl, sym, ap, ◌∙◌, subst}
use Rattle.cfg_chain.specs.Settings.{ChainSetting}
use Rattle.cfg_chain.specs.Views.{chain_of}
use Rattle.cfg_run.specs.CallSoFar.{CallSoFar}
use Rattle.cfg_run.specs.Places.{IsInMember, states_after, found_after}
use Rattle.cfg_run.specs.Roles.{IsLastRole}
use Rattle.cfg_run.specs.Runs.{HasBegun}
use Rattle.cfg_run.proofs.KeptCopies.{call_taken_back, asked_taken_back}
use Rattle.cfg_run.proofs.RoleSteps.{handed_in_member}
use Rattle.cfg_run.proofs.RunSteps.{handed_begun, walk_comes}
use Rattle.cfg_run.proofs.run.Run.poll.Goals as goal

pub walk-requires-clause-begun : goal.walk-requires-clause-begun
walk-requires-clause-begun g c =
    let over : ChainSetting = chain_of (λ z. (goal.ProvideCredentials-dyn g z).value z.1) (λ z. (goal.ClassifyRetry-dyn g z).repeated z.1) c.args.self.now.chain.now in
    subst (λ (s : CallSoFar). HasBegun over s.base s.asked) (sym c.in_ok-hand_in.ensures.asked) (handed_begun over c.args.self.now.progress c.args.receipt c.requires.under_way c.requires.fits)

pub walk-requires-clause-key : goal.walk-requires-clause-key
walk-requires-clause-key g c = ap (λ (s : CallSoFar). s.key) c.in_ok-hand_in.ensures.asked ∙ c.requires.under_way.0

pub walk-requires-clause-place : goal.walk-requires-clause-place
walk-requires-clause-place g c =
    let over : ChainSetting = chain_of (λ z. (goal.ProvideCredentials-dyn g z).value z.1) (λ z. (goal.ClassifyRetry-dyn g z).repeated z.1) c.args.self.now.chain.now in
    subst (λ (s : CallSoFar). IsInMember over s s.question s.member) (sym c.in_ok-hand_in.ensures.asked) (handed_in_member over c.args.self.now.progress c.args.receipt c.requires.under_way c.requires.fits)

pub returns-in-Ok-clause-comes : goal.returns-in-Ok-clause-comes
returns-in-Ok-clause-comes g c =
    let over : ChainSetting = chain_of (λ z. (goal.ProvideCredentials-dyn g z).value z.1) (λ z. (goal.ClassifyRetry-dyn g z).repeated z.1) c.args.self.now.chain.now in
    let s = c.args.self.now.progress in
    let handed = c.hand_in.new.self in
    let w = c.in-Ok.walked in
    walk_comes over s handed c.go_on.new.self.progress (s.asked ++ option_to_list c.args.receipt) (states_after w.kept handed.kept) (found_after w.kept handed.found)
    w.member w.next c.go_on.result c.requires.under_way.0 c.in_ok-hand_in.ensures.asked (rw c.walk.ensures.progress at c.go_on.ensures.progress) c.go_on.ensures.step c.in-Ok.ensures.comes

pub take_back-requires : goal.take_back-requires
take_back-requires g c =
    let s = c.args.self.now.progress in
    subst (λ j. IsLastRole c.mark-mark.result.last_role j) (sym (asked_taken_back s c.walk.new.self.progress (option_to_list c.args.receipt) c.mark-mark.result.count c.mark-mark.ensures.0 (c.walk.ensures.progress ∙ c.in_ok-hand_in.ensures.asked)))
    c.mark-mark.ensures.1

pub returns-in-Err-clause-stays : goal.returns-in-Err-clause-stays
returns-in-Err-clause-stays g c =
    let s = c.args.self.now.progress in
    call_taken_back s c.walk.new.self.progress c.take_back.new.self (option_to_list c.args.receipt) s.asked c.mark-mark.result.count refl c.mark-mark.ensures.0 (c.walk.ensures.progress ∙ c.in_ok-hand_in.ensures.asked) c.take_back.ensures
