-- Before the first call, one call more, and behind the last.
use Rattle.std.proofs.Common.{◌≡◌, ◌∙◌, refl, subst, arith}
use Rattle.cfg_kept.specs.KeptStates.{states_of}
use Rattle.cfg_chain.specs.Settings.{ChainSetting}
use Rattle.cfg_chain.specs.Views.{chain_of}
use Rattle.cfg_program.specs.Why.{told_as}
use Rattle.cfg_program.specs.Calls.{IsMade, MakesCalls}
use Rattle.cfg_program.proofs.Calling.{none_made, one_more}
use Rattle.cfg_program.proofs.resolve.calls.Goals as goal

pub loop-init : goal.loop-init
loop-init g c =
    let over : ChainSetting = chain_of (λ z. (goal.ProvideCredentials-dyn g z).value z.1) (λ z. (goal.ClassifyRetry-dyn g z).repeated z.1) c.args.chain.now in
    record {
      made = none_made (IsMade over) g.D.Devices (told_as over c.args.form) c.args.world.now.devices (states_of c.args.kept.now) c.args.lines.now.items;
      key = refl;
    }

pub loop-preserved : goal.loop-preserved
loop-preserved g c =
    let over : ChainSetting = chain_of (λ z. (goal.ProvideCredentials-dyn g z).value z.1) (λ z. (goal.ClassifyRetry-dyn g z).repeated z.1) c.args.chain.now in
    record {
      made = one_more (IsMade over) g.D.Devices (told_as over c.args.form) _ _ _ _ _ _ _ _ _ _ _ _ c.loop.invariant.made c.in_ok-is_ok.ensures.call;
      key = c.call.ensures.key ∙ c.loop.invariant.key;
    }

pub returns-clause-calls : goal.returns-clause-calls
returns-clause-calls g c =
    let all : c.loop.counter ≡ c.args.count = omega arith in
    let over : ChainSetting = chain_of (λ z. (goal.ProvideCredentials-dyn g z).value z.1) (λ z. (goal.ClassifyRetry-dyn g z).repeated z.1) c.args.chain.now in
    subst (λ n. MakesCalls (IsMade over) g.D.Devices (told_as over c.args.form) n (states_of c.args.kept.now) (states_of c.loop.kept) c.args.world.now.devices c.loop.world.devices
    c.loop.is_ok c.args.lines.now.items c.loop.lines.items) all c.loop.invariant.made
