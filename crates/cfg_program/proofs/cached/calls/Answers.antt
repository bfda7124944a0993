-- Before the first call, one call more, and behind the last.
use Rattle.std.proofs.Common.{◌≡◌, ◌∙◌, refl, subst, arith}
use Rattle.cfg_chain.specs.Settings.{ChainSetting}
use Rattle.cfg_chain.specs.Views.{chain_of}
use Rattle.cfg_identity.specs.NameStates.{state_of}
use Rattle.cfg_program.specs.declared.causes.Below.TheVariants.{Nothing}
use Rattle.cfg_program.specs.declared.lines.LineForm.TheVariants.{Call}
use Rattle.cfg_program.specs.Cached.{IsCachedCall}
use Rattle.cfg_program.specs.Lines.{shown_as}
use Rattle.cfg_program.specs.Calls.{MakesCalls}
use Rattle.cfg_program.proofs.Calling.{none_made, one_more}
use Rattle.cfg_program.proofs.cached.calls.Goals as goal

pub loop-init : goal.loop-init
loop-init g c =
    let over : ChainSetting = chain_of (λ z. (goal.ProvideCredentials-dyn g z).value z.1) (λ z. (goal.ClassifyRetry-dyn g z).repeated z.1) c.args.chain.now in
    record {
      made = none_made (IsCachedCall over) g.D.Devices (shown_as (Call Nothing)) c.args.world.now.devices (state_of c.args.loaded.now) c.args.lines.now.items;
      key = refl;
    }

pub loop-preserved : goal.loop-preserved
loop-preserved g c =
    let over : ChainSetting = chain_of (λ z. (goal.ProvideCredentials-dyn g z).value z.1) (λ z. (goal.ClassifyRetry-dyn g z).repeated z.1) c.args.chain.now in
    record {
      made = one_more (IsCachedCall over) g.D.Devices (shown_as (Call Nothing)) _ _ _ _ _ _ _ _ _ _ _ _ c.loop.invariant.made c.in_ok-is_ok.ensures.call;
      key = c.call.ensures.key ∙ c.loop.invariant.key;
    }

pub returns : goal.returns
returns g c =
    let all : c.loop.counter ≡ c.args.count = omega arith in
    let over : ChainSetting = chain_of (λ z. (goal.ProvideCredentials-dyn g z).value z.1) (λ z. (goal.ClassifyRetry-dyn g z).repeated z.1) c.args.chain.now in
    subst (λ n. MakesCalls (IsCachedCall over) g.D.Devices (shown_as (Call Nothing)) n (state_of c.args.loaded.now) (state_of c.loop.loaded)
    c.args.world.now.devices c.loop.world.devices c.loop.is_ok c.args.lines.now.items c.loop.lines.items) all c.loop.invariant.made
