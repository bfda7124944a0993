-- What is handed back is what was judged.
use Rattle.std.proofs.Common.{◌≡◌, ◌∙◌, sym, subst}
use Rattle.cfg_kept.specs.KeptStates.{kept_key}
use Rattle.cfg_chain.specs.Settings.{ChainSetting}
use Rattle.cfg_chain.specs.Views.{chain_of}
use Rattle.cfg_sharing.specs.Calls.{AreCalled}
use Rattle.cfg_sharing.proofs.Verdicts.{if_same}
use Rattle.cfg_sharing.proofs.share.share_calls.Goals as goal

pub returns-clause-calls : goal.returns-clause-calls
returns-clause-calls g c =
    let over : ChainSetting = chain_of (λ z. (goal.ProvideCredentials-dyn g z).value z.1) (λ z. (goal.ClassifyRetry-dyn g z).repeated z.1) c.args.chain.now in
    if_same (λ shared. AreCalled g.D.Devices over c.args.worlds.items shared.calls) _ _ c.judge.ensures.same
    (subst (λ calls. AreCalled g.D.Devices over c.args.worlds.items calls) (sym c.of.ensures) c.in_ok-calls.ensures)

pub returns-clause-key : goal.returns-clause-key
returns-clause-key g c =
    if_same (λ shared. kept_key shared.kept ≡ kept_key c.args.kept) _ _ c.judge.ensures.same (c.into_kept.ensures.key ∙ c.new-shared_kept.ensures)
