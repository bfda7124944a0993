-- Nothing was asked yet.
use Rattle.std.proofs.Common.{refl, sym, subst}
use Rattle.cfg_chain.specs.Settings.{ChainSetting}
use Rattle.cfg_chain.specs.Views.{chain_of}
use Rattle.cfg_run.specs.Runs.{IsUnderWay}
use Rattle.cfg_run.proofs.run.Run.start.Goals as goal

pub returns-clause-under_way : goal.returns-clause-under_way
returns-clause-under_way g c =
    let over : ChainSetting = chain_of (λ z. (goal.ProvideCredentials-dyn g z).value z.1) (λ z. (goal.ClassifyRetry-dyn g z).repeated z.1) c.args.chain.now in
    subst (IsUnderWay over) (sym c.new.ensures) (c.requires, (refl, refl, refl))
