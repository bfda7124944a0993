-- The run gave no answer yet, and the world gained what it asked, and the receipt that is next.
use Rattle.std.proofs.Common.{◌≡◌, ◌++◌, Some, IfSome, option_to_list}
use Rattle.cfg_world.specs.Grows.{Grows}
use Rattle.cfg_kept.specs.KeptStates.{states_of}
use Rattle.cfg_chain.specs.Settings.{ChainSetting}
use Rattle.cfg_chain.specs.Views.{chain_of}
use Rattle.cfg_run.specs.Runs.{IsUnderWay}
use Rattle.caller.proofs.receipts.call_by_receipts.Given as goal

abbrev pub invariant-loop : goal.invariant-loop
invariant-loop g l =
    let over : ChainSetting = chain_of (λ z. (goal.ProvideCredentials-dyn g z).value z.1) (λ z. (goal.ClassifyRetry-dyn g z).repeated z.1) l.chain in
    record {
      chain : l.run.chain.now ≡ l.chain;
      under_way : IsUnderWay over l.run.progress;
      base : l.run.progress.base ≡ states_of l.fn.kept;
      fits : IfSome l.receipt (λ e. l.run.progress.question ≡ Some e.0);
      grows : Grows g.D.Devices (l.run.progress.asked ++ option_to_list l.receipt) l.fn.world l.world;
    }
