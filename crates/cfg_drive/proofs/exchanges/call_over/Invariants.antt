-- The run gave no answer yet; what it asked, and the receipt that is next, are exchanges that were written and read.
use Rattle.std.proofs.Common.{◌≡◌, ◌≤◌, ◌++◌, Some, IfSome, option_to_list}
use Rattle.cfg_kept.specs.Kinds.{no_states}
use Rattle.cfg_chain.specs.Settings.{ChainSetting}
use Rattle.cfg_chain.specs.Views.{chain_of}
use Rattle.cfg_program.specs.Streams.{sink_seen}
use Rattle.cfg_run.specs.Runs.{IsUnderWay}
use Rattle.cfg_drive.specs.Conversations.{heard}
use Rattle.cfg_drive.proofs.Exchanging.{Exchanged}
use Rattle.cfg_drive.proofs.exchanges.call_over.Given as goal

abbrev pub invariant-loop-line : goal.invariant-loop-line
invariant-loop-line g l =
    let over : ChainSetting = chain_of (λ z. (goal.ProvideCredentials-dyn g z).value z.1) (λ z. (goal.ClassifyRetry-dyn g z).repeated z.1) l.chain in
    record {
      chain : l.run.chain.now ≡ l.chain;
      under_way : IsUnderWay over l.run.progress;
      base : l.run.progress.base ≡ no_states;
      fits : IfSome l.receipt (λ e. l.run.progress.question ≡ Some e.0);
      exchanged : Exchanged over (heard g.S.Source l.fn.reader l.fn.source l.reader l.source) (sink_seen g.K.Sink l.fn.sink l.sink) l.line (l.run.progress.asked ++ option_to_list l.receipt);
      source_counted : g.S.Source.faults l.fn.source ≤ g.S.Source.faults l.source;
      sink_counted : g.K.Sink.faults l.fn.sink ≤ g.K.Sink.faults l.sink;
    }
