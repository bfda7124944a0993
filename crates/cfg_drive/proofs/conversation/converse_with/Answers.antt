-- The call is that of the chain which the script configures.
use Rattle.std.proofs.Common.{subst}
use Rattle.std.proofs.lemmas.Result.{MatchResult-weaker}
use Rattle.cfg_program.specs.Streams.{sink_seen}
use Rattle.cfg_script.specs.Script.{plain}
use Rattle.cfg_drive.specs.Conversations.{heard}
use Rattle.cfg_drive.specs.Driven.{StopsBehind, TellsCall}
use Rattle.cfg_drive.proofs.Exchanging.{match_err}
use Rattle.cfg_drive.proofs.Telling.{setting_is, call_stops, tells_call, outcome_stops}
use Rattle.cfg_drive.proofs.conversation.converse_with.Goals as goal

pub returns-in_err-called-clause-ends : goal.returns-in_err-called-clause-ends
returns-in_err-called-clause-ends g c =
    let e = setting_is _ _ _ (plain c.args.script) c.in_ok-chain.ensures c.in_ok-config.ensures (simp c.new.ensures.items) in
    let source = heard g.S.Source c.args.reader.now c.args.source.now c.call_over.new.reader c.call_over.new.source in
    let sink = sink_seen g.K.Sink c.args.sink.now c.call_over.new.sink in
    match_err _ c.in_err-called.field-0.0 _ _ c.from_residual-in_err-called.ensures.1
    (subst (λ over. StopsBehind over source sink c.in_err-called.field-0.0) e (call_stops _ source sink c.in_err-called.field-0.0 c.in_err-called.ensures.ends))

pub returns-clause-ends : goal.returns-clause-ends
returns-clause-ends g c =
    let e = setting_is _ _ _ (plain c.args.script) c.in_ok-chain.ensures c.in_ok-config.ensures (simp c.new.ensures.items) in
    let ends = c.in_ok-called.ensures.ends in
    let source = heard g.S.Source c.args.reader.now c.args.source.now c.call_over.new.reader c.call_over.new.source in
    let sink = sink_seen g.K.Sink c.args.sink.now c.tell_outcome.new.sink in
    MatchResult-weaker c.tell_outcome.result c.tell_outcome.ensures.tells
    (λ b w. subst (λ over. TellsCall over source sink b) e (tells_call _ source _ _ _ _ _ _ _ _ b ends w))
    (λ s w. subst (λ over. StopsBehind over source sink s) e (outcome_stops _ source _ _ _ _ _ _ _ _ s c.call_over.ensures.sink_counted ends w))
