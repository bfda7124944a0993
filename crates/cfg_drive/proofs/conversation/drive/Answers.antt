-- What was read ahead is what the reader holds at the end.
use Rattle.std.proofs.Common.{true, false, inl}
use Rattle.cfg_program.specs.Streams.{sink_seen}
use Rattle.cfg_drive.specs.Driven.{EndsDriven, Fails, Tells}
use Rattle.cfg_drive.specs.declared.driven.Driven.TheVariants.{OutOfMemory}
use Rattle.cfg_drive.proofs.Telling.{ends_as, ends_by_break}
use Rattle.cfg_drive.proofs.conversation.drive.Goals as goal

pub returns-in-Ok-true : goal.returns-in-Ok-true
returns-in-Ok-true g c =
    let sink = sink_seen g.K.Sink c.args.sink.now c.converse.new.sink in
    ends_as (λ source. Tells source sink true) (g.S.Source.left c.args.source.now) (g.S.Source.left c.converse.new.source) (g.S.Source.faults c.args.source.now) (g.S.Source.faults c.converse.new.source)
    c.new-reader.result c.converse.new.reader c.new-reader.ensures (rw c.in-Ok-true.field-0-test at c.in-Ok-true.ensures.ends)

pub returns-in-Ok-false : goal.returns-in-Ok-false
returns-in-Ok-false g c =
    let sink = sink_seen g.K.Sink c.args.sink.now c.converse.new.sink in
    ends_as (λ source. Tells source sink false) (g.S.Source.left c.args.source.now) (g.S.Source.left c.converse.new.source) (g.S.Source.faults c.args.source.now) (g.S.Source.faults c.converse.new.source)
    c.new-reader.result c.converse.new.reader c.new-reader.ensures (rw c.in-Ok-false.field-0-test at c.in-Ok-false.ensures.ends)

pub returns-in-Err-Broken : goal.returns-in-Err-Broken
returns-in-Err-Broken g c =
    ends_by_break (g.S.Source.left c.args.source.now) (g.S.Source.left c.converse.new.source) (g.K.Sink.written c.args.sink.now) (g.K.Sink.written c.converse.new.sink) (g.K.Sink.written c.tell_broken.new.sink)
    (g.S.Source.faults c.args.source.now) (g.S.Source.faults c.converse.new.source) (g.K.Sink.faults c.args.sink.now) (g.K.Sink.faults c.converse.new.sink) (g.K.Sink.faults c.tell_broken.new.sink)
    c.new-reader.result c.converse.new.reader c.in-Err-Broken.broken c.tell_broken.result c.new-reader.ensures c.converse.ensures.counted
    (rw c.in-Err-Broken.field-0-is at c.in-Err-Broken.ensures.ends) c.tell_broken.ensures.tells

pub returns-in-Err-Unwritten : goal.returns-in-Err-Unwritten
returns-in-Err-Unwritten g c =
    let sink = sink_seen g.K.Sink c.args.sink.now c.converse.new.sink in
    ends_as (λ source. Fails source sink) (g.S.Source.left c.args.source.now) (g.S.Source.left c.converse.new.source) (g.S.Source.faults c.args.source.now) (g.S.Source.faults c.converse.new.source)
    c.new-reader.result c.converse.new.reader c.new-reader.ensures (rw c.in-Err-Unwritten.field-0-is at c.in-Err-Unwritten.ensures.ends)

pub returns : goal.returns
returns g c =
    let sink = sink_seen g.K.Sink c.args.sink.now c.converse.new.sink in
    ends_as (λ source. EndsDriven source sink OutOfMemory) (g.S.Source.left c.args.source.now) (g.S.Source.left c.converse.new.source) (g.S.Source.faults c.args.source.now) (g.S.Source.faults c.converse.new.source)
    c.new-reader.result c.converse.new.reader c.new-reader.ensures (inl (rw c.in-Err-OutOfMemory.field-0-is at c.in-Err-OutOfMemory.ensures.ends))
