use Rattle.std.proofs.Common.{◌≡◌, Some, sym, arith}
use Rattle.cfg_json.specs.Reading.{plain_end as plain_end_of}
use Rattle.cfg_json.proofs.PlainEnds.{end_at_mark, no_end_at_other, no_end_at_end, plain_end_is}
use Rattle.cfg_json.proofs.strings.plain_end.Goals.{else-end-text-via-then-end-text+else-text-end-eq34, else-end-text-via-else-end-text}
use Rattle.cfg_json.proofs.strings.plain_end.Goals as goal

pub returns-then-text-end-eq34-clause-value : goal.returns-then-text-end-eq34-clause-value
returns-then-text-end-eq34-clause-value c = sym (end_at_mark c.args.text.now c.plain_run-end.result c.plain_run-end.ensures.value c.if-end-text.true c.if-text-end-eq34.true)

pub returns-then-text-end-eq34-clause-ends : goal.returns-then-text-end-eq34-clause-ends
returns-then-text-end-eq34-clause-ends c =
    let found : plain_end_of c.args.text.now ≡ Some c.plain_run-end.result = end_at_mark c.args.text.now c.plain_run-end.result c.plain_run-end.ensures.value c.if-end-text.true c.if-text-end-eq34.true in
    sym (plain_end_is c.args.text.now c.plain_run-end.result found).0

pub returns-then-text-end-eq34-clause-plain : goal.returns-then-text-end-eq34-clause-plain
returns-then-text-end-eq34-clause-plain c =
    let found : plain_end_of c.args.text.now ≡ Some c.plain_run-end.result = end_at_mark c.args.text.now c.plain_run-end.result c.plain_run-end.ensures.value c.if-end-text.true c.if-text-end-eq34.true in
    (plain_end_is c.args.text.now c.plain_run-end.result found).1

pub returns-else-end-text-clause-value : goal.returns-else-end-text-clause-value
returns-else-end-text-clause-value c = elim c.else-end-text.branch [
  | else-end-text-via-then-end-text+else-text-end-eq34 w ↦ sym (no_end_at_other c.args.text.now c.plain_run-end.result c.plain_run-end.ensures.value w.if-end-text.true w.if-text-end-eq34.false)
  | else-end-text-via-else-end-text w ↦ sym (no_end_at_end c.args.text.now c.plain_run-end.result c.plain_run-end.ensures.value (omega (arith, w.if-end-text.false)))
]
