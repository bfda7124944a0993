-- A text that begins with neither `0` nor `+` has the number that `parse` reads.
use Rattle.std.proofs.Common.{ap, sym, ◌∙◌, arith}
use Rattle.std.specs.Prelude.{slice_get}
use Rattle.cfg_program.proofs.Counting.{counted, count_is, is_up_to_most, is_too_much}
use Rattle.cfg_program.proofs.commands.count_in.Goals as goal

pub returns-in-Ok-clause-value : goal.returns-in-Ok-clause-value
returns-in-Ok-clause-value c =
    sym (count_is c.args.text.now c.in_ok-first.first.now c.parse.result (c.in_ok-first.ensures.value ∙ ap (λ t. slice_get t 0) c.as_bytes.ensures.value) c.parse.ensures.value.0
    (λ e. omega (arith, c.if-first-eq48.false, e)) (λ e. omega (arith, c.if-first-eq43.false, e))
    ∙ ap counted c.in-Ok.is ∙ is_up_to_most c.in-Ok.number (omega (arith, c.if-number-le-MOST_PROFILES.true)))

pub returns-in_default-clause-value : goal.returns-in_default-clause-value
returns-in_default-clause-value c =
    sym (count_is c.args.text.now c.in_ok-first.first.now c.parse.result (c.in_ok-first.ensures.value ∙ ap (λ t. slice_get t 0) c.as_bytes.ensures.value) c.parse.ensures.value.0
    (λ e. omega (arith, c.if-first-eq48.false, e)) (λ e. omega (arith, c.if-first-eq43.false, e))
    ∙ ap counted c.in-Ok.is ∙ is_too_much c.in-Ok.number (omega (arith, c.if-number-le-MOST_PROFILES.false)))

pub returns-in_default-2-clause-value : goal.returns-in_default-2-clause-value
returns-in_default-2-clause-value c =
    sym (count_is c.args.text.now c.in_ok-first.first.now c.parse.result (c.in_ok-first.ensures.value ∙ ap (λ t. slice_get t 0) c.as_bytes.ensures.value) c.parse.ensures.value.0
    (λ e. omega (arith, c.if-first-eq48.false, e)) (λ e. omega (arith, c.if-first-eq43.false, e))
    ∙ ap counted c.in_default.is)
