use Rattle.std.proofs.Common.{get_or, false, refl}
use Rattle.std.proofs.lemmas.Bool.{eq-eqb, ne_eqb}
use Rattle.cfg_json.specs.Ascii.{quotation_mark}
use Rattle.cfg_json.proofs.StringSteps.{end_found, end_reached, no_end}
use Rattle.cfg_json.proofs.strings.string_end.Goals as goal

pub returns-then-text-i-eq34-clause-value : goal.returns-then-text-i-eq34-clause-value
returns-then-text-i-eq34-clause-value c =
    end_found c.args.text.now c.loop-i.i (get_or c.args.text.now c.loop-i.i 0) false _ c.loop-i-test.true refl (eq-eqb (get_or c.args.text.now c.loop-i.i 0) quotation_mark c.if-text-i-eq34.true) c.loop-i.invariant

pub loop-i-preserved : goal.loop-i-preserved
loop-i-preserved c =
    end_reached c.args.text.now c.loop-i.i (get_or c.args.text.now c.loop-i.i 0) c.reach-i.result _ c.loop-i-test.true refl (ne_eqb (get_or c.args.text.now c.loop-i.i 0) quotation_mark c.if-text-i-eq34.false)
    c.reach-i.ensures.value c.loop-i.invariant

pub returns-clause-value : goal.returns-clause-value
returns-clause-value c = no_end c.args.text.now c.loop-i.i false _ c.loop-i-test.false c.loop-i.invariant
