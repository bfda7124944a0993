use Rattle.std.proofs.Common.{◌++◌, sym, ◌∙◌}
use Rattle.std.proofs.lemmas.Bool.{eqb-true}
use Rattle.cfg_base.specs.Text.{characters}
use Rattle.cfg_json.proofs.StringSteps.{is_further, is_ended}
use Rattle.cfg_json.proofs.strings.is_content.Goals as goal

pub returns-then-is_empty : goal.returns-then-is_empty
returns-then-is_empty c =
    sym (is_ended c.split_plain.result.1.now (eqb-true _ _ (sym c.is_empty.ensures ∙ c.if-is_empty.true)))
    ∙ is_further (λ s. characters c.split_plain.result.0.now ++ s) _ _ c.split_plain.ensures.reads ∙ c.loop-behind.invariant.1
