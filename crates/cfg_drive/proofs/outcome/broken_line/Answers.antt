-- The value is shallow, and has no floats.
use Rattle.std.proofs.Common.{sym, subst, ◌∙◌}
use Rattle.std.proofs.lemmas.Result.{IfOk-weaker}
use Rattle.std.specs.Prelude.{string_bytes}
use Rattle.serde_json.specs.Read.{max_depth}
use Rattle.cfg_lines.proofs.Members.{IsPlain}
use Rattle.cfg_drive.specs.Outcomes.{IsJsonLine}
use Rattle.cfg_drive.proofs.Shallow.{broken_plain}
use Rattle.cfg_drive.proofs.outcome.broken_line.Goals as goal

pub json_line-requires-clause-shallow : goal.json_line-requires-clause-shallow
json_line-requires-clause-shallow c = (subst (IsPlain max_depth) (sym c.in_ok-value.ensures) (broken_plain _)).0

pub json_line-requires-clause-no_float : goal.json_line-requires-clause-no_float
json_line-requires-clause-no_float c = (subst (IsPlain max_depth) (sym c.in_ok-value.ensures) (broken_plain _)).1

pub returns : goal.returns
returns c = IfOk-weaker c.json_line.result _ _
    (λ line j. record {
      why = string_bytes c.in_ok-why.why;
      says = c.in_ok-why.ensures.ok;
      tells = subst (λ v. IsJsonLine v line.items) (rw (c.as_str-2.ensures.value ∙ rw c.as_str.ensures.value at c.in_ok-reason.ensures) at c.in_ok-value.ensures) j;
    }) c.json_line.ensures
