-- The value is shallow, and has no floats.
use Rattle.std.proofs.Common.{sym, subst}
use Rattle.std.proofs.lemmas.Result.{IfOk-weaker}
use Rattle.std.specs.Prelude.{string_bytes}
use Rattle.serde_json.specs.Read.{max_depth}
use Rattle.cfg_chain.specs.Views.{chain_of}
use Rattle.cfg_lines.proofs.Members.{IsPlain}
use Rattle.cfg_drive.specs.Outcomes.{IsJsonLine}
use Rattle.cfg_drive.proofs.Shallow.{outcome_plain}
use Rattle.cfg_drive.proofs.outcome.outcome_line.Goals as goal

pub json_line-requires-clause-shallow : goal.json_line-requires-clause-shallow
json_line-requires-clause-shallow g c = (subst (IsPlain max_depth) (sym c.in_ok-value.ensures) (outcome_plain (chain_of (λ z. (goal.ProvideCredentials-dyn g z).value z.1) (λ z. (goal.ClassifyRetry-dyn g z).repeated z.1) c.args.chain.now) c.args.answer.now _)).0

pub json_line-requires-clause-no_float : goal.json_line-requires-clause-no_float
json_line-requires-clause-no_float g c = (subst (IsPlain max_depth) (sym c.in_ok-value.ensures) (outcome_plain (chain_of (λ z. (goal.ProvideCredentials-dyn g z).value z.1) (λ z. (goal.ClassifyRetry-dyn g z).repeated z.1) c.args.chain.now) c.args.answer.now _)).1

pub returns : goal.returns
returns g c = IfOk-weaker c.json_line.result _ _
    (λ line j. record {
      resolved = string_bytes c.in_ok-resolved.resolved;
      shows = c.in_ok-resolved.ensures;
      tells = subst (λ v. IsJsonLine v line.items) (rw c.as_str.ensures.value at c.in_ok-value.ensures) j;
    }) c.json_line.ensures
