use Rattle.std.proofs.Common.{arith}
use Rattle.cfg_script.proofs.Pairs.{not_three}
use Rattle.cfg_script.proofs.json.three_of.Goals as goal

pub returns-then-len-ne3 : goal.returns-then-len-ne3
returns-then-len-ne3 c = not_three c.args.items.items (λ h. omega arith)
