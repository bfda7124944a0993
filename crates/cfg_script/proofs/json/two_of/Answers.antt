use Rattle.std.proofs.Common.{arith}
use Rattle.cfg_script.proofs.Pairs.{not_two}
use Rattle.cfg_script.proofs.json.two_of.Goals as goal

pub returns-then-len-ne2 : goal.returns-then-len-ne2
returns-then-len-ne2 c = not_two c.args.items.items (λ h. omega arith)
