-- The call was made, and its line was written, as far as the sink took it.
use Rattle.std.proofs.Common.{map}
use Rattle.cfg_base.specs.TextMap.{named}
use Rattle.cfg_program.proofs.Endings.{local_ends, leaves_world}
use Rattle.cfg_program.proofs.run.local_line.Goals as goal

pub returns-in-Ok-clause-ends : goal.returns-in-Ok-clause-ends
returns-in-Ok-clause-ends g c =
    let made = c.in-Ok.ensures.made in
    local_ends _ _ _ made.0 made.1.journal c.in-Ok.answered.is_ok c.in-Ok.answered.lines.items made.2 c.write_lines.result c.write_lines.ensures

pub returns-in-Ok-clause-leaves : goal.returns-in-Ok-clause-leaves
returns-in-Ok-clause-leaves g c =
    let made = c.in-Ok.ensures.made in
    leaves_world _ (record { sources = _; variables = map named c.args.env.items }) c.in-Ok.answered.is_ok c.in-Ok.answered.lines.items made.0 c.args.world.now c.call_locally.new.world c.write_lines.result made.1 made.2
