-- A section is its first reading and what follows that.
use Rattle.cfg_token.proofs.SectionSteps.{halted_first, section_follows}
use Rattle.cfg_token.proofs.loads.Loads.make_section.Goals as goal

pub returns-in-Err : goal.returns-in-Err
returns-in-Err g c = halted_first g.T.FileToken.rules g.A.Asking c.args.key.now c.args.env.now c.args.settings.now c.args.self.now c.args.asking.now c.ask_clock.new.asking c.in-Err.stop c.in-Err.ensures

pub returns-in-Ok : goal.returns-in-Ok
returns-in-Ok g c =
    section_follows g.T.FileToken.rules g.A.Asking c.args.key.now c.args.env.now c.args.settings.now c.args.self.now c.args.asking.now c.ask_clock.new.asking c.make_after.new.asking c.in-Ok.first c.in-Ok.ensures
    c.make_after.new.self c.make_after.result c.make_after.ensures
