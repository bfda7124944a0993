-- The kept token is handed out.
use Rattle.std.proofs.Common.{rules}
use Rattle.cfg_token.proofs.SectionSteps.{ended_hit}
use Rattle.cfg_token.proofs.loads.Loads.make_after.Goals as goal

pub returns-in-Some : goal.returns-in-Some
returns-in-Some g c =
    ended_hit g.T.FileToken.rules g.A.Asking c.args.key.now c.args.env.now c.args.settings.now c.args.self.now c.args.first c.args.asking.now c.in-Some.token c.requires.clock (search rules)
