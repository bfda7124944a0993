-- One section, and what it gives.
use Rattle.std.proofs.Common.{rules}
use Rattle.cfg_sso.proofs.SsoSteps.{bearer_ends, bearer_breaks, bearer_halts}
use Rattle.cfg_sso.proofs.steps.follow_bearer.Goals as goal

pub returns-in_ok-outcome-in-Ok-clause-follows : goal.returns-in_ok-outcome-in-Ok-clause-follows
returns-in_ok-outcome-in-Ok-clause-follows g c =
    bearer_ends _ c.args.config.now (g.P.Keeper.key_held c.args.keeper.now) c.args.key.now c.args.asking.now c.section.new.asking (g.P.Keeper.holdings c.args.keeper.now) (g.P.Keeper.holdings c.section.new.keeper) c.in-Ok.given _
    c.requires.held c.in_ok-outcome-in-Ok.ensures c.in-Ok.ensures.follows

pub returns-in_err-outcome-in-Ok-clause-follows : goal.returns-in_err-outcome-in-Ok-clause-follows
returns-in_err-outcome-in-Ok-clause-follows g c =
    bearer_breaks _ c.args.config.now (g.P.Keeper.key_held c.args.keeper.now) c.args.key.now c.args.asking.now c.section.new.asking (g.P.Keeper.holdings c.args.keeper.now) (g.P.Keeper.holdings c.section.new.keeper) c.in-Ok.given _
    c.requires.held (search rules) c.in-Ok.ensures.follows

pub returns-in-Err-clause-follows : goal.returns-in-Err-clause-follows
returns-in-Err-clause-follows g c =
    bearer_halts _ c.args.config.now (g.P.Keeper.key_held c.args.keeper.now) c.args.key.now c.args.asking.now c.section.new.asking (g.P.Keeper.holdings c.args.keeper.now) (g.P.Keeper.holdings c.section.new.keeper) c.in-Err.stop
    c.requires.held c.in-Err.ensures.follows
