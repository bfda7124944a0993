-- The plan's key is the configuration's.
use Rattle.std.proofs.Common.{ap, ◌∙◌}
use Rattle.cfg_chain.specs.profile.Plans.{key_of_settled}
use Rattle.cfg_chain.proofs.OnePlan.{settled_key}
use Rattle.cfg_chain.proofs.settled.Settled.of.Goals as goal

pub returns : goal.returns
returns c = record {
  token_key = c.in_ok-token_key.ensures ∙ ap key_of_settled c.in_ok-plan.ensures ∙ settled_key c.args.config.now;
  plan = c.in_ok-plan.ensures;
  container = rw (← c.env.ensures) c.in_ok-container.ensures;
  imds_endpoint = c.in_ok-imds_endpoint.ensures;
}
