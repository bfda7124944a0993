-- A section by the settings of the configuration, unless memory ran out before it.
use Rattle.cfg_token.specs.SsoTokens.{sso_rules}
use Rattle.cfg_kept.specs.SsoHoldings.{sso_spot}
use Rattle.cfg_kept.proofs.SectionSteps.{section_told}
use Rattle.cfg_sso.proofs.SsoSteps.{nothing_found}
use Rattle.cfg_sso.proofs.section.section.Goals as goal

pub returns-in-Ok-clause-follows : goal.returns-in-Ok-clause-follows
returns-in-Ok-clause-follows g c = section_told sso_rules sso_spot _ _ _ _ _ _ _ _ _ _ _ c.env.ensures c.in-Ok.ensures c.sso_section.ensures.follows

pub returns-in-Err-clause-follows : goal.returns-in-Err-clause-follows
returns-in-Err-clause-follows g c = nothing_found _ c.args.config.now _ _ _
