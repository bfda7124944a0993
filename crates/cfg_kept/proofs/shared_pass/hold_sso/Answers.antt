-- What the section found has its place in the list.
use Rattle.std.proofs.Common.{rules}
use Rattle.cfg_token.specs.SsoTokens.{sso_rules}
use Rattle.cfg_kept.specs.SsoHoldings.{sso_spot, sso_is_spot}
use Rattle.cfg_kept.proofs.SharedSteps.{nothing_found, section_shared}
use Rattle.cfg_kept.proofs.shared_pass.hold_sso.Goals as goal

pub returns-in_err-take_place : goal.returns-in_err-take_place
returns-in_err-take_place g c = nothing_found g.A.Asking _ _ _ _ _ (search rules) (search rules)

pub returns : goal.returns
returns g c = section_shared sso_rules sso_spot sso_is_spot g.A.Asking _ _ _ _ _ _ _ _ _ _ (search rules) c.follow-answer.ensures
