-- The key of a session is one of IAM Identity Center.
use Rattle.std.proofs.Common.{◌∙◌}
use Rattle.cfg_token_chain.proofs.OneSession.{session_sso}
use Rattle.cfg_token_chain.proofs.profile.token.ProfileFileTokenProvider.follow.Goals as goal

pub follow_bearer-requires-clause-kind : goal.follow_bearer-requires-clause-kind
follow_bearer-requires-clause-kind g c = session_sso c.self.inside.config c.in-Ok.key (c.in_ok-key.ensures ∙ c.in-Ok.is)
