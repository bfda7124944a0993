use Rattle.cfg_token_chain.specs.ProfileTokens.{profile_token, ProfileTokenCause, default_token, DefaultTokenCause}
use Rattle.cfg_token_chain.proofs.OneCall.{token_prefix}
use Rattle.cfg_token_chain.proofs.laws.a_beginning_is_a_prefix.Goals as goal

pub returns-clause-default : goal.returns-clause-default
returns-clause-default c = λ conf. token_prefix (default_token conf) (DefaultTokenCause conf)

pub returns-clause-profile : goal.returns-clause-profile
returns-clause-profile c = λ conf. token_prefix (profile_token conf) (ProfileTokenCause conf)
