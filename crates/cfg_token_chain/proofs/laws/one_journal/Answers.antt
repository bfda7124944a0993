use Rattle.std.proofs.Common.{sym, ◌∙◌}
use Rattle.cfg_meta.proofs.OneCall.{one_call}
use Rattle.cfg_meta.specs.TokenAnswers.{token_rules}
use Rattle.cfg_token_chain.specs.Members.{name_in, IsTokenTree}
use Rattle.cfg_token_chain.specs.ProfileTokens.{profile_token, ProfileTokenCause, default_token, DefaultTokenCause}
use Rattle.cfg_token_chain.proofs.OneCall.{one_token}
use Rattle.cfg_token_chain.proofs.laws.one_journal.Goals as goal

pub returns-clause-default : goal.returns-clause-default
returns-clause-default c = λ conf. one_token (default_token conf) (DefaultTokenCause conf)

pub returns-clause-profile : goal.returns-clause-profile
returns-clause-profile c = λ conf. one_token (profile_token conf) (ProfileTokenCause conf)

pub returns-clause-members : goal.returns-clause-members
returns-clause-members c = one_call token_rules name_in IsTokenTree (λ m s t p q. p ∙ sym q)
