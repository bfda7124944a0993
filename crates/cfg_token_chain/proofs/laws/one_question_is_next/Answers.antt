use Rattle.std.proofs.Common.{sym, ◌∙◌}
use Rattle.std.specs.Prelude.{Some}
use Rattle.cfg_kept.proofs.Beginnings.{whole_or_one}
use Rattle.cfg_meta.proofs.NextQuestions.{one_question}
use Rattle.cfg_meta.specs.TokenAnswers.{token_rules}
use Rattle.cfg_token_chain.specs.Members.{name_in, IsTokenTree}
use Rattle.cfg_token_chain.specs.ProfileTokens.{profile_token, default_token}
use Rattle.cfg_token_chain.proofs.laws.one_question_is_next.Goals as goal

pub returns-clause-default : goal.returns-clause-default
returns-clause-default c = λ conf old new found part. whole_or_one (default_token conf) old found part (Some new)

pub returns-clause-profile : goal.returns-clause-profile
returns-clause-profile c = λ conf old new found part. whole_or_one (profile_token conf) old found part (Some new)

pub returns-clause-members : goal.returns-clause-members
returns-clause-members c = one_question token_rules name_in IsTokenTree (λ m s t p q. p ∙ sym q)
