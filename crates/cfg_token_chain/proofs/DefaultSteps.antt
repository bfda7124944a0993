-- The default chain is one step behind its member.
use Rattle.std.proofs.Common.{◌≡◌, [], Option, Some, None, refl, codes}
use Rattle.cfg_types.specs.declared.errors.token.TokenError.{TokenError}
use Rattle.cfg_kept.specs.Chains.{chain, go_on}
use Rattle.cfg_kept.specs.KeptInquiry.{Gives, onwards}
use Rattle.cfg_meta.specs.AnswerRules.{asked_chain, passed_over}
use Rattle.cfg_profile.specs.Configuration.{Configuration}
use Rattle.cfg_sso.specs.BearerTokens.{Bearer}
use Rattle.cfg_token_chain.specs.ProfileTokens.{profile_token, default_token}
use Rattle.cfg_token_chain.specs.Told.{told_by, chain_answer, told_of_profile}
use Rattle.cfg_meta.specs.TokenAnswers.{token_rules}

step : (conf : Configuration) (given : Bearer) (o : Option TokenError) →
    Gives (told_by given o) ≡ go_on (asked_chain token_rules) (chain (asked_chain token_rules) []) (codes "Profile", profile_token conf) [] given o
unfolding chain
step conf given None = refl
step conf given (Some e) = refl

pub default_is_told : (conf : Configuration) → told_of_profile conf ≡ default_token conf
unfolding told_of_profile default_token chain_answer chain
default_is_told conf = λ i. onwards (profile_token conf) (λ given. step conf given (passed_over token_rules given) i)
