-- The default chain, as one step behind its member.
use Rattle.std.specs.Prelude.{[], ◌∷◌, Option, Some, None, Err, codes}
use Rattle.cfg_types.specs.declared.errors.token.TokenError.{TokenError}
use Rattle.cfg_kept.specs.KeptInquiry.{KeptInquiry, Gives, onwards}
use Rattle.cfg_meta.specs.AnswerRules.{passed_over, attempt_of}
use Rattle.cfg_profile.specs.Configuration.{Configuration}
use Rattle.cfg_sso.specs.BearerTokens.{Bearer}
use Rattle.cfg_token_chain.specs.ProfileTokens.{profile_token}
use Rattle.cfg_meta.specs.TokenAnswers.{token_rules, none_loaded}

-- the error where the profile was not loaded, for this reason
abbrev pub none_loaded_by : TokenError → TokenError
none_loaded_by e = none_loaded (attempt_of (codes "Profile") e ∷ [])

abbrev pub told_by : Bearer → Option TokenError → Bearer
told_by given (Some e) = Err (none_loaded_by e)
told_by given None = given

-- what the chain answers where its member answers so
unfoldable pub chain_answer : Bearer → Bearer
chain_answer given = told_by given (passed_over token_rules given)

-- the member, and then what the chain tells
unfoldable pub told_of_profile : Configuration → KeptInquiry Bearer
told_of_profile conf = onwards (profile_token conf) (λ given. Gives (chain_answer given))
