-- Each key where it belongs.
use Rattle.std.proofs.Common.{◌≡◌, ◌∙◌, rules}
use Rattle.cfg_providers.proofs.EnvironmentSteps.{environment_is, built_is}
use Rattle.cfg_providers.proofs.environment.credentials.environment_credentials.Goals as goal

pub returns : goal.returns
returns c =
    let featured : c.features.result ≡ record c.set_account_id.result.now { features = c.in_ok-origin.origin } = search rules in
    environment_is c.args.env.now _ _ c.in_ok-build.field-0 c.in_ok-id.ensures c.in_ok-secret.ensures
    (built_is _ _ _ _ _ _ _ _ _ _ _ _ _ _ c.in_ok-builder.ensures c.set_session_token.ensures.value c.set_account_id.ensures.value featured c.in_ok-build.ensures.built
    (c.in_ok-token.ensures ∙ c.optional_variable.ensures) (c.in_ok-account.ensures ∙ c.optional_variable-2.ensures) c.in_ok-origin.ensures)
