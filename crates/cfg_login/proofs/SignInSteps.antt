-- A section of the key that is held.
use Rattle.std.proofs.Common.{◌≡◌, Option, Some, IfSome, Result, subst}
use Rattle.std.specs.Prelude.{ℕ, List}
use Rattle.cfg_types.specs.Environment.{Variables}
use Rattle.cfg_types.specs.declared.settings.CallSettings.{CallSettings}
use Rattle.cfg_world.specs.declared.asking.Asking.{Ghosts}
use Rattle.cfg_world.specs.declared.asking.Stop.{Stop}
use Rattle.cfg_profile.specs.Configuration.{Configuration}
use Rattle.cfg_profile.specs.Settings.{settings_of}
use Rattle.cfg_token.specs.declared.token_key.TokenKey.{TokenKey}
use Rattle.cfg_token.specs.declared.token_key.TokenKey.TheVariants.{Login}
use Rattle.cfg_login_token.specs.declared.login_token.LoginToken.{LoginToken}
use Rattle.cfg_login_token.specs.LoginTokens.{Given, login_rules}
use Rattle.cfg_kept.specs.Holds.{Holdings, HoldsFollows}
use Rattle.cfg_kept.specs.LoginHoldings.{login_holding, login_spot}
use Rattle.cfg_kept.proofs.SectionSteps.{section_told}
use Rattle.cfg_login.specs.SignIns.{section_of}

-- a section of this session's key, by the settings of a configuration
pub session_told : {W : Type 0} (w : Ghosts W) (conf : Configuration) (session : List ℕ) (env : Variables) (settings : CallSettings) (held : Option TokenKey) (old new : W) (before later : Holdings)
    (result : Result (Given LoginToken) Stop) → held ≡ Some (Login session) → env ≡ conf.environment → settings ≡ settings_of conf →
    IfSome held (λ key. HoldsFollows w (login_holding key env settings) old before new later result) → HoldsFollows w (section_of conf session) old before new later result
session_told w conf session env settings held old new before later result is same told h =
    subst (λ k. IfSome k (λ key. HoldsFollows w (login_holding key conf.environment (settings_of conf)) old before new later result)) is
    (section_told login_rules login_spot w held env conf.environment settings (settings_of conf) old new before later result same told h)
