-- What the first line configures.
use Rattle.std.specs.Prelude.{◌≡◌, ◌==◌, ℕ, List, [], length, Bool, ◌&&◌, false, IsTrue, Some, ⊤}
use Rattle.cfg_world.specs.declared.script.DeviceLists.{DeviceLists}
use Rattle.cfg_chain.specs.Settings.{ChainSetting, with_sources}
use Rattle.cfg_program.specs.Calls.{configuration_of}
use Rattle.cfg_script.specs.Devices.{lists_of}
use Rattle.cfg_script.specs.Reading.{script_of, fault_of, reason_of}
use Rattle.cfg_script.specs.Script.{Plain}
use Rattle.cfg_drive.specs.declared.configured.NoConfiguration.{NoConfiguration}
use Rattle.cfg_drive.specs.declared.configured.NoConfiguration.TheVariants.{NoScript, HasAnswers, SeveralCalls}
use Rattle.cfg_drive.specs.declared.driven.Cause.{Cause}
use Rattle.cfg_drive.specs.declared.driven.Cause.TheVariants as cause
use Rattle.cfg_drive.specs.declared.driven.Stopped.{Stopped}
use Rattle.cfg_drive.specs.declared.driven.Stopped.TheVariants as stopped

-- the lists of replies have no items
unfoldable pub has_no_replies : DeviceLists → Bool
has_no_replies lists = (length lists.http == 0)
    && (length lists.imds_token == 0)
    && (length lists.imds_get == 0)
    && (length lists.assume_role == 0)
    && (length lists.web_identity == 0)
    && (length lists.role_credentials == 0)
    && (length lists.create_token == 0)
    && (length lists.sign_in == 0)

-- no list of answers has an item
unfoldable pub has_no_answers : DeviceLists → Bool
has_no_answers lists = (length lists.files == 0)
    && (length lists.unwritable == 0)
    && (length lists.clock == 0)
    && (length lists.jitter == 0)
    && (length lists.commands == 0)
    && (length lists.lookups == 0)
    && has_no_replies lists

-- the line is a script of one call, without lists of answers
pub record IsConfiguration (line : List ℕ) (p : Plain) : Type 0 where
  pub script : script_of line ≡ Some p
  pub alone : IsTrue (has_no_answers (lists_of p))
  pub one_call : p.calls ≡ 1

-- the chain that it configures, without sources of a caller's own
abbrev pub setting_of : Plain → ChainSetting
setting_of p = with_sources (configuration_of p) []

-- why the line is no such script
abbrev pub IsNoConfiguration : List ℕ → NoConfiguration → Type 0
IsNoConfiguration line (NoScript fault) = fault_of line ≡ Some (reason_of fault)
IsNoConfiguration line HasAnswers = (p : Plain) × (script_of line ≡ Some p) × (has_no_answers (lists_of p) ≡ false)
IsNoConfiguration line SeveralCalls = (p : Plain) × (script_of line ≡ Some p) × ((p.calls == 1) ≡ false)

abbrev pub IsCauseOf : List ℕ → Cause → Type 0
IsCauseOf line (cause.NoConfiguration reason) = IsNoConfiguration line reason
IsCauseOf line _ = ⊥

-- The first line is no configuration; or memory ran out.
abbrev pub Misconfigures : List ℕ → Stopped → Type 0
Misconfigures line (stopped.Broken broken) = (broken.line ≡ 1) × IsCauseOf line broken.cause
Misconfigures line stopped.Unwritten = ⊥
Misconfigures line stopped.OutOfMemory = ⊤
