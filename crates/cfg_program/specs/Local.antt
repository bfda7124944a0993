-- The call over the variables and the world that are handed in.
use Rattle.std.specs.Prelude.{◌≡◌, ℕ, List, Bool, true, Option, Some, is_ok}
use Rattle.cfg_base.specs.Entries.{each_set}
use Rattle.cfg_types.specs.declared.environment.EnvText.{EnvText}
use Rattle.cfg_world.specs.declared.devices.Devices.{Ghosts}
use Rattle.cfg_world.specs.Fits.{Pair}
use Rattle.cfg_world.specs.Grows.{Grows}
use Rattle.cfg_world.specs.Held.{Held}
use Rattle.cfg_profile.specs.Configuration.{Configuration, nothing_configured}
use Rattle.cfg_kept.specs.Kinds.{Value, States, no_states}
use Rattle.cfg_providers.specs.CustomSources.{NamedAnswer}
use Rattle.cfg_program.specs.declared.status.Status.{Status}
use Rattle.cfg_program.specs.declared.status.Status.TheVariants as status
use Rattle.cfg_program.specs.declared.commands.Command.{Command}
use Rattle.cfg_program.specs.declared.commands.Command.TheVariants.{Local}
use Rattle.cfg_chain.specs.Settings.{ChainSetting, with_sources}
use Rattle.cfg_chain.specs.Provides.{Interrupted}
use Rattle.cfg_program.specs.Lines.{shown}
use Rattle.cfg_program.specs.Calls.{Made, IsMade}

-- What the caller hands in: its own sources, each with what it answers, and variables.
pub record Handed : Type 0 where
  pub sources : List NamedAnswer
  pub variables : List (List ℕ × EnvText)

-- these variables, no sections and no region
abbrev pub local_configuration : List (List ℕ × EnvText) → Configuration
local_configuration variables = record (nothing_configured true) { environment = each_set variables }

-- One call of the default chain of this setting, with this journal, and its
-- line. Nothing is kept before it.
pub record CallAnswers (over : ChainSetting) (part : List Pair) (is_credentials : Bool) (line : List ℕ) : Type 0 where
  pub call : Made
  pub made : IsMade over no_states call
  pub asked : call.journal ≡ part
  pub credentials : is_credentials ≡ is_ok call.out
  pub shows : line ≡ shown call.out call.journal

-- the chain over what is handed in
abbrev pub local_setting : Handed → ChainSetting
local_setting handed = with_sources (local_configuration handed.variables) handed.sources

-- the call over what is handed in
abbrev pub LocalAnswers : Handed → List Pair → Bool → List ℕ → Type 0
LocalAnswers handed part is_credentials line = CallAnswers (local_setting handed) part is_credentials line

-- the same over a world, whose journal grew by exactly its questions
abbrev pub GrowsByCall : {D : Type 0} → Ghosts D → ChainSetting → Held D → Held D → Bool → List ℕ → Type 0
GrowsByCall d over before later is_credentials line = (part : List Pair) × Grows d part before later × CallAnswers over part is_credentials line

-- Memory ran out before, in or behind that call: its journal grew by nothing, or by the beginning of the call's
-- questions, or by all of them.
abbrev pub StopsInCall : {D : Type 0} → Ghosts D → ChainSetting → Held D → Held D → Type 0
StopsInCall d over before later = (kept : States) × (found : List Value) × Interrupted d over no_states kept found before later

-- What the call over what is handed in leaves of the world: its journal grew by a part, or, where memory ran out, by
-- the beginning of that call's.
abbrev pub LeavesWorld : {D : Type 0} → Ghosts D → Handed → Held D → Held D → Status → Type 0
LeavesWorld d handed before later status.OutOfMemory = StopsInCall d (local_setting handed) before later
LeavesWorld d handed before later ended = (part : List Pair) × Grows d part before later

-- what a run leaves of the world that is asked for this, or for nothing that is known
abbrev pub WorldAfter : {D : Type 0} → Ghosts D → Handed → Option Command → Held D → Held D → Status → Type 0
WorldAfter d handed (Some Local) before later ended = LeavesWorld d handed before later ended
WorldAfter d handed command before later ended = later ≡ before
