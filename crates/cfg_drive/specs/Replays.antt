-- Conversations as scripts that replay them.
use Rattle.std.specs.Prelude.{◌≡◌, ℕ, List, [], ◌∷◌, ◌++◌, All, Contains, Option, Some, None, IfSome, map}
use Rattle.std.specs.List.{flat_map}
use Rattle.cfg_world.specs.declared.ask.Question.{Question}
use Rattle.cfg_world.specs.declared.ask.Question.TheVariants as question
use Rattle.cfg_world.specs.declared.ask.Answer.{Answer as Given}
use Rattle.cfg_world.specs.declared.ask.Answer.TheVariants as answer
use Rattle.cfg_world.specs.declared.script.DeviceLists.{DeviceLists}
use Rattle.cfg_world.specs.Fits.{Pair}
use Rattle.cfg_world.specs.Script.{no_answers, latest}
use Rattle.cfg_providers.specs.CustomSources.{Answer}
use Rattle.cfg_chain.specs.Settings.{with_sources}
use Rattle.cfg_program.specs.Calls.{configuration_of}
use Rattle.cfg_script.specs.Devices.{lists_of}
use Rattle.cfg_script.specs.Reading.{script_of}
use Rattle.cfg_script.specs.Script.{Plain}
use Rattle.cfg_drive.specs.Conversations.{Exchange, IsExchange, IsCallOver, journal_of}

-- the lists of answers of a script, if there is one
abbrev pub lists_in : Option Plain → DeviceLists
lists_in None = no_answers
lists_in (Some p) = lists_of p

-- the lists of answers that a line says
abbrev pub lists_said : List ℕ → DeviceLists
lists_said line = lists_in (script_of line)

-- lists of answers put together, each list behind those before it
abbrev pub together : List DeviceLists → DeviceLists
together parts = record {
  files = flat_map (λ lists. lists.files) parts;
  unwritable = flat_map (λ lists. lists.unwritable) parts;
  clock = flat_map (λ lists. lists.clock) parts;
  jitter = flat_map (λ lists. lists.jitter) parts;
  commands = flat_map (λ lists. lists.commands) parts;
  lookups = flat_map (λ lists. lists.lookups) parts;
  http = flat_map (λ lists. lists.http) parts;
  imds_token = flat_map (λ lists. lists.imds_token) parts;
  imds_get = flat_map (λ lists. lists.imds_get) parts;
  assume_role = flat_map (λ lists. lists.assume_role) parts;
  web_identity = flat_map (λ lists. lists.web_identity) parts;
  role_credentials = flat_map (λ lists. lists.role_credentials) parts;
  create_token = flat_map (λ lists. lists.create_token) parts;
  sign_in = flat_map (λ lists. lists.sign_in) parts;
}

-- the answers that the lines of a conversation say, in order
abbrev pub answers_said : List Exchange → DeviceLists
answers_said exchanges = together (map (λ x. lists_said x.said) exchanges)

-- The script that the lines of a conversation make: what its first line says, with the answers of all later lines.
abbrev pub script_made : Plain → List Exchange → Plain
script_made first exchanges = record first { devices = answers_said exchanges }

-- what was written, and where, if this was a write that was granted
abbrev pub written : Question → Given → List (List ℕ × List ℕ)
written (question.Write path bytes) answer.Written = (path, bytes) ∷ []
written _ _ = []

-- the writes that were granted, in order
abbrev pub written_in : List Pair → List (List ℕ × List ℕ)
written_in journal = flat_map (λ e. written e.0 e.1) journal

-- No path was read with two contents, nor otherwise than it was last written, nor both written and refused.
pub record HasOneContent (journal : List Pair) : Type 0 where
  pub reads : (path : List ℕ) (one other : Given) → Contains journal (question.Read path, one) → Contains journal (question.Read path, other) → one ≡ other
  pub behind : (before after : List Pair) (path : List ℕ) (given : Given) → journal ≡ before ++ (question.Read path, given) ∷ after
      → IfSome (latest path (written_in before)) (λ bytes. given ≡ answer.Contents bytes)
  pub writes : (path bytes more : List ℕ) (one other : Given)
      → Contains journal (question.Write path bytes, one) → Contains journal (question.Write path more, other) → one ≡ other

-- The exchanges are those of a whole call of the chain that the first line configures, without sources of a caller's own,
-- and no path was read with two contents.
pub record IsReplayable (first : Plain) (exchanges : List Exchange) (out : Answer) : Type 0 where
  pub one_call : first.calls ≡ 1
  pub each : All IsExchange exchanges
  pub call : IsCallOver (with_sources (configuration_of first) []) exchanges out
  pub one_content : HasOneContent (journal_of exchanges)
