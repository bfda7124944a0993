-- What an audit tells of answers that are handed in by the kinds of their questions.
use Rattle.std.specs.Prelude.{◌≡◌, ℕ, ◌+◌, ◌<◌, List, ◌++◌, length, map, Bool, true, false, option_map, codes}
use Rattle.std.specs.Fmt.{decimal}
use Rattle.std.specs.Str.{encode_utf8_all}
use Rattle.cfg_base.specs.Text.{characters}
use Rattle.cfg_world.specs.declared.ask.Answer.{Answer}
use Rattle.cfg_kept.specs.Kinds.{Value, States, no_states}
use Rattle.cfg_profile.specs.Configuration.{Configuration}
use Rattle.cfg_providers.specs.CustomSources.{NamedAnswer}
use Rattle.cfg_chain.specs.Settings.{ChainSetting, with_sources}
use Rattle.cfg_explain.specs.Replays.{Tells}
use Rattle.cfg_explain.specs.declared.answering.Answering.{Answering}
use Rattle.cfg_explain.specs.declared.answering.Replay.{Replay}
use Rattle.cfg_explain.specs.declared.answering.Replay.TheVariants.{Whole, Other, Short, Long}
use Rattle.cfg_script.specs.Script.{PlainAudit}
use Rattle.cfg_program.specs.Calls.{configured_by, in_region, source_of}
use Rattle.cfg_program.specs.Lines.{shown}

-- what the script of an audit configures
abbrev pub audit_configuration : PlainAudit → Configuration
audit_configuration p = in_region (configured_by p.variables (source_of p.profiles) p.selected p.sleep p.service) (option_map characters p.region)

-- the answer of an entry that a script says
abbrev pub answering : List ℕ × Answer → Answering
answering entry = record { kind = entry.0; answer = entry.1 }

-- whether the answers are those of a whole call
abbrev pub is_whole : Replay → Bool
is_whole (Whole journal out) = true
is_whole _ = false

-- `audit no`, the place of an entry, counted from 1, and the kind that is wanted there
abbrev pub no_line : ℕ → List ℕ → List ℕ
no_line place wanted = codes "audit no " ++ (decimal place ++ (codes " " ++ (wanted ++ codes "\n")))

-- `audit yes` and the line of the call; or where the answers, so many of them, depart from those of a call, and what
-- the call asks there: a kind, or nothing more
abbrev pub shown_audit : ℕ → Replay → List ℕ
shown_audit count (Whole journal out) = codes "audit yes " ++ shown out journal
shown_audit count (Other at wanted) = no_line (at + 1) (encode_utf8_all wanted)
shown_audit count (Short wanted) = no_line (count + 1) (encode_utf8_all wanted)
shown_audit count (Long at) = no_line (at + 1) (codes "end")

-- a place that is told is that of an answer
abbrev pub IsPlaceOf : ℕ → Replay → Type 0
IsPlaceOf count (Other at wanted) = at < count
IsPlaceOf count (Long at) = at < count
IsPlaceOf count _ = Unit {0}

-- What is told of these answers has this line. Nothing is kept before the call.
pub record Audits (over : ChainSetting) (answers : List Answering) (is_yes : Bool) (line : List ℕ) : Type 0 where
  pub kept : States
  pub found : List Value
  pub told : Replay
  pub tells : Tells over no_states kept found answers told
  pub yes : is_yes ≡ is_whole told
  pub shows : line ≡ shown_audit (length answers) told

-- the audit of a script's journal, with these sources of the caller's own
abbrev pub AuditAnswers : List NamedAnswer → PlainAudit → Bool → List ℕ → Type 0
AuditAnswers sources p is_yes line = Audits (with_sources (audit_configuration p) sources) (map answering p.journal) is_yes line
