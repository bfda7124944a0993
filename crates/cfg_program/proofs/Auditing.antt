-- The script of an audit has one line.
use Rattle.std.proofs.Common.{◌≡◌, ℕ, ◌+◌, List, [], ◌++◌, map, length, Bool, sym, ap, ◌∙◌, subst}
use Rattle.cfg_kept.specs.Kinds.{Value, States, no_states}
use Rattle.cfg_providers.specs.CustomSources.{NamedAnswer}
use Rattle.cfg_chain.specs.Settings.{ChainSetting, with_sources}
use Rattle.cfg_explain.specs.Replays.{Tells}
use Rattle.cfg_explain.specs.declared.answering.Answering.{Answering}
use Rattle.cfg_explain.specs.declared.answering.Replay.{Replay}
use Rattle.cfg_explain.specs.declared.answering.Replay.TheVariants.{Whole, Other, Short, Long}
use Rattle.cfg_explain.proofs.JournalSteps.{cut_at}
use Rattle.cfg_explain.proofs.OneReplay.{one_replay}
use Rattle.cfg_script.specs.Script.{PlainAudit}
use Rattle.cfg_program.specs.Audited.{audit_configuration, answering, is_whole, shown_audit, IsPlaceOf, Audits, AuditAnswers}

one_audited : (over : ChainSetting) (answers : List Answering) (a b : Bool) (line other : List ℕ) → Audits over answers a line → Audits over answers b other → (a ≡ b) × (line ≡ other)
one_audited over answers a b line other x y =
    let same = one_replay over no_states answers x.kept y.kept x.found y.found x.told y.told x.tells y.tells in
    (x.yes ∙ ap is_whole same ∙ sym y.yes, x.shows ∙ ap (shown_audit (length answers)) same ∙ sym y.shows)

pub one_audit : (sources : List NamedAnswer) (p : PlainAudit) (a b : Bool) (line other : List ℕ) → AuditAnswers sources p a line → AuditAnswers sources p b other → (a ≡ b) × (line ≡ other)
one_audit sources p a b line other x y = one_audited (with_sources (audit_configuration p) sources) (map answering p.journal) a b line other x y

-- a place that is told is that of an answer
pub is_place : (over : ChainSetting) (old new : States) (found : List Value) (answers : List Answering) (told : Replay) → Tells over old new found answers told → IsPlaceOf (length answers) told
is_place over old new found answers (Whole journal out) t = tt
is_place over old new found answers (Other at wanted) t = (cut_at at answers t.handed t.there).lt
is_place over old new found answers (Short wanted) t = tt
is_place over old new found answers (Long at) t = t.0

-- a replay from nothing kept, and its line
pub audited : (over : ChainSetting) (old new : States) (found : List Value) (answers : List Answering) (told : Replay) (ok : Bool) (none line : List ℕ) → old ≡ no_states → Tells over old new found answers told
    → ok ≡ is_whole told → none ≡ [] → line ≡ none ++ shown_audit (length answers) told → Audits over answers ok line
audited over old new found answers told ok none line nothing t right empty shows = record {
  kept = new;
  found = found;
  told = told;
  tells = subst (λ k. Tells over k new found answers told) nothing t;
  yes = right;
  shows = shows ∙ ap (λ n. n ++ shown_audit (length answers) told) empty;
}
