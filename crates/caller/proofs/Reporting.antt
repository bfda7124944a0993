-- Three calls are a report.
use Rattle.std.proofs.Common.{◌≡◌, ℕ, List, [], ◌++◌, sym, ap, ◌∙◌, subst}
use Rattle.std.specs.Prelude.{codes}
use Rattle.cfg_world.specs.Asked.{Same, StandsOn}
use Rattle.cfg_world.specs.Fits.{Pair}
use Rattle.cfg_world.specs.Held.{Held}
use Rattle.cfg_kept.specs.Kinds.{Value, States, no_states}
use Rattle.cfg_providers.specs.CustomSources.{Answer}
use Rattle.cfg_chain.specs.Callers.{TellsWho}
use Rattle.cfg_chain.specs.Provides.{IsCall}
use Rattle.cfg_chain.specs.Settings.{ChainSetting, alone}
use Rattle.caller.specs.declared.devices.OneFile.{OneFile}
use Rattle.caller.specs.Configured.{configured}
use Rattle.caller.specs.FileAnswers.{AllAnswered, token_path, token_content, HoldsToken}
use Rattle.caller.specs.Lines.{shown}
use Rattle.caller.specs.Reports.{IsReport, TellsCall}

-- a call of the chain of this profile, with nothing kept before it
first_of : (profile : List ℕ) (over : ChainSetting) (kept new : States) (before later : List ℕ) → over ≡ alone (configured profile) → kept ≡ no_states → TellsCall over kept new before later → TellsCall (alone (configured profile)) no_states new before later
first_of profile over kept new before later is nothing call =
    subst (λ c. TellsCall c no_states new before later) is (subst (λ k. TellsCall over k new before later) nothing call)

pub reports : (reader auditor : ChainSetting) (kept kept_by kept_then kept_else kept_by_auditor : States) (empty line two_lines lines : List ℕ) →
    reader ≡ alone (configured (codes "reader")) → auditor ≡ alone (configured (codes "auditor")) → kept ≡ no_states → kept_else ≡ no_states → empty ≡ [] →
    TellsCall reader kept kept_by empty line → TellsCall reader kept_by kept_then line two_lines → TellsCall auditor kept_else kept_by_auditor two_lines lines → IsReport lines
reports reader auditor kept kept_by kept_then kept_else kept_by_auditor empty line two_lines lines reads reports_by none none_else is_empty one two three = record {
  kept = kept_by;
  kept_then = kept_then;
  kept_by_auditor = kept_by_auditor;
  line = line;
  two_lines = two_lines;
  first = subst (λ before. TellsCall (alone (configured (codes "reader"))) no_states kept_by before line) is_empty (first_of (codes "reader") reader kept kept_by empty line reads none one);
  second = subst (λ c. TellsCall c kept_by kept_then line two_lines) reads two;
  third = first_of (codes "auditor") auditor kept_else kept_by_auditor two_lines lines reports_by none_else three;
}

-- ---- one call

abbrev answered_by : OneFile → List Pair → Type 0
answered_by d = AllAnswered d.path.now d.content.now

-- The journal was emptied, and the devices stayed as they were.
emptied : (was cleared : Held OneFile) → cleared ≡ record was { journal = [] } → (cleared.journal ≡ []) × (cleared.devices ≡ was.devices)
emptied was cleared is = (ap (λ (w : Held OneFile). w.journal) is, ap (λ (w : Held OneFile). w.devices) is)

holds_there : (was cleared : OneFile) → cleared ≡ was → HoldsToken was.path.now was.content.now → HoldsToken cleared.path.now cleared.content.now
holds_there was cleared is holds = subst (λ (d : OneFile). HoldsToken d.path.now d.content.now) (sym is) holds

-- What the devices answered stands for them, from the empty journal on.
pub tells_call : (over : ChainSetting) (old new : States) (found : List Value) (was cleared later : Held OneFile) (part asked : List Pair) (out : Answer) (text line more : List ℕ) →
    cleared ≡ record was { journal = [] } → HoldsToken was.devices.path.now was.devices.content.now → later.journal ≡ cleared.journal ++ part →
    Same (answered_by cleared.devices) (answered_by later.devices) → StandsOn (answered_by cleared.devices) (answered_by later.devices) part →
    IsCall over old new found part out → TellsWho over found cleared.journal later.journal out → asked ≡ later.journal → line ≡ shown out asked → more ≡ text ++ line → TellsCall over old new text more
tells_call over old new found was cleared later part asked out text line more is holds grows same stands call who is_asked is_line is_more =
    let none = (emptied was cleared is).0 in
    let held = holds_there was.devices cleared.devices (emptied was cleared is).1 holds in
    let is_part : later.journal ≡ part = grows ∙ ap (λ j. j ++ part) none in
    record {
      found = found;
      journal = part;
      out = out;
      call = call;
      who = subst (λ j. TellsWho over found [] j out) is_part (subst (λ j. TellsWho over found j later.journal out) none who);
      answers = held.from part (same.from part (stands [] tt));
      line = is_more ∙ ap (λ l. text ++ l) (is_line ∙ ap (λ j. shown out j) (is_asked ∙ is_part));
    }

-- The devices answer afterwards as before.
pub holds_still : (was cleared later : Held OneFile) → cleared ≡ record was { journal = [] } → HoldsToken was.devices.path.now was.devices.content.now →
    Same (answered_by cleared.devices) (answered_by later.devices) → HoldsToken later.devices.path.now later.devices.content.now
holds_still was cleared later is holds same =
    let held = holds_there was.devices cleared.devices (emptied was cleared is).1 holds in
    record { to = λ entries h. same.to entries (held.to entries h); from = λ entries h. held.from entries (same.from entries h) }

-- devices with the token's file
pub holds_token : (path content : List ℕ) → path ≡ token_path → content ≡ token_content → HoldsToken path content
holds_token path content is_path is_content =
    subst (λ p. HoldsToken p content) (sym is_path) (subst (λ c. HoldsToken token_path c) (sym is_content) (record { to = λ entries h. h; from = λ entries h. h }))
