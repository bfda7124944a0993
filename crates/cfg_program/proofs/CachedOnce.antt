-- Calls under a name over one script of devices have one list of lines.
use Rattle.std.proofs.Common.{◌≡◌, ℕ, List, [], ◌∷◌, ◌++◌, length, Bool, refl, ◌∙◌, sym, ap, subst, arith}
use Rattle.std.specs.Prelude.{is_ok}
use Rattle.cfg_world.specs.declared.script.DeviceLists.{DeviceLists}
use Rattle.cfg_world.specs.Fits.{Pair}
use Rattle.cfg_world.specs.Script.{Place, Given, place_left, start}
use Rattle.cfg_providers.specs.CustomSources.{Answer, NamedAnswer}
use Rattle.cfg_chain.specs.Settings.{ChainSetting, with_sources}
use Rattle.cfg_identity.specs.NameStates.{NameState, nothing_loaded}
use Rattle.cfg_identity.proofs.OneCall.{StatesAlike, one_cached}
use Rattle.cfg_script.specs.Script.{Plain}
use Rattle.cfg_script.specs.Devices.{lists_of}
use Rattle.cfg_program.specs.declared.causes.Below.TheVariants.{Nothing}
use Rattle.cfg_program.specs.declared.lines.LineForm.{LineForm}
use Rattle.cfg_program.specs.declared.lines.LineForm.TheVariants.{Call}
use Rattle.cfg_program.specs.Lines.{shown_as}
use Rattle.cfg_program.specs.Cached.{cache_settings, IsCachedCall, CachedAnswers}
use Rattle.cfg_program.specs.Calls.{MadeOn, InTurn, asked_by, lines_of, last_is_ok, configuration_of}
use Rattle.cfg_program.proofs.OneList.{given_behind}

abbrev Cached : Type 0
Cached = MadeOn NameState

abbrev form : LineForm
form = Call Nothing

-- what the last of two lists of calls came to, of which the first ones came to the same
last_alike : (m n : Cached) (ms ns : List Cached) → length ms ≡ length ns → m.out ≡ n.out
    → last_is_ok ms ≡ last_is_ok ns → last_is_ok (m ∷ ms) ≡ last_is_ok (n ∷ ns)
last_alike m n [] [] e same last = ap (λ (o : Answer). is_ok o) same
last_alike m n [] (y ∷ ns) e same last = absurd (omega (arith, e))
last_alike m n (x ∷ ms) [] e same last = absurd (omega (arith, e))
last_alike m n (x ∷ ms) (y ∷ ns) e same last = last

-- Calls that are as many, from states that are alike, tell the same.
module _ (over : ChainSetting) (lists : DeviceLists) where
  told_alike : (place : Place) (before also after later : NameState) (one other : List Cached) → length one ≡ length other → StatesAlike before also
      → InTurn (IsCachedCall over) before one after → InTurn (IsCachedCall over) also other later
      → Given lists place (asked_by one) → Given lists place (asked_by other)
      → (last_is_ok one ≡ last_is_ok other) × (lines_of (shown_as form) one ≡ lines_of (shown_as form) other)
  told_alike place before also after later [] [] e alike a b g h = (refl, refl)
  told_alike place before also after later [] (n ∷ ns) e alike a b g h = absurd (omega (arith, e))
  told_alike place before also after later (m ∷ ms) [] e alike a b g h = absurd (omega (arith, e))
  told_alike place before also after later (m ∷ ms) (n ∷ ns) e alike a b g h =
      let first = given_behind lists place m.journal (asked_by ms) g in
      let second = given_behind lists place n.journal (asked_by ns) h in
      let same = one_cached cache_settings over lists place before also m.kept n.kept m.found n.found m.journal n.journal m.out n.out alike
      a.0 b.0 first.0 second.0 in
      let many : length ms ≡ length ns = omega (arith, e) in
      let rest = told_alike (place_left lists place m.journal) m.kept n.kept after later ms ns many same.1 a.1 b.1 first.1
      (subst (λ (j : List Pair). Given lists (place_left lists place j) (asked_by ns)) (sym same.0.0) second.1) in
      let line : shown_as form m.out m.journal ≡ shown_as form n.out n.journal =
      ap (λ (j : List Pair). shown_as form m.out j) same.0.0 ∙ ap (λ (o : Answer). shown_as form o n.journal) same.0.1 in (
        last_alike m n ms ns many same.0.1 rest.0,
        ap (λ (l : List ℕ). l ++ lines_of (shown_as form) ms) line ∙ ap (λ (l : List ℕ). shown_as form n.out n.journal ++ l) rest.1,
      )

pub one_cached_list : (sources : List NamedAnswer) (p : Plain) (a b : Bool) (lines other : List ℕ)
    → CachedAnswers sources p a lines → CachedAnswers sources p b other → (a ≡ b) × (lines ≡ other)
one_cached_list sources p a b lines other x y =
    let same = told_alike (with_sources (configuration_of p) sources) (lists_of p) start nothing_loaded nothing_loaded x.kept y.kept
    x.calls y.calls (x.counted ∙ sym y.counted) (record { held = tt; states = refl }) x.made y.made x.agrees y.agrees in
    (x.credentials ∙ same.0 ∙ sym y.credentials, x.shows ∙ same.1 ∙ sym y.shows)
