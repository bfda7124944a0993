-- Calls over one script of devices have one list of lines in a form.
use Rattle.std.proofs.Common.{◌≡◌, ℕ, List, [], ◌∷◌, ◌++◌, length, Bool, refl, ◌∙◌, sym, ap, subst, arith}
use Rattle.cfg_world.specs.declared.script.DeviceLists.{DeviceLists}
use Rattle.cfg_world.specs.Agreeing.{AnswerAlike}
use Rattle.cfg_world.specs.Fits.{Pair}
use Rattle.cfg_world.specs.Script.{Place, Given, place_after, place_left, start}
use Rattle.cfg_world.proofs.Agreeing.{given_alike}
use Rattle.cfg_providers.specs.CustomSources.{Answer}
use Rattle.cfg_kept.specs.Kinds.{Value, States, no_states}
use Rattle.cfg_chain.specs.Settings.{ChainSetting}
use Rattle.cfg_chain.proofs.Calls.{one_journal}
use Rattle.cfg_program.specs.declared.lines.LineForm.{LineForm}
use Rattle.cfg_program.specs.Why.{told_as}
use Rattle.cfg_program.specs.Calls.{Made, IsMade, InTurn, asked_by, lines_of, last_is_ok, AnswersOver}

-- what the lists answer to two stretches in a row, they answer to the second from where the first leaves them
pub given_behind : (lists : DeviceLists) (place : Place) (part more : List Pair) → Given lists place (part ++ more) → Given lists place part × Given lists (place_left lists place part) more
given_behind lists place [] more g = (tt, g)
given_behind lists place (e ∷ part) more g = let rest = given_behind lists (place_after lists place e.0) part more g.1 in ((g.0, rest.0), rest.1)

same_made : (m n : Made) → m.found ≡ n.found → m.journal ≡ n.journal → m.out ≡ n.out → m.kept ≡ n.kept → m ≡ n
same_made m n e f g h =
    ap (λ (x : List Value). record m { found = x }) e
    ∙ ap (λ (x : List Pair). record n { journal = x; out = m.out; kept = m.kept }) f
    ∙ ap (λ (x : Answer). record n { out = x; kept = m.kept }) g
    ∙ ap (λ (x : States). record n { kept = x }) h

-- From one state that gives one answer to a question, calls that are as many are the same.
module _ (over : ChainSetting) {S : Type 0} (Gives : S → List Pair → Type 0) (left : S → List Pair → S)
    (behind : (s : S) (part more : List Pair) → Gives s (part ++ more) → Gives s part × Gives (left s part) more)
    (alike : (s : S) (one other : List Pair) → Gives s one → Gives s other → AnswerAlike one other) where
  pub same_calls : (s : S) (before after later : States) (one other : List Made) → length one ≡ length other → InTurn (IsMade over) before one after → InTurn (IsMade over) before other later
      → Gives s (asked_by one) → Gives s (asked_by other) → one ≡ other
  same_calls s before after later [] [] e a b g h = refl
  same_calls s before after later [] (n ∷ ns) e a b g h = absurd (omega (arith, e))
  same_calls s before after later (m ∷ ms) [] e a b g h = absurd (omega (arith, e))
  same_calls s before after later (m ∷ ms) (n ∷ ns) e a b g h =
      let first = behind s m.journal (asked_by ms) g in
      let also = behind s n.journal (asked_by ns) h in
      let same = one_journal over before m.kept n.kept m.found n.found m.journal n.journal m.out n.out a.0 b.0 (alike s m.journal n.journal first.0 also.0) in
      let rest = same_calls (left s m.journal) m.kept after later ms ns (omega (arith, e)) a.1 (subst (λ k. InTurn (IsMade over) k ns later) (sym same.3) b.1)
      first.1 (subst (λ j. Gives (left s j) (asked_by ns)) (sym same.0) also.1) in
      ap (λ (x : Made). x ∷ ms) (same_made m n same.1 same.0 same.2 same.3) ∙ ap (λ (xs : List Made). n ∷ xs) rest

pub one_list : (over : ChainSetting) (lists : DeviceLists) (count : ℕ) (form : LineForm) (a b : Bool) (lines other : List ℕ)
    → AnswersOver over lists count form a lines → AnswersOver over lists count form b other → (a ≡ b) × (lines ≡ other)
one_list over lists count form a b lines other x y =
    let same = same_calls over (Given lists) (place_left lists) (given_behind lists) (given_alike lists) start no_states x.kept y.kept x.calls y.calls (x.counted ∙ sym y.counted) x.made y.made x.agrees y.agrees in
    (x.credentials ∙ ap (λ (c : List Made). last_is_ok c) same ∙ sym y.credentials, x.shows ∙ ap (λ (c : List Made). lines_of (told_as over form) c) same ∙ sym y.shows)
