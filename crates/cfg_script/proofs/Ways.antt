-- The steps of a way one behind the other, as a loop writes them and as the definition goes down to them.
use Rattle.std.proofs.Common.{◌≡◌, ℕ, ◌+◌, ◌<◌, List, [], ◌∷◌, ◌++◌, Option, Some, None, Ok, refl, sym, ap, ◌∙◌, length, get_or, take, append-nil}
use Rattle.std.specs.declared.fmt.Formatter.{Formatter}
use Rattle.std.specs.Fmt.{◌++?◌, DisplaysOnOk}
use Rattle.std.proofs.Output.{then_text_assoc, displays_on_IsOk_append, displays_on_ok_of_eq}
use Rattle.std.proofs.lemmas.List.{take_more}
use Rattle.cfg_script.specs.declared.fault.Step.{Step}
use Rattle.cfg_script.specs.FaultTexts.{later_step_text, later_text}

-- nothing behind a text, or before it
nothing_behind : (o : Option (List ℕ)) → (o ++? Some []) ≡ (Some [] ++? o)
nothing_behind None = refl
nothing_behind (Some a) = ap (λ (l : List ℕ). Some l) (append-nil a)

-- one step more
later_push : (steps : List Step) (s : Step) → later_text (steps ++ s ∷ []) ≡ later_text steps ++? later_step_text s
later_push [] s = nothing_behind (later_step_text s)
later_push (x ∷ steps) s =
    ap (λ (o : Option (List ℕ)). later_step_text x ++? o) (later_push steps s)
    ∙ sym (then_text_assoc (later_step_text x) (later_text steps) (later_step_text s))

-- the steps so far, and one more behind them
pub one_more : {W : Type 0} (took : W → List ℕ → W → Type 0) (steps : List Step) (i : ℕ) (s : Step) (f g h : Formatter W) → i < length steps → s ≡ get_or steps i s →
    DisplaysOnOk took f (Ok tt) (later_text (take i steps)) g → DisplaysOnOk took g (Ok tt) (later_step_text s) h → DisplaysOnOk took f (Ok tt) (later_text (take (i + 1) steps)) h
one_more took steps i s f g h lt is so_far next =
    displays_on_ok_of_eq took f h (Ok tt) (later_text (take i steps) ++? later_step_text s) (later_text (take (i + 1) steps))
    (ap (λ (b : Step). later_text (take i steps) ++? later_step_text b) is
    ∙ sym (ap later_text (take_more steps i s lt) ∙ later_push (take i steps) (get_or steps i s)))
    (displays_on_IsOk_append took f g h (Ok tt) (Ok tt) (later_text (take i steps)) (later_step_text s) (λ e. e) so_far next)
