-- Pieces that are written under a hole's options.
use Rattle.std.proofs.Common.{◌≡◌, ℕ, List, ◌++◌, ◌∙◌, subst}
use Rattle.std.specs.declared.fmt.Formatter.{Formatter}
use Rattle.std.specs.Fmt.{HasWrittenStyled}
use Rattle.std.proofs.Output.{writes_in_calls_append}

-- two pieces, one behind the other, are one
pub styled_append : {W : Type 0} (took : W → List ℕ → W → Type 0) (f : Formatter W) (a : List ℕ) (g : Formatter W) (b : List ℕ) (h : Formatter W)
    → HasWrittenStyled took f a g → HasWrittenStyled took g b h → HasWrittenStyled took f (a ++ b) h
styled_append took f a g b h p q = record { wrote = writes_in_calls_append took _ a _ b _ p.wrote q.wrote; spec = q.spec ∙ p.spec; flush = q.flush }

-- the same piece in other words
pub styled_is : {W : Type 0} (took : W → List ℕ → W → Type 0) (f : Formatter W) (a b : List ℕ) (g : Formatter W) → a ≡ b → HasWrittenStyled took f a g → HasWrittenStyled took f b g
styled_is took f a b g e = subst (λ (l : List ℕ). HasWrittenStyled took f l g) e
