use Rattle.std.proofs.Common.{◌≡◌, ℕ, List, [], ◌∷◌, ◌++◌, length, sym, ◌∙◌, arith}
use Rattle.std.proofs.lemmas.List.{append-nil}
use Rattle.cfg_login_token.specs.DpopKeys.{with_line_feeds}
use Rattle.cfg_login_token.proofs.dpop_key.replaced.Goals as goal

nothing_left : (front rest total : List ℕ) → length rest ≡ 0 → front ++ with_line_feeds rest ≡ total → front ≡ total
unfolding with_line_feeds
nothing_left front [] total none h = sym (append-nil front) ∙ h
nothing_left front (c ∷ rest) total none h = absurd (omega (arith, none))

pub returns : goal.returns
returns c = nothing_left _ c.loop-c.rest.now _ c.in_default.ensures.cases c.loop-c.invariant
