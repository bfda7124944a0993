-- A host without its brackets, and a path without a slash.
use Rattle.std.proofs.Common.{◌≡◌, ◌≢◌, inr, ℕ, List, [], ◌∷◌, ◌++◌, refl, sym, ap, ◌∙◌}
use Rattle.std.proofs.lemmas.Bool.{ne_eqb}
use Rattle.cfg_exchange.specs.FullUris.{IsBareHost, without_slash}

same_tail : (x : ℕ) (a b : List ℕ) → x ∷ a ≡ x ∷ b → a ≡ b
same_tail x a b e = cc

pub bare_unclosed : (host rest : List ℕ) → host ≡ 91 ∷ rest → ((front : List ℕ) → rest ≢ front ++ 93 ∷ []) → IsBareHost host host
bare_unclosed host rest h n = inr ((λ inside k. n inside (same_tail 91 rest (inside ++ 93 ∷ []) (sym h ∙ k))), refl)

pub bare_unopened : (host : List ℕ) → ((rest : List ℕ) → host ≢ 91 ∷ rest) → IsBareHost host host
bare_unopened host n = inr ((λ inside k. n (inside ++ 93 ∷ []) k), refl)

pub no_slash : (path : List ℕ) → ((rest : List ℕ) → path ≢ 47 ∷ rest) → path ≡ without_slash path
no_slash [] n = refl
no_slash (b ∷ bytes) n = let e = ne_eqb b 47 (λ s. n bytes (ap (λ x. x ∷ bytes) s)) in rw e refl
