-- The attempts of a chain one behind the other, as a loop writes them and as the definition goes down to them.
use Rattle.std.proofs.Common.{◌≡◌, ℕ, ◌+◌, ◌<◌, List, [], ◌∷◌, ◌++◌, Option, Some, None, Ok, refl, sym, ap, ◌∙◌, map, length, get_or, take, codes, append-nil}
use Rattle.std.specs.Str.{encode_utf8_all}
use Rattle.std.specs.declared.fmt.Formatter.{Formatter}
use Rattle.std.specs.Fmt.{◌++?◌, DisplaysOnOk, WritesOnOk}
use Rattle.std.proofs.Output.{then_text_assoc, displays_on_IsOk_append, displays_on_ok_of_eq}
use Rattle.std.proofs.lemmas.List.{take_more}
use Rattle.cfg_types.specs.ChainTexts.{attempt_text, attempts_text, chain_text}
use Rattle.cfg_types.specs.declared.errors.ProviderAttempt.{ProviderAttempt}

-- nothing behind a text, or before it
nothing_behind : (o : Option (List ℕ)) → (o ++? Some []) ≡ (Some [] ++? o)
nothing_behind None = refl
nothing_behind (Some a) = ap (λ (l : List ℕ). Some l) (append-nil a)

-- one attempt more
pub attempts_text-push : {E : Type 0} (text : E → Option (List ℕ)) (xs : List (ProviderAttempt E)) (a : ProviderAttempt E)
    → attempts_text text (xs ++ a ∷ []) ≡ attempts_text text xs ++? attempt_text text a
attempts_text-push text [] a = nothing_behind (attempt_text text a)
attempts_text-push text (x ∷ xs) a =
    ap (λ (o : Option (List ℕ)). attempt_text text x ++? o) (attempts_text-push text xs a)
    ∙ sym (then_text_assoc (attempt_text text x) (attempts_text text xs) (attempt_text text a))

-- an attempt with the text of its error in the error's place
abbrev pub with_text : {E : Type 0} → (E → Option (List ℕ)) → ProviderAttempt E → ProviderAttempt (Option (List ℕ))
with_text text a = record { name = a.name; error = text a.error }

-- the texts may be taken first
pub attempts_text-map : {E : Type 0} (text : E → Option (List ℕ)) (xs : List (ProviderAttempt E))
    → attempts_text (λ (line : Option (List ℕ)). line) (map (with_text text) xs) ≡ attempts_text text xs
attempts_text-map text [] = refl
attempts_text-map text (x ∷ xs) = ap (λ (o : Option (List ℕ)). attempt_text text x ++? o) (attempts_text-map text xs)

pub chain_text-map : {E : Type 0} (text : E → Option (List ℕ)) (xs : List (ProviderAttempt E))
    → chain_text (λ (line : Option (List ℕ)). line) (map (with_text text) xs) ≡ chain_text text xs
chain_text-map text [] = refl
chain_text-map text (x ∷ xs) = ap (λ (o : Option (List ℕ)). Some (codes "no credentials found in chain. Attempted:") ++? o) (attempts_text-map text (x ∷ xs))

-- the attempts so far, and one more behind them
module _ {W : Type 0} (took : W → List ℕ → W → Type 0) {E : Type 0} (text : E → Option (List ℕ)) where
  pub attempts_step : (xs : List (ProviderAttempt E)) (i : ℕ) (a : ProviderAttempt E) (f g h k : Formatter W)
      → i < length xs → a ≡ get_or xs i a
      → DisplaysOnOk took f (Ok tt) (attempts_text text (take i xs)) g
      → WritesOnOk took g (Ok tt) (codes "\n  " ++ (encode_utf8_all a.name ++ codes ": ")) h
      → DisplaysOnOk took h (Ok tt) (text a.error) k
      → DisplaysOnOk took f (Ok tt) (attempts_text text (take (i + 1) xs)) k
  attempts_step xs i a f g h k lt is so_far name line =
      displays_on_ok_of_eq took f k (Ok tt) (attempts_text text (take i xs) ++? attempt_text text a) (attempts_text text (take (i + 1) xs))
      (ap (λ (b : ProviderAttempt E). attempts_text text (take i xs) ++? attempt_text text b) is
      ∙ sym (ap (attempts_text text) (take_more xs i a lt) ∙ attempts_text-push text (take i xs) (get_or xs i a)))
      (displays_on_IsOk_append took f g k (Ok tt) (Ok tt) (attempts_text text (take i xs)) (attempt_text text a) (λ e. e) so_far
      (displays_on_IsOk_append took g h k (Ok tt) (Ok tt) (Some (codes "\n  " ++ (encode_utf8_all a.name ++ codes ": "))) (text a.error) (λ e. e) name line))
