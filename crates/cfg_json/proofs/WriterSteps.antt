-- Characters that are put together.
use Rattle.std.proofs.Common.{◌≡◌, ℕ, List, [], ◌∷◌, ◌++◌, length, true, false, refl, sym, ap, ◌∙◌}
use Rattle.std.specs.Prelude.{◌==◌}
use Rattle.std.specs.Str.{IsUtf8, chars, encode_utf8_all}
use Rattle.std.specs.Char.{encode_utf8}
use Rattle.std.proofs.lemmas.Bool.{eqb-true, true≢false}
use Rattle.std.proofs.lemmas.List.{nil_from_length}
use Rattle.std.proofs.lemmas.Str.{chars-append}
use lib.Utf8.{scalar}
use Rattle.cfg_base.specs.Text.{characters}
use Rattle.cfg_base.proofs.TextLemmas.{characters-chars, encodes-chars}
use Rattle.cfg_json.specs.Ascii.{comma}
use Rattle.cfg_json.specs.Writing.{before_next}
use Rattle.cfg_json.proofs.StringSteps.{pushed}

pub pushed_is : (before after shown : List ℕ) (c : ℕ) → IsUtf8 before → scalar c ≡ true → characters before ≡ shown → after ≡ before ++ encode_utf8 c → characters after ≡ shown ++ c ∷ []
pushed_is before after shown c u ok view is = ap characters is ∙ pushed before c u ok ∙ ap (λ (t : List ℕ). t ++ c ∷ []) view

pub appended_is : (before after text shown : List ℕ) → IsUtf8 before → characters before ≡ shown → after ≡ before ++ text → characters after ≡ shown ++ characters text
appended_is before after text shown u view is =
    ap characters is ∙ characters-chars (before ++ text) ∙ chars-append before text u ∙ ap (λ (t : List ℕ). t ++ chars text) (sym (characters-chars before) ∙ view) ∙ ap (λ (t : List ℕ). shown ++ t) (sym (characters-chars text))

some_next : (members : List ℕ) → (members ≡ [] → ⊥) → before_next members ≡ members ++ comma ∷ []
some_next [] n = absurd (n refl)
some_next (x ∷ t) n = refl

pub empty_next : (bytes shown : List ℕ) → characters bytes ≡ shown → (length bytes == 0) ≡ true → before_next shown ≡ shown
empty_next bytes shown view e = let none : shown ≡ [] = sym view ∙ ap characters (nil_from_length bytes (eqb-true _ _ e)) in ap before_next none ∙ sym none

pub other_next : (bytes shown : List ℕ) → IsUtf8 bytes → characters bytes ≡ shown → (length bytes == 0) ≡ false → before_next shown ≡ shown ++ comma ∷ []
other_next bytes shown u view e = some_next shown (λ none. contradiction (sym (encodes-chars bytes u) ∙ ap encode_utf8_all (view ∙ none))) where
  contradiction : bytes ≡ [] → ⊥
  contradiction is = true≢false (sym (ap (λ (t : List ℕ). length t == 0) is) ∙ e)
