-- A text without escapes stands for itself.
use Rattle.std.proofs.Common.{◌≡◌, ℕ, ◌≤◌, inl, inr, List, [], ◌∷◌, ◌++◌, true, false, Option, Some, None, refl, sym, ap, ◌∙◌, arith}
use Rattle.std.specs.Prelude.{◌==◌, nat_le}
use Rattle.std.specs.List.{list_all}
use Rattle.std.specs.Str.{IsUtf8, encode_utf8_all}
use Rattle.std.specs.Char.{encode_utf8}
use Rattle.std.proofs.lemmas.Bool.{and_parts, and_from, cases_lt, le-leb, ne_eqb, not-true, not_from_false}
use Rattle.std.proofs.lemmas.List.{append-nil}
use Rattle.std.proofs.lemmas.List.Folds.{list_all-append}
use Rattle.std.proofs.lemmas.Str.{encode_ascii}
use Rattle.cfg_base.specs.Text.{characters}
use Rattle.cfg_base.proofs.TextLemmas.{encodes-chars}
use Rattle.cfg_json.specs.Ascii.{quotation_mark, backslash}
use Rattle.cfg_json.specs.Characters.{is_plain}
use Rattle.cfg_json.specs.Reads.{◌>>=◌}
use Rattle.cfg_json.specs.Reading.{piece_at, content_of}
use Rattle.cfg_json.proofs.StringSteps.{one_piece}

pub piece_plain : (c : ℕ) (t : List ℕ) → is_plain c ≡ true → piece_at (c ∷ t) ≡ Some (c, 0)
unfolding piece_at
piece_plain c t p =
    let r = and_parts _ _ p in
    let low : nat_le 32 c ≡ true = r.0 in
    let q : (c == quotation_mark) ≡ false = not-true _ (and_parts _ _ r.1).0 in
    let b : (c == backslash) ≡ false = not-true _ (and_parts _ _ r.1).1 in
    rw (b, low, q) refl

nothing_before : (r : Option (List ℕ)) → r ≡ (r >>= λ s. Some s)
nothing_before (Some s) = refl
nothing_before None = refl

twice : (c : ℕ) (cs : List ℕ) (r : Option (List ℕ)) → ((r >>= λ s. Some (cs ++ s)) >>= λ s. Some (c ∷ s)) ≡ (r >>= λ s. Some (c ∷ cs ++ s))
twice c cs (Some s) = refl
twice c cs None = refl

-- characters that stand for themselves, and then others
pub content_behind : (cs ds : List ℕ) → list_all is_plain cs ≡ true → content_of 0 (cs ++ ds) ≡ (content_of 0 ds >>= λ s. Some (cs ++ s))
content_behind [] ds e = nothing_before (content_of 0 ds)
content_behind (c ∷ cs) ds e =
    let p = and_parts (is_plain c) (list_all is_plain cs) e in
    one_piece c c 0 (cs ++ ds) (piece_plain c (cs ++ ds) p.0) ∙ ap (λ (r : Option (List ℕ)). r >>= λ s. Some (c ∷ s)) (content_behind cs ds p.1) ∙ twice c cs (content_of 0 ds)

no_more : content_of 0 [] ≡ Some []
unfolding content_of
no_more = refl

content_of_plain : (cs : List ℕ) → list_all is_plain cs ≡ true → content_of 0 cs ≡ Some cs
content_of_plain cs e =
    ap (content_of 0) (sym (append-nil cs)) ∙ content_behind cs [] e ∙ ap (λ (r : Option (List ℕ)). r >>= λ s. Some (cs ++ s)) no_more ∙ ap (λ (s : List ℕ). Some s) (append-nil cs)

pub high_plain : (c : ℕ) → 128 ≤ c → is_plain c ≡ true
high_plain c le = and_from _ _ (le-leb 32 c (omega arith)) (and_from _ _ (not_from_false _ (ne_eqb c quotation_mark (λ e. omega arith))) (not_from_false _ (ne_eqb c backslash (λ e. omega arith))))

character_plain : (c : ℕ) → list_all is_plain (encode_utf8 c) ≡ true → is_plain c ≡ true
character_plain c e = elim (cases_lt c 128) [
  | inl low ↦ (and_parts (is_plain c) true (ap (list_all is_plain) (sym (encode_ascii c low)) ∙ e)).0
  | inr high ↦ high_plain c high
]

characters_plain : (cs : List ℕ) → list_all is_plain (encode_utf8_all cs) ≡ true → list_all is_plain cs ≡ true
characters_plain [] e = refl
characters_plain (c ∷ cs) e =
    let p = and_parts _ _ (sym (list_all-append is_plain (encode_utf8 c) (encode_utf8_all cs)) ∙ e) in
    and_from _ _ (character_plain c p.0) (characters_plain cs p.1)

pub plain_characters : (bytes : List ℕ) → IsUtf8 bytes → list_all is_plain bytes ≡ true → list_all is_plain (characters bytes) ≡ true
plain_characters bytes u e = characters_plain (characters bytes) (ap (list_all is_plain) (encodes-chars bytes u) ∙ e)

pub plain_content : (bytes : List ℕ) → IsUtf8 bytes → list_all is_plain bytes ≡ true → content_of 0 (characters bytes) ≡ Some (characters bytes)
plain_content bytes u e = content_of_plain (characters bytes) (plain_characters bytes u e)
