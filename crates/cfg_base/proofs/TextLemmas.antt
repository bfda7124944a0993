-- A text as its bytes and as its characters.
use Rattle.std.proofs.Common.{◌≡◌, ℕ, List, [], ◌∷◌, true, refl, sym, ap, ◌∙◌, subst}
use Rattle.std.specs.Prelude.{nat_eq}
use Rattle.cfg_base.specs.Text.{characters}
use Rattle.std.specs.Str.{chars, encode_utf8_all, IsUtf8}
use Rattle.std.specs.Cmp.Lexicographic.{pointwise}
use Rattle.std.proofs.lemmas.Str.{chars-encodes}
use lib.Utf8.{scalars}
use Rattle.std.proofs.lemmas.Slice.Eq.{bytes_eq-Decides}
use Rattle.std.proofs.lemmas.Bool.Decides.{same_from_decides, Decides-like}

pub characters-chars : (bs : List ℕ) → characters bs ≡ chars bs
unfolding chars
characters-chars [] = refl
characters-chars (b ∷ bs) = refl

pub characters-encodes : (cs : List ℕ) → scalars cs ≡ true → characters (encode_utf8_all cs) ≡ cs
characters-encodes cs ok = characters-chars _ ∙ chars-encodes cs ok

-- the characters give the bytes back
pub encodes-chars : (bs : List ℕ) → IsUtf8 bs → encode_utf8_all (characters bs) ≡ bs
encodes-chars bs u = subst (λ (b : List ℕ). encode_utf8_all (characters b) ≡ b) u.1.1 (ap encode_utf8_all (characters-encodes u.0 u.1.0))

pub same_chars : (xs ys : List ℕ) → IsUtf8 xs → IsUtf8 ys → characters xs ≡ characters ys → xs ≡ ys
same_chars xs ys u v e = sym (encodes-chars xs u) ∙ ap encode_utf8_all e ∙ encodes-chars ys v

pub text_eq : (xs ys : List ℕ) → IsUtf8 xs → IsUtf8 ys → pointwise nat_eq xs ys ≡ pointwise nat_eq (characters xs) (characters ys)
text_eq xs ys u v = same_from_decides _ _ (bytes_eq-Decides xs ys) (Decides-like _ (same_chars xs ys u v) (ap characters) (bytes_eq-Decides (characters xs) (characters ys)))
