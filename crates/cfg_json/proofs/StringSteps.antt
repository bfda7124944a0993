-- Reading a string piece by piece, as the loops do.
use Rattle.std.proofs.Common.{◌≡◌, ℕ, zero, suc, ◌+◌, ◌<◌, ◌≤◌, inl, inr, List, [], ◌∷◌, ◌++◌, length, take, drop, get_or, Bool, true, false, cond, Option, Some, None, refl, sym, ap, subst, ◌∙◌, append_assoc, add-one, arith, drop-cons}
use Rattle.std.specs.Prelude.{◌==◌, ◌&&◌, not, is_some, option_map}
use Rattle.std.specs.Str.{IsUtf8, chars}
use Rattle.std.specs.Char.{encode_utf8}
use Rattle.std.proofs.lemmas.Bool.{cases_lt, true≢false}
use Rattle.std.proofs.lemmas.List.{append-nil, nil_from_length, drop_all}
use Rattle.std.proofs.lemmas.Str.{chars-append, chars-encodes}
use lib.Utf8.{scalar}
use Rattle.cfg_base.specs.Text.{characters}
use Rattle.cfg_base.proofs.TextLemmas.{characters-chars}
use Rattle.cfg_json.specs.Ascii.{quotation_mark, backslash}
use Rattle.cfg_json.specs.Reads.{◌>>=◌}
use Rattle.cfg_json.specs.Reading.{piece_at, content_of, end_of, utf8_of, text_of, string_at}

-- the place so far, and what is left to find
abbrev pub from_place : ℕ → Option ℕ → Option ℕ
from_place i found = option_map (λ n. i + n) found

pub one_further : (i : ℕ) (found : Option ℕ) → from_place i (option_map (λ n. n + 1) found) ≡ from_place (i + 1) found
one_further i (Some n) = ap Some (omega arith)
one_further i None = refl

pub cut_at : (text : List ℕ) (i x : ℕ) → i < length text → x ≡ get_or text i 0 → drop i text ≡ x ∷ drop (i + 1) text
cut_at text i x lt is = let cut : drop i text ≡ get_or text i 0 ∷ drop (i + 1) text = rw add-one (drop-cons text i 0 lt) in cut ∙ ap (λ (y : ℕ). y ∷ drop (i + 1) text) (sym is)

pub end_further : (text : List ℕ) (i x : ℕ) (e next : Bool) (total : Option ℕ) → i < length text → x ≡ get_or text i 0
    → (not e && x == quotation_mark) ≡ false → next ≡ (not e && x == backslash)
    → from_place i (end_of e (drop i text)) ≡ total → from_place (i + 1) (end_of next (drop (i + 1) text)) ≡ total
unfolding end_of
end_further text i x e next total lt is open_ goes so_far =
    let cut = cut_at text i x lt is in
    let one : end_of e (x ∷ drop (i + 1) text) ≡ option_map (λ n. n + 1) (end_of (not e && x == backslash) (drop (i + 1) text)) = rw open_ refl in
    sym (one_further i (end_of next (drop (i + 1) text)))
    ∙ ap (λ (b : Bool). from_place i (option_map (λ n. n + 1) (end_of b (drop (i + 1) text)))) goes
    ∙ sym (ap (from_place i) one) ∙ sym (ap (λ (t : List ℕ). from_place i (end_of e t)) cut) ∙ so_far

one_more_place : (i : ℕ) → (i + 1) + 1 ≡ i + 2
one_more_place i = omega arith

behind_backslash : (text : List ℕ) (i : ℕ) (total : Option ℕ) → from_place (i + 1) (end_of true (drop (i + 1) text)) ≡ total → from_place (i + 2) (end_of false (drop (i + 2) text)) ≡ total
unfolding end_of
behind_backslash text i total so_far = elim (cases_lt (i + 1) (length text)) [
  | inl lt ↦ subst (λ (k : ℕ). from_place k (end_of false (drop k text)) ≡ total) (one_more_place i)
      (end_further text (i + 1) (get_or text (i + 1) 0) true false total lt refl refl refl so_far)
  | inr over ↦ nothing_left (drop_all (i + 1) text over) (drop_all (i + 2) text (omega arith))
] where
  nothing_left : drop (i + 1) text ≡ [] → drop (i + 2) text ≡ [] → from_place (i + 2) (end_of false (drop (i + 2) text)) ≡ total
  nothing_left one two =
      ap (λ (t : List ℕ). from_place (i + 2) (end_of false t)) two ∙ sym (ap (λ (t : List ℕ). from_place (i + 1) (end_of true t)) one) ∙ so_far

-- Behind a backslash the next byte is passed over, too.
pub end_reached : (text : List ℕ) (i x n : ℕ) (total : Option ℕ) → i < length text → x ≡ get_or text i 0 → (x == quotation_mark) ≡ false → n ≡ cond (x == backslash) 2 1
    → from_place i (end_of false (drop i text)) ≡ total → from_place (i + n) (end_of false (drop (i + n) text)) ≡ total
end_reached text i x n total lt is open_ far so_far =
    subst (λ (k : ℕ). from_place (i + k) (end_of false (drop (i + k) text)) ≡ total) (sym far)
    (by_mark (x == backslash) (end_further text i x false (x == backslash) total lt is open_ refl so_far)) where
      by_mark : (b : Bool) → from_place (i + 1) (end_of b (drop (i + 1) text)) ≡ total → from_place (i + cond b 2 1) (end_of false (drop (i + cond b 2 1) text)) ≡ total
      by_mark true p = behind_backslash text i total p
      by_mark false p = p

pub end_found : (text : List ℕ) (i x : ℕ) (e : Bool) (total : Option ℕ) → i < length text → x ≡ get_or text i 0
    → (not e && x == quotation_mark) ≡ true → from_place i (end_of e (drop i text)) ≡ total → Some i ≡ total
unfolding end_of
end_found text i x e total lt is closes so_far =
    let cut = cut_at text i x lt is in
    let one : end_of e (x ∷ drop (i + 1) text) ≡ Some 0 = rw closes refl in
    ap Some (omega arith) ∙ sym (ap (from_place i) one) ∙ sym (ap (λ (t : List ℕ). from_place i (end_of e t)) cut) ∙ so_far

pub no_end : (text : List ℕ) (i : ℕ) (e : Bool) (total : Option ℕ) → length text ≤ i → from_place i (end_of e (drop i text)) ≡ total → None ≡ total
unfolding end_of
no_end text i e total le so_far = let is : drop i text ≡ [] = drop_all i text le in sym (ap (λ (t : List ℕ). from_place i (end_of e t)) is) ∙ so_far

-- the characters so far, and what is left to read
abbrev pub text_front : List ℕ → Option (List ℕ) → Option (List ℕ)
text_front front read = read >>= λ s. Some (front ++ s)

front_twice : (a b : List ℕ) (read : Option (List ℕ)) → text_front (a ++ b) read ≡ text_front a (read >>= λ s. Some (b ++ s))
front_twice a b (Some s) = ap (λ (x : List ℕ). Some x) (append_assoc a b s)
front_twice a b None = refl

pub skips : (k : ℕ) (t : List ℕ) → content_of k t ≡ content_of 0 (drop k t)
unfolding content_of
skips zero t = refl
skips (suc k) [] = refl
skips (suc k) (x ∷ t) = skips k t

-- one piece, and then the others
pub one_piece : (x c n : ℕ) (t : List ℕ) → piece_at (x ∷ t) ≡ Some (c, n) → content_of 0 (x ∷ t) ≡ (content_of 0 (drop n t) >>= λ s. Some (c ∷ s))
unfolding content_of
one_piece x c n t p = rw p (ap (λ (r : Option (List ℕ)). r >>= λ s. Some (c ∷ s)) (skips n t))

pub pushed : (bytes : List ℕ) (c : ℕ) → IsUtf8 bytes → scalar c ≡ true → characters (bytes ++ encode_utf8 c) ≡ characters bytes ++ c ∷ []
pushed bytes c u ok =
    let one : chars (encode_utf8 c) ≡ c ∷ [] = ap chars (sym (append-nil (encode_utf8 c))) ∙ chars-encodes (c ∷ []) (rw ok refl) in
    characters-chars (bytes ++ encode_utf8 c) ∙ chars-append bytes (encode_utf8 c) u ∙ ap (λ (s : List ℕ). chars bytes ++ s) one ∙ ap (λ (s : List ℕ). s ++ c ∷ []) (sym (characters-chars bytes))

-- What was read of the rest is what was appended, and then what is read behind it.
pub run_further : (bytes run after : List ℕ) (rest behind total : Option (List ℕ)) → IsUtf8 bytes → after ≡ bytes ++ run → rest ≡ (behind >>= λ s. Some (characters run ++ s))
    → text_front (characters bytes) rest ≡ total → text_front (characters after) behind ≡ total
run_further bytes run after rest behind total u is more so_far =
    let parts : characters after ≡ characters bytes ++ characters run =
    ap characters is ∙ characters-chars (bytes ++ run) ∙ chars-append bytes run u ∙ (λ i. sym (characters-chars bytes) i ++ sym (characters-chars run) i) in
    ap (λ (s : List ℕ). text_front s behind) parts ∙ front_twice (characters bytes) (characters run) behind ∙ sym (ap (text_front (characters bytes)) more) ∙ so_far

pub character_further : (bytes after : List ℕ) (c : ℕ) (rest behind total : Option (List ℕ)) → IsUtf8 bytes → scalar c ≡ true → after ≡ bytes ++ encode_utf8 c → rest ≡ (behind >>= λ s. Some (c ∷ s))
    → text_front (characters bytes) rest ≡ total → text_front (characters after) behind ≡ total
character_further bytes after c rest behind total u ok is more so_far =
    ap (λ (s : List ℕ). text_front s behind) (ap characters is ∙ pushed bytes c u ok) ∙ front_twice (characters bytes) (c ∷ []) behind ∙ sym (ap (text_front (characters bytes)) more) ∙ so_far

none_left : (rest : List ℕ) → length rest ≡ 0 → content_of 0 (characters rest) ≡ Some []
unfolding content_of
none_left rest e = ap (λ (r : List ℕ). content_of 0 (characters r)) (nil_from_length rest e)

pub content_ends : (front rest : List ℕ) (total : Option (List ℕ)) → length rest ≡ 0 → text_front front (content_of 0 (characters rest)) ≡ total → total ≡ Some front
content_ends front rest total e so_far = sym so_far ∙ ap (text_front front) (none_left rest e) ∙ ap (λ (s : List ℕ). Some s) (append-nil front)

pub content_fails : (front : List ℕ) (rest total : Option (List ℕ)) → rest ≡ None → text_front front rest ≡ total → total ≡ None
content_fails front rest total none so_far = sym so_far ∙ ap (text_front front) none

-- There is something to read of the rest where there is behind its front.
pub is_further : (f : List ℕ → List ℕ) (rest behind : Option (List ℕ)) → rest ≡ (behind >>= λ s. Some (f s)) → is_some behind ≡ is_some rest
is_further f rest behind is = by_read behind ∙ sym (ap is_some is) where
  by_read : (o : Option (List ℕ)) → is_some o ≡ is_some (o >>= λ s. Some (f s))
  by_read (Some s) = refl
  by_read None = refl

pub is_ended : (rest : List ℕ) → length rest ≡ 0 → is_some (content_of 0 (characters rest)) ≡ true
is_ended rest e = ap is_some (none_left rest e)

some_content : (o : Option (List ℕ)) → is_some o ≡ true → (s : List ℕ) × (o ≡ Some s)
some_content (Some s) e = (s, refl)
some_content None e = absurd (true≢false (sym e))

-- a string that is passed over, whose content is one
pub string_skipped : (t : List ℕ) (n : ℕ) (bytes text rest : List ℕ) → Some n ≡ end_of false t → bytes ≡ take n t → Some text ≡ utf8_of bytes → is_some (content_of 0 (characters text)) ≡ true → rest ≡ drop (n + 1) t
    → (s : List ℕ) × (string_at t ≡ Some (s, rest))
unfolding string_at text_of
string_skipped t n bytes text rest ends front valid some left =
    let p = some_content (content_of 0 (characters text)) some in
    let is : text_of (take n t) ≡ Some p.0 = ap text_of (sym front) ∙ ap (λ (o : Option (List ℕ)). o >>= λ b. content_of 0 (characters b)) (sym valid) ∙ p.1 in (
      p.0,
      ap (λ (o : Option ℕ). o >>= λ n. text_of (take n t) >>= λ s. Some (s, drop (n + 1) t)) (sym ends) ∙ ap (λ (o : Option (List ℕ)). o >>= λ s. Some (s, drop (n + 1) t)) is ∙ ap (λ (r : List ℕ). Some (p.0, r)) (sym left),
    )
