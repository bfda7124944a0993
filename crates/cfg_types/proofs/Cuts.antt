-- Texts that are cut at their last mark.
use Rattle.std.proofs.Common.{◌≡◌, ◌≢◌, ℕ, suc, ◌+◌, ◌<◌, List, [], ◌∷◌, ◌++◌, length, get_or, Option, Some, None, Bool, cond, false, true, refl, sym, ap, ◌∙◌, take, drop, length-append, codes, arith, tests}
use Rattle.std.specs.Prelude.{◌==◌}
use Rattle.std.specs.List.{before_first}
use Rattle.std.specs.Str.Pattern.{RFindsChar}
use Rattle.std.proofs.lemmas.Str.Pattern.{NoCharPasses-char, drop_at_char}
use Rattle.std.proofs.lemmas.List.{take-append-drop}
use Rattle.cfg_types.specs.Addresses.{cut_below, cut_at_last, before_query, without_query, address_parts, shown_address, HasNoQuery, HasNoAt}

-- the mark stands nowhere
abbrev pub Free : ℕ → List ℕ → Type 0
Free mark text = (i : ℕ) → i < length text → get_or text i 0 ≢ mark

others_free : (mark b : ℕ) (text : List ℕ) → Free mark (b ∷ text) → Free mark text
others_free mark b text h i lt = h (suc i) (omega (arith, lt))

no_mark : (mark b : ℕ) → b ≢ mark → (b == mark) ≡ false
no_mark mark b h = grind (arith, tests)

is_mark : (mark : ℕ) → (mark == mark) ≡ true
is_mark mark = grind (arith, tests)

pub cut-free : (mark : ℕ) (text : List ℕ) → Free mark text → cut_at_last mark text ≡ None
cut-free mark [] h = refl
cut-free mark (b ∷ text) h =
    ap (cut_below mark b text) (cut-free mark text (others_free mark b text h))
    ∙ ap (λ (t : Bool). cond t (Some ([], text)) None) (no_mark mark b (h 0 (omega arith)))

pub cut-parts : (mark : ℕ) (before behind : List ℕ) → cut_at_last mark behind ≡ None → cut_at_last mark (before ++ mark ∷ behind) ≡ Some (before, behind)
cut-parts mark [] behind none =
    ap (cut_below mark mark behind) none
    ∙ ap (λ (t : Bool). cond t (Some ([], behind)) None) (is_mark mark)
cut-parts mark (b ∷ before) behind none = ap (cut_below mark b (before ++ mark ∷ behind)) (cut-parts mark before behind none)

-- by the clause of `rsplit_once`, where it finds nothing
pub cut-none : (mark : ℕ) (text : List ℕ) → RFindsChar mark text None → mark < 128 → cut_at_last mark text ≡ None
cut-none mark text h low = cut-free mark text (λ i lt. NoCharPasses-char mark text i h low lt)

-- by the clause of `rsplit_once`, where it finds the mark
pub cut-found : (mark : ℕ) (text before behind : List ℕ) (i j : ℕ) → RFindsChar mark text (Some (i, j)) → before ≡ take i text → behind ≡ drop j text → mark < 128
    → cut_at_last mark text ≡ Some (before, behind)
cut-found mark text before behind i j h first last low =
    let whole = sym (take-append-drop i text) ∙ ap (λ (l : List ℕ). take i text ++ l) (drop_at_char mark text i j h.1 low) in
    ap (cut_at_last mark) whole ∙ cut-parts mark (take i text) (drop j text) (cut-free mark (drop j text) (λ k lt. NoCharPasses-char mark (drop j text) k h.0 low lt))
    ∙ rw (first, last) refl

one_more : (n b : ℕ) (text : List ℕ) → take (1 + n) (b ∷ text) ≡ b ∷ take n text
one_more n b text = ap (λ (k : ℕ). take k (b ∷ text)) (let e : 1 + n ≡ suc n = omega arith in e)

-- what stands behind a first mark does not count
by_first : (p : ℕ → Bool) (b : ℕ) (text more : List ℕ) (passes : Bool) → p b ≡ passes → before_first p more ≡ before_first p text → before_first p (b ∷ more) ≡ before_first p (b ∷ text)
by_first p b text more true e same = rw e refl
by_first p b text more false e same = rw e (one_more _ b more ∙ ap (λ (l : List ℕ). b ∷ l) same ∙ sym (one_more _ b text))

pub before-mark : (p : ℕ → Bool) (text : List ℕ) (mark : ℕ) (behind : List ℕ) → p mark ≡ true → before_first p (text ++ mark ∷ behind) ≡ before_first p text
before-mark p [] mark behind is = rw is refl
before-mark p (b ∷ text) mark behind is = by_first p b text (text ++ mark ∷ behind) (p b) refl (before-mark p text mark behind is)

other_parts : (t : Bool) (x y : List ℕ × List ℕ) → cond t (Some x) None ≡ None → cond t (Some y) None ≡ None
other_parts true x y h = cc
other_parts false x y h = refl

-- a text without the mark, and another behind a byte that is not the mark
by_rest : (mark b c : ℕ) (text behind : List ℕ) (o : Option (List ℕ × List ℕ)) → cut_at_last mark text ≡ o → cut_below mark c text o ≡ None
    → (cut_at_last mark text ≡ None → cut_at_last mark (text ++ b ∷ behind) ≡ None) → cut_at_last mark ((c ∷ text) ++ b ∷ behind) ≡ None
by_rest mark b c text behind None e none joined =
    ap (cut_below mark c (text ++ b ∷ behind)) (joined e) ∙ other_parts (c == mark) ([], text) ([], text ++ b ∷ behind) none
by_rest mark b c text behind (Some parts) e none joined = cc

pub cut-joined : (mark b : ℕ) (text behind : List ℕ) → (b == mark) ≡ false → cut_at_last mark text ≡ None → cut_at_last mark behind ≡ None → cut_at_last mark (text ++ b ∷ behind) ≡ None
cut-joined mark b [] behind other none more = ap (cut_below mark b behind) more ∙ ap (λ (t : Bool). cond t (Some ([], behind)) None) other
cut-joined mark b (c ∷ text) behind other none more = by_rest mark b c text behind (cut_at_last mark text) refl none (λ rest. cut-joined mark b text behind other rest more)

-- the address of a user at a host, with a query
pub hidden-user : (user host query : List ℕ) → HasNoQuery user → HasNoQuery host → HasNoAt host → HasNoAt query → shown_address (user ++ 64 ∷ (host ++ 63 ∷ query)) ≡ codes "..@" ++ (host ++ codes "..")
hidden-user user host query u h at more =
    ap (address_parts (user ++ 64 ∷ (host ++ 63 ∷ query))) (cut-parts 64 user (host ++ 63 ∷ query) (cut-joined 64 63 host query refl at more))
    ∙ ap (λ (t : Bool). cond t (codes "..@" ++ without_query (host ++ 63 ∷ query)) (codes "..")) (ap (λ (l : List ℕ). length l == length user) u ∙ is_mark (length user))
    ∙ ap (λ (l : List ℕ). codes "..@" ++ l) (without user_free) where
      user_free : before_query (host ++ 63 ∷ query) ≡ host
      user_free = ap (λ (l : List ℕ). before_first (λ b. b == 35) l) (before-mark (λ b. b == 63) host 63 query refl) ∙ h

      longer : (n m : ℕ) → (n == n + suc m) ≡ false
      longer n m = grind (arith, tests)

      without : before_query (host ++ 63 ∷ query) ≡ host → without_query (host ++ 63 ∷ query) ≡ host ++ codes ".."
      without is = rw is (ap (λ (t : Bool). cond t (host ++ 63 ∷ query) (host ++ codes "..")) (ap (λ (n : ℕ). length host == n) (length-append host (63 ∷ query)) ∙ longer (length host) (length query)))
