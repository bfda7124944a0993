-- The end of a string that stands for itself.
use Rattle.std.proofs.Common.{◌≡◌, ◌≢◌, ℕ, suc, ◌+◌, ◌<◌, ◌≤◌, inl, inr, List, [], ◌∷◌, ◌++◌, length, drop, take, get_or, Bool, true, false, cond, Option, Some, None, refl, sym, ap, subst, ◌∙◌, add-one, arith}
use Rattle.std.specs.Prelude.{◌==◌, option_map}
use Rattle.std.specs.List.{list_all, prefix_len}
use Rattle.std.specs.Str.{IsUtf8, IsCharBoundary}
use Rattle.std.proofs.lemmas.Bool.{and_parts, and_from, cases_lt, eqb-true, eqb-false, ne_eqb, not-true, true≢false}
use Rattle.std.proofs.lemmas.List.{drop_all, take-append-drop}
use Rattle.std.proofs.lemmas.List.Sums.{prefix_len_stops}
use Rattle.std.proofs.lemmas.Str.{chars-append, IsUtf8-take, IsCharBoundary-before_ascii, IsCharBoundary-end}
use Rattle.cfg_base.specs.Text.{characters}
use Rattle.cfg_base.proofs.TextLemmas.{characters-chars}
use Rattle.cfg_json.specs.Ascii.{quotation_mark, backslash}
use Rattle.cfg_json.specs.Characters.{is_plain}
use Rattle.cfg_json.specs.Reads.{◌>>=◌}
use Rattle.cfg_json.specs.Reading.{end_of, plain_end, content_of, utf8_of, text_of}
use Rattle.cfg_json.specs.Scans.{StopsAt}
use Rattle.cfg_json.proofs.StringLaws.{utf8_takes}
use Rattle.cfg_json.proofs.PlainText.{content_behind, high_plain, plain_characters, plain_content}
use Rattle.cfg_json.proofs.Options.{bind_some, tested}
use Rattle.cfg_json.proofs.StringSteps.{cut_at}

-- the place n, where all before it are plain
abbrev if_plain : List ℕ → ℕ → Option ℕ
if_plain t n = cond (list_all is_plain (take n t)) (Some n) None

mapped : (b : Bool) (n : ℕ) → cond b (Some (n + 1)) None ≡ option_map (λ n. n + 1) (cond b (Some n) None)
mapped true n = refl
mapped false n = refl

behind_plain : (x : ℕ) (t : List ℕ) (end : Option ℕ) → is_plain x ≡ true → (option_map (λ n. n + 1) end >>= if_plain (x ∷ t)) ≡ option_map (λ n. n + 1) (end >>= if_plain t)
behind_plain x t None p = refl
behind_plain x t (Some n) p =
    let all : list_all is_plain (take (n + 1) (x ∷ t)) ≡ list_all is_plain (take n t) = rw add-one (rw p refl) in
    ap (λ (b : Bool). cond b (Some (n + 1)) None) all ∙ mapped (list_all is_plain (take n t)) n

behind_other : (x : ℕ) (t : List ℕ) (end : Option ℕ) → is_plain x ≡ false → (option_map (λ n. n + 1) end >>= if_plain (x ∷ t)) ≡ None
behind_other x t None p = refl
behind_other x t (Some n) p =
    let all : list_all is_plain (take (n + 1) (x ∷ t)) ≡ false = rw add-one (rw p refl) in
    ap (λ (b : Bool). cond b (Some (n + 1)) None) all

end_here : (x : ℕ) (t : List ℕ) → x ≡ quotation_mark → end_of false (x ∷ t) ≡ Some 0
unfolding end_of
end_here x t is = rw is refl

at_mark : (x : ℕ) (t : List ℕ) → x ≡ quotation_mark → plain_end (x ∷ t) ≡ Some 0
unfolding plain_end
at_mark x t is = ap (λ (end : Option ℕ). end >>= if_plain (x ∷ t)) (end_here x t is)

end_behind : (x : ℕ) (t : List ℕ) → (x == quotation_mark) ≡ false → end_of false (x ∷ t) ≡ option_map (λ n. n + 1) (end_of (x == backslash) t)
unfolding end_of
end_behind x t is = rw is refl

at_plain : (x : ℕ) (t : List ℕ) → is_plain x ≡ true → plain_end (x ∷ t) ≡ option_map (λ n. n + 1) (plain_end t)
unfolding plain_end
at_plain x t p =
    let r = and_parts _ _ p in
    let q : (x == quotation_mark) ≡ false = not-true _ (and_parts _ _ r.1).0 in
    let b : (x == backslash) ≡ false = not-true _ (and_parts _ _ r.1).1 in
    ap (λ (end : Option ℕ). end >>= if_plain (x ∷ t)) (end_behind x t q ∙ ap (λ (e : Bool). option_map (λ n. n + 1) (end_of e t)) b) ∙ behind_plain x t (end_of false t) p

at_other : (x : ℕ) (t : List ℕ) → is_plain x ≡ false → x ≢ quotation_mark → plain_end (x ∷ t) ≡ None
unfolding plain_end
at_other x t p q = ap (λ (end : Option ℕ). end >>= if_plain (x ∷ t)) (end_behind x t (ne_eqb x quotation_mark q)) ∙ behind_other x t (end_of (x == backslash) t) p

at_end : plain_end [] ≡ None
unfolding plain_end end_of
at_end = refl

-- ---- how far a string stands for itself

-- the quotation mark that stands behind so many bytes
abbrev marked : ℕ → List ℕ → Option ℕ
marked n [] = None
marked n (x ∷ t) = cond (x == quotation_mark) (Some n) None

marked_more : (n : ℕ) (t : List ℕ) → option_map (λ n. n + 1) (marked n t) ≡ marked (1 + n) t
marked_more n [] = refl
marked_more n (x ∷ t) = one_or_none (x == quotation_mark) where
  one_or_none : (b : Bool) → option_map (λ n. n + 1) (cond b (Some n) None) ≡ cond b (Some (1 + n)) None
  one_or_none true = ap (λ (m : ℕ). Some m) (omega arith)
  one_or_none false = refl

drop_one_more : (n x : ℕ) (t : List ℕ) → drop (1 + n) (x ∷ t) ≡ drop n t
drop_one_more n x t = let e : 1 + n ≡ suc n = omega arith in rw e refl

take_one_more : (n x : ℕ) (t : List ℕ) → take (1 + n) (x ∷ t) ≡ x ∷ take n t
take_one_more n x t = let e : 1 + n ≡ suc n = omega arith in rw e refl

run_of : (b : Bool) (x : ℕ) (t : List ℕ) → is_plain x ≡ b → plain_end t ≡ marked (prefix_len is_plain t) (drop (prefix_len is_plain t) t)
    → plain_end (x ∷ t) ≡ marked (cond b (1 + prefix_len is_plain t) 0) (drop (cond b (1 + prefix_len is_plain t) 0) (x ∷ t))
run_of true x t p more =
    let n : ℕ = prefix_len is_plain t in
    at_plain x t p ∙ ap (λ (o : Option ℕ). option_map (λ n. n + 1) o) more ∙ marked_more n (drop n t) ∙ ap (marked (1 + n)) (sym (drop_one_more n x t))
run_of false x t p more = by_mark (x == quotation_mark) refl where
  by_mark : (b : Bool) → (x == quotation_mark) ≡ b → plain_end (x ∷ t) ≡ cond (x == quotation_mark) (Some 0) None
  by_mark true e = at_mark x t (eqb-true x quotation_mark e) ∙ rw e refl
  by_mark false e = at_other x t p (eqb-false x quotation_mark e) ∙ rw e refl

pub plain_end-run : (t : List ℕ) → plain_end t ≡ marked (prefix_len is_plain t) (drop (prefix_len is_plain t) t)
plain_end-run [] = at_end
plain_end-run (x ∷ t) = run_of (is_plain x) x t refl (plain_end-run t)

pub end_at_mark : (t : List ℕ) (n : ℕ) → n ≡ prefix_len is_plain t → n < length t → get_or t n 0 ≡ quotation_mark → plain_end t ≡ Some n
end_at_mark t n is lt e =
    let cut : drop n t ≡ quotation_mark ∷ drop (n + 1) t = cut_at t n quotation_mark lt (sym e) in
    plain_end-run t ∙ ap (λ (m : ℕ). marked m (drop m t)) (sym is) ∙ ap (marked n) cut

pub no_end_at_other : (t : List ℕ) (n : ℕ) → n ≡ prefix_len is_plain t → n < length t → get_or t n 0 ≢ quotation_mark → plain_end t ≡ None
no_end_at_other t n is lt ne =
    let cut : drop n t ≡ get_or t n 0 ∷ drop (n + 1) t = cut_at t n (get_or t n 0) lt refl in
    plain_end-run t ∙ ap (λ (m : ℕ). marked m (drop m t)) (sym is) ∙ ap (marked n) cut ∙ ap (λ (b : Bool). cond b (Some n) None) (ne_eqb (get_or t n 0) quotation_mark ne)

pub no_end_at_end : (t : List ℕ) (n : ℕ) → n ≡ prefix_len is_plain t → length t ≤ n → plain_end t ≡ None
no_end_at_end t n is le = plain_end-run t ∙ ap (λ (m : ℕ). marked m (drop m t)) (sym is) ∙ ap (marked n) (drop_all n t le)

run_plain : (t : List ℕ) → list_all is_plain (take (prefix_len is_plain t) t) ≡ true
run_plain [] = refl
run_plain (x ∷ t) = by_plain (is_plain x) refl (run_plain t) where
  by_plain : (b : Bool) → is_plain x ≡ b → list_all is_plain (take (prefix_len is_plain t) t) ≡ true → list_all is_plain (take (cond b (1 + prefix_len is_plain t) 0) (x ∷ t)) ≡ true
  by_plain true e more = ap (list_all is_plain) (take_one_more (prefix_len is_plain t) x t) ∙ and_from (is_plain x) (list_all is_plain (take (prefix_len is_plain t) t)) e more
  by_plain false e more = refl

run_stops_at : (t : List ℕ) → StopsAt (drop (prefix_len is_plain t) t)
run_stops_at [] = tt
run_stops_at (x ∷ t) = by_plain (is_plain x) refl (run_stops_at t) where
  by_plain : (b : Bool) → is_plain x ≡ b → StopsAt (drop (prefix_len is_plain t) t) → StopsAt (drop (cond b (1 + prefix_len is_plain t) 0) (x ∷ t))
  by_plain true e more = subst StopsAt (sym (drop_one_more (prefix_len is_plain t) x t)) more
  by_plain false e more = e

pub stop_small : (x : ℕ) → is_plain x ≡ false → x < 128
stop_small x e = elim (cases_lt x 128) [
  | inl low ↦ low
  | inr high ↦ absurd (true≢false (sym (high_plain x high) ∙ e))
]

-- a text may be cut there
pub run_cut : (t : List ℕ) (n : ℕ) → n ≡ prefix_len is_plain t → n ≤ length t → IsCharBoundary t n
run_cut t n is le = elim (cases_lt n (length t)) [
  | inl lt ↦ IsCharBoundary-before_ascii t n lt (stop_small (get_or t n 0) (subst (λ (m : ℕ). is_plain (get_or t m 0) ≡ false) (sym is) (prefix_len_stops is_plain t 0 (subst (λ (m : ℕ). m < length t) is lt))))
  | inr over ↦ (let at : n ≡ length t = omega arith in subst (IsCharBoundary t) (sym at) (IsCharBoundary-end t))
]

pub run_stops : (t : List ℕ) (n : ℕ) (rest : List ℕ) → n ≡ prefix_len is_plain t → rest ≡ drop n t → StopsAt rest
run_stops t n rest is left = subst StopsAt (sym (left ∙ ap (λ (m : ℕ). drop m t) is)) (run_stops_at t)

pub run_reads : (t : List ℕ) (n : ℕ) (run rest : List ℕ) → IsUtf8 t → n ≡ prefix_len is_plain t → n ≤ length t → run ≡ take n t → rest ≡ drop n t
    → content_of 0 (characters t) ≡ (content_of 0 (characters rest) >>= λ s. Some (characters run ++ s))
run_reads t n run rest u is le front left =
    let valid : IsUtf8 run = subst IsUtf8 (sym front) (IsUtf8-take t n u (run_cut t n is le)) in
    let plain : list_all is_plain run ≡ true = ap (list_all is_plain) (front ∙ ap (λ (m : ℕ). take m t) is) ∙ run_plain t in
    let whole : t ≡ run ++ rest = sym (take-append-drop n t) ∙ (λ i. sym front i ++ sym left i) in
    let parts : characters t ≡ characters run ++ characters rest =
    ap characters whole ∙ characters-chars (run ++ rest) ∙ chars-append run rest valid ∙ (λ i. sym (characters-chars run) i ++ sym (characters-chars rest) i) in
    ap (content_of 0) parts ∙ content_behind (characters run) (characters rest) (plain_characters run valid plain)

-- the end of the string, and all before it
pub plain_end_is : (t : List ℕ) (n : ℕ) → plain_end t ≡ Some n → (end_of false t ≡ Some n) × (list_all is_plain (take n t) ≡ true)
unfolding plain_end
plain_end_is t n e =
    let p = bind_some (end_of false t) (if_plain t) n e in
    let w = tested (list_all is_plain (take p.0 t)) p.0 n p.2 in
    subst (λ (m : ℕ). (end_of false t ≡ Some m) × (list_all is_plain (take m t) ≡ true)) w.1 (p.1, w.0)

-- the text in front of that end
pub plain_text_is : (bytes text s : List ℕ) → utf8_of bytes ≡ Some text → list_all is_plain bytes ≡ true → s ≡ characters text → text_of bytes ≡ Some s
unfolding text_of
plain_text_is bytes text s e p is =
    let u = utf8_takes bytes text e in
    ap (λ (o : Option (List ℕ)). o >>= λ b. content_of 0 (characters b)) e ∙ ap (λ (b : List ℕ). content_of 0 (characters b)) (sym u.0) ∙ plain_content bytes u.1 p
    ∙ ap (λ (b : List ℕ). Some (characters b)) u.0 ∙ ap (λ (b : List ℕ). Some b) (sym is)
