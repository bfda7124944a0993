-- Whether a text is a path, by what `http_uri` says of it.
use Rattle.std.proofs.Common.{◌≡◌, inl, inr, ℕ, suc, ◌+◌, ◌≤◌, List, [], ◌∷◌, Bool, true, false, Option, Some, None, IsTrue, refl, sym, ap, subst, length, take, get_or, arith}
use Rattle.std.specs.Prelude.{◌&&◌, ◌==◌, not, nat_le, IfSome}
use Rattle.std.specs.List.{list_all, prefix_len}
use Rattle.std.specs.Str.{is_utf8}
use Rattle.std.proofs.lemmas.Bool.{eqb-true, le-leb, leb-true, false_from_ne_true}
use Rattle.std.proofs.lemmas.List.{length-take}
use Rattle.std.proofs.lemmas.List.Sums.{list_all-from_AllPass, AllPass-from_list_all}
use Rattle.std.proofs.lemmas.Str.{is_utf8-from_IsUtf8, IsUtf8-from_is_utf8}
use Rattle.http_uri.specs.ByteClasses.{is_path_byte, is_query_byte, is_delimiter, split_once_front, split_once_back, index_of, question_mark, hash_sign}
use Rattle.http_uri.specs.Grammar.{AllPass, IsPathAndQuery, IsForm, IsUriText, without_fragment}
use Rattle.http_uri.specs.Uri.{SpellsNone}
use Rattle.http_uri.proofs.UriLemmas.{cut_first, IsAuthority_first}
use Rattle.cfg_imds.specs.Paths.{begins_with_slash, is_query, is_path_and_query, is_path, IsPath}

both : (a b : Bool) → (a && b) ≡ true → (a ≡ true) × (b ≡ true)
both true b h = (refl, h)
both false b h = absurd cc

-- the first byte
slash_first : (text : List ℕ) → begins_with_slash text ≡ true → get_or text 0 0 ≡ 47
slash_first [] h = absurd cc
slash_first (b ∷ text) h = eqb-true b 47 h

query_passes : (query : Option (List ℕ)) → IfSome query (AllPass is_query_byte) → is_query query ≡ true
query_passes None h = refl
query_passes (Some query) h = list_all-from_AllPass is_query_byte query h

passes_query : (query : Option (List ℕ)) → is_query query ≡ true → IfSome query (AllPass is_query_byte)
passes_query None h = tt
passes_query (Some query) h = AllPass-from_list_all is_query_byte query h

kept_passes : (kept : List ℕ) → IsPathAndQuery kept → is_path_and_query kept ≡ true
kept_passes kept h =
    let p = list_all-from_AllPass is_path_byte (split_once_front question_mark kept) h.path in
    let q = query_passes (split_once_back question_mark kept) h.query in
    let u = is_utf8-from_IsUtf8 kept h.utf8 in
    rw (p, q, u) refl

-- a text with a slash at its front is read in one form
passes : (text : List ℕ) (scheme authority : Option (List ℕ)) (kept : List ℕ) → begins_with_slash text ≡ true → length text ≤ 65534 → IsForm text scheme authority kept → is_path text ≡ true
unfolding is_path
passes text None None kept s l h =
    let n = le-leb (length text) 65534 l in
    let k = kept_passes (without_fragment text) h.0.1.kept in
    rw (s, n, k) refl
passes text None (Some authority) kept s l h = absurd (IsAuthority_first text h.0 (slash_first text s))
passes text (Some scheme) None kept s l h = absurd h
passes text (Some scheme) (Some authority) kept s l h = absurd (cut_first text scheme authority kept h (slash_first text s))

pub spelled_path : (text : List ℕ) (scheme authority : Option (List ℕ)) (kept : List ℕ) → begins_with_slash text ≡ true → IsUriText text scheme authority kept → true ≡ is_path text
spelled_path text scheme authority kept s h = sym (passes text scheme authority kept s h.0 h.1)

taken : (n b : ℕ) (text : List ℕ) → get_or (take (1 + n) (b ∷ text)) 0 0 ≡ b
taken n b text = let e : 1 + n ≡ suc n = omega arith in rw e refl

first_kept : (b : ℕ) (text : List ℕ) → b ≡ 47 → get_or (without_fragment (b ∷ text)) 0 0 ≡ 47
first_kept b text e = subst (λ x. get_or (without_fragment (x ∷ text)) 0 0 ≡ 47) (sym e) (taken (prefix_len (λ x. not (x == hash_sign)) text) 47 text)

kept_first : (text : List ℕ) → begins_with_slash text ≡ true → get_or (without_fragment text) 0 0 ≡ 47
kept_first [] h = absurd cc
kept_first (b ∷ text) h = first_kept b text (eqb-true b 47 h)

shorter : (n : ℕ) (text : List ℕ) → length text ≤ 65534 → length (take n text) ≤ 65534
shorter n text h = let e = length-take n text in omega (arith, e, h)

kept_is : (text : List ℕ) → begins_with_slash text ≡ true → length text ≤ 65534 → is_path_and_query (without_fragment text) ≡ true → IsPathAndQuery (without_fragment text)
kept_is text s l h =
    let kept = without_fragment text in
    let p = both (list_all is_path_byte (split_once_front question_mark kept)) (is_query (split_once_back question_mark kept) && is_utf8 kept) h in
    let q = both (is_query (split_once_back question_mark kept)) (is_utf8 kept) p.1 in
    record {
      start = inr (inr (inl (kept_first text s)));
      path = AllPass-from_list_all is_path_byte (split_once_front question_mark kept) p.0;
      query = passes_query (split_once_back question_mark kept) q.0;
      utf8 = IsUtf8-from_is_utf8 kept q.1;
      short = shorter (index_of hash_sign text) text l;
    }

delimits : (b : ℕ) → b ≡ 47 → IsTrue (is_delimiter b)
delimits b e = subst (λ x. IsTrue (is_delimiter x)) (sym e) refl

path_spells : (text : List ℕ) → is_path text ≡ true → (begins_with_slash text ≡ true) × IsUriText text None None (without_fragment text)
unfolding is_path
path_spells text h =
    let s = both (begins_with_slash text) (nat_le (length text) 65534 && is_path_and_query (without_fragment text)) h in
    let k = both (nat_le (length text) 65534) (is_path_and_query (without_fragment text)) s.1 in
    let l = leb-true (length text) 65534 k.0 in
    let first = slash_first text s.0 in
    (s.0, (l, ((inr first, record { start = inr (delimits (get_or text 0 0) first); short = l; kept = kept_is text s.0 l k.1 }), refl)))

pub unspelled_path : (text : List ℕ) → SpellsNone text → false ≡ is_path text
unspelled_path text n = sym (false_from_ne_true (is_path text) (λ h. n None None (without_fragment text) (path_spells text h).1))

pub no_slash_path : (text : List ℕ) → begins_with_slash text ≡ false → false ≡ is_path text
unfolding is_path
no_slash_path text h = rw h refl

rest_of : (text : List ℕ) → begins_with_slash text ≡ true → (rest : List ℕ) × (text ≡ 47 ∷ rest)
rest_of [] h = absurd cc
rest_of (b ∷ text) h = (text, ap (λ x. x ∷ text) (eqb-true b 47 h))

begins : (text rest : List ℕ) → text ≡ 47 ∷ rest → begins_with_slash text ≡ true
begins text rest e = subst (λ t. begins_with_slash t ≡ true) (sym e) refl

pub path_is : (text : List ℕ) → is_path text ≡ true → IsPath text
path_is text h =
    let s = path_spells text h in
    let r = rest_of text s.0 in
    record { rest = r.0; begins = r.1; scheme = None; authority = None; kept = without_fragment text; uri = s.1 }

pub is_a_path : (text : List ℕ) → IsPath text → is_path text ≡ true
is_a_path text h = passes text h.scheme h.authority h.kept (begins text h.rest h.begins) h.uri.0 h.uri.1

pub ruleset path_steps = (spelled_path, unspelled_path, no_slash_path)
