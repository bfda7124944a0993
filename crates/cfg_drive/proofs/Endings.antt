-- Where a line ends.
use Rattle.std.proofs.Common.{◌≡◌, ◌≢◌, ℕ, ◌+◌, ◌<◌, ◌≤◌, List, [], ◌∷◌, ◌++◌, length, take, drop, Option, Some, None, refl, sym, ap, subst, ◌∙◌, append_assoc, length-append, arith}
use Rattle.std.proofs.lemmas.List.{append-nil, take-append-drop, take-append-le, take_all}
use Rattle.std.proofs.lemmas.List.Elements.{All-nil}
use Rattle.std.specs.Prelude.{IfSome, codes}
use Rattle.std.specs.Io.KnownBytes.{Consumes, IsAtEnd, Keeps, prepend_known}
use Rattle.cfg_drive.specs.Lines.{most_bytes, line_feed, HasNoEnd, IsTooLong, IsUnended}

pub kept_refl : (a : Option (List ℕ)) → Keeps a a
kept_refl None = tt
kept_refl (Some x) = refl

pub kept_trans : (a b c : Option (List ℕ)) → Keeps a b → Keeps b c → Keeps a c
kept_trans None b c p q = tt
kept_trans (Some x) None c p q = absurd p
kept_trans (Some x) (Some y) None p q = absurd q
kept_trans (Some x) (Some y) (Some z) p q = q ∙ p

pub endless_nil : HasNoEnd []
endless_nil = All-nil (λ b. b ≢ line_feed)

-- a line that ends at this place
parts : (at : ℕ) (xs : List ℕ) → drop at xs ≡ line_feed ∷ drop (at + 1) xs → xs ≡ (take at xs ++ codes "\n") ++ drop (at + 1) xs
parts at xs e =
    sym (take-append-drop at xs) ∙ ap (λ (l : List ℕ). take at xs ++ l) e ∙ sym (append_assoc (take at xs) (codes "\n") (drop (at + 1) xs))

pub line_taken : (a left : Option (List ℕ)) (at : ℕ) (held line rest : List ℕ) → Keeps a (prepend_known held left)
    → drop at held ≡ line_feed ∷ drop (at + 1) held → line ≡ take at held → rest ≡ drop (at + 1) held
    → Consumes a (prepend_known rest left) (line ++ codes "\n")
line_taken None left at held line rest p e f g = tt
line_taken (Some x) None at held line rest p e f g = absurd p
line_taken (Some x) (Some y) at held line rest p e f g =
    sym p ∙ ap (λ (l : List ℕ). l ++ y) (parts at held e ∙ ap (λ (l : List ℕ). (l ++ codes "\n") ++ drop (at + 1) held) (sym f) ∙ ap (λ (l : List ℕ). (line ++ codes "\n") ++ l) (sym g)) ∙ append_assoc (line ++ codes "\n") rest y

-- the input ended where no line did
pub endless_end : (a left : Option (List ℕ)) (seen : ℕ) (held : List ℕ) → Keeps a (prepend_known held left) → IsAtEnd left → length held ≡ seen → seen < most_bytes
    → HasNoEnd (take seen held) → IfSome a IsUnended
endless_end None left seen held p e l s h = tt
endless_end (Some x) None seen held p e l s h = absurd p
endless_end (Some x) (Some y) seen held p e l s h =
    let all : take seen held ≡ x = take_all seen held (omega (arith, l)) ∙ sym (append-nil held) ∙ ap (λ (t : List ℕ). held ++ t) (sym e) ∙ p in
    record { short = omega (arith, l, s, ap length p, length-append held y, ap length e); endless = subst HasNoEnd all h }

pub endless_long : (a left : Option (List ℕ)) (seen : ℕ) (held : List ℕ) → Keeps a (prepend_known held left) → seen ≤ length held → seen ≤ most_bytes → most_bytes ≤ seen → HasNoEnd (take seen held) → IfSome a IsTooLong
endless_long None left seen held p w s m h = tt
endless_long (Some x) None seen held p w s m h = absurd p
endless_long (Some x) (Some y) seen held p w s m h =
    let is_most : seen ≡ most_bytes = omega (arith, w, s, m) in
    let all : take most_bytes x ≡ take seen held = ap (λ (l : List ℕ). take most_bytes l) (sym p) ∙ take-append-le most_bytes held y (omega (arith, w, s, m)) ∙ ap (λ (n : ℕ). take n held) (sym is_most) in
    record { long = omega (arith, w, m, ap length p, length-append held y); endless = subst HasNoEnd (sym all) h }
