-- Pieces of bytes, one after another.
use Rattle.std.proofs.Common.{◌≡◌, ℕ, ◌+◌, ◌<◌, ◌≤◌, List, [], ◌++◌, length, take, drop, Option, Some, None, refl, sym, ap, subst, ◌∙◌, append_assoc, length-append, arith}
use Rattle.std.proofs.lemmas.List.{append-nil, nil_from_length, take-append-drop}
use Rattle.std.specs.Prelude.{IfSome}
use Rattle.std.specs.Io.KnownBytes.{Appends, Consumes, Keeps, IsAtEnd}
use Rattle.std.proofs.Math.Seq.{drop-append_seam}
use Rattle.cfg_program.specs.Streams.{GrowsByPrefix}
use Rattle.cfg_program.specs.Inputs.{IsTooLong, most_bytes}

-- the bytes up to rest were written
pub record Written (before now : Option (List ℕ)) (bytes rest : List ℕ) : Type 0 where
  pub prefix : List ℕ
  pub parts : bytes ≡ prefix ++ rest
  pub grows : Appends before now prefix

grown : (a b c : Option (List ℕ)) (x y : List ℕ) → Appends a b x → Appends b c y → Appends a c (x ++ y)
grown None b c x y p q = tt
grown (Some before) None c x y p q = absurd p
grown (Some before) (Some now) None x y p q = q
grown (Some before) (Some now) (Some after) x y p q = q ∙ ap (λ (t : List ℕ). t ++ y) p ∙ append_assoc before x y

kept : (a b c : Option (List ℕ)) (x : List ℕ) → Appends a b x → Keeps b c → Appends a c x
kept None b c x p q = tt
kept (Some before) None c x p q = absurd p
kept (Some before) (Some now) None x p q = q
kept (Some before) (Some now) (Some after) x p q = q ∙ p

pub none_grown : (a : Option (List ℕ)) → Appends a a []
none_grown None = tt
none_grown (Some bytes) = sym (append-nil bytes)

pub starts : (a : Option (List ℕ)) (bytes : List ℕ) → Written a a bytes bytes
starts a bytes = record { prefix = []; parts = refl; grows = none_grown a }

pub goes_on : (a b c : Option (List ℕ)) (bytes rest : List ℕ) (n : ℕ) → Written a b bytes rest → Appends b c (take n rest) → Written a c bytes (drop n rest)
goes_on a b c bytes rest n w g = record {
  prefix = w.prefix ++ take n rest;
  parts = w.parts ∙ ap (λ (r : List ℕ). w.prefix ++ r) (sym (take-append-drop n rest)) ∙ sym (append_assoc w.prefix (take n rest) (drop n rest));
  grows = grown a b c w.prefix (take n rest) w.grows g;
}

pub all_written : (a b : Option (List ℕ)) (bytes rest : List ℕ) → Written a b bytes rest → length rest ≡ 0 → Appends a b bytes
all_written a b bytes rest w e = subst (λ (x : List ℕ). Appends a b x) (sym (w.parts ∙ ap (λ (r : List ℕ). w.prefix ++ r) (nil_from_length rest e) ∙ append-nil w.prefix)) w.grows

pub part_written : (a b c : Option (List ℕ)) (bytes rest : List ℕ) → Written a b bytes rest → Keeps b c → GrowsByPrefix a c bytes
part_written a b c bytes rest w e = (w.prefix, rest, w.parts, kept a b c w.prefix w.grows e)

pub gives_nothing : (a : Option (List ℕ)) → Consumes a a []
gives_nothing None = tt
gives_nothing (Some bytes) = refl

pub gives_more : (a b c : Option (List ℕ)) (x y : List ℕ) → Consumes a b x → Consumes b c y → Consumes a c (x ++ y)
gives_more None b c x y p q = tt
gives_more (Some bytes) None c x y p q = absurd p
gives_more (Some bytes) (Some now) None x y p q = q
gives_more (Some bytes) (Some now) (Some after) x y p q = p ∙ ap (λ (t : List ℕ). x ++ t) q ∙ sym (append_assoc x y after)

pub gave_all : (a b c : Option (List ℕ)) (x : List ℕ) → Consumes a b x → Consumes b c [] → IsAtEnd c → IfSome a (λ t. t ≡ x)
gave_all None b c x p q e = tt
gave_all (Some bytes) None c x p q e = absurd p
gave_all (Some bytes) (Some now) None x p q e = absurd q
gave_all (Some bytes) (Some now) (Some after) x p q e = p ∙ ap (λ (t : List ℕ). x ++ t) (q ∙ e) ∙ append-nil x

pub none_is_left : (c : Option (List ℕ)) → IsAtEnd c → IfSome c (λ t. t ≡ [])
none_is_left None e = tt
none_is_left (Some bytes) e = e

gave_more_than : (n : ℕ) (a b : Option (List ℕ)) (x : List ℕ) → Consumes a b x → length x ≡ n + 1 → IfSome a (λ t. (n < length t) × (b ≡ Some (drop (n + 1) t)))
gave_more_than n None b x p e = tt
gave_more_than n (Some bytes) None x p e = absurd p
gave_more_than n (Some bytes) (Some rest) x p e = (
  omega (arith, e, ap length p, length-append x rest),
  ap Some (sym (ap (λ (t : List ℕ). drop (n + 1) t) p ∙ ap (λ (k : ℕ). drop k (x ++ rest)) (sym e) ∙ drop-append_seam x rest)),
)

pub gave_long : (a b : Option (List ℕ)) (x : List ℕ) → Consumes a b x → most_bytes < length x → length x ≤ most_bytes + 1 → IsTooLong a b
gave_long a b x p more most = gave_more_than most_bytes a b x p (omega (arith, more, most))

pub ruleset pieces = (starts, all_written, part_written, gives_nothing, gives_more, gave_all, none_is_left, gave_long)
