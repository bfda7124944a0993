-- A new name of a cache.
use Rattle.std.proofs.Common.{◌≡◌, ℕ, List, [], ◌∷◌, ◌++◌, length, option_map, sym, subst}
use Rattle.std.specs.FinMap.{insert, len}
use Rattle.cfg_base.specs.TextMap.{Named}
use Rattle.cfg_identity.specs.Entries.{Entry, IsPlaced}
use Rattle.cfg_identity.specs.Names.{AreBelow, at_name}
use Rattle.cfg_identity.proofs.NameSteps.{under_new, others_of_new}

pub placed_from : {X : Type 0} (f : X → Entry) (m after : Named ℕ) (xs ys : List X) (key name : List ℕ) (x : X)
    → key ≡ name → after ≡ insert m key (len m) → ys ≡ xs ++ x ∷ [] → length xs ≡ len m → AreBelow m
    → IsPlaced (f x) name (λ n. option_map f (at_name m xs n)) (λ n. option_map f (at_name after ys n))
placed_from f m after xs ys key name x same added pushed counted below =
    subst (λ k. IsPlaced (f x) k (λ n. option_map f (at_name m xs n)) (λ n. option_map f (at_name after ys n))) same
    (subst (λ a. IsPlaced (f x) key (λ n. option_map f (at_name m xs n)) (λ n. option_map f (at_name a ys n))) (sym added)
    (subst (λ zs. IsPlaced (f x) key (λ n. option_map f (at_name m xs n)) (λ n. option_map f (at_name (insert m key (len m)) zs n))) (sym pushed)
    (record { there = under_new f m xs key x counted; others = others_of_new f m xs key x counted below })))
