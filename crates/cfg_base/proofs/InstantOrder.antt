-- Moments by their parts and by their numbers.
use Rattle.std.proofs.Common.{◌≡◌, ℕ, ◌<◌, true, refl, arith}
use Rattle.std.specs.Prelude.{◌↔◌, ℤ, pos, ◌+ℤ◌, ◌*ℤ◌, ◌<ℤ◌}
use Rattle.std.specs.declared.cmp.Ordering.{Ordering}
use Rattle.std.specs.declared.cmp.Ordering.TheVariants.{Less, Equal, Greater}
use Rattle.std.specs.Ordering.{MatchOrdering, ordering_then, nat_cmp, int_cmp, is_lt}
use Rattle.std.specs.Cmp.{ranks, int_ranks, int_cmp_is}
use Rattle.std.proofs.lemmas.Int.{ints}
use Rattle.cfg_base.specs.Moment.{Moment}
use Rattle.cfg_base.specs.Instant.{number}

abbrev in_nanos : ℤ → ℕ → ℤ
in_nanos seconds nanos = seconds *ℤ pos 1000000000 +ℤ pos nanos

ranked_by_parts : (r q : Ordering) (s t : ℤ) (m n : ℕ) → m < 1000000000 → n < 1000000000
    → MatchOrdering r (s <ℤ t) (s ≡ t) (t <ℤ s) → MatchOrdering q (m < n) (m ≡ n) (n < m)
    → MatchOrdering (ordering_then r q) (in_nanos s m <ℤ in_nanos t n) (in_nanos s m ≡ in_nanos t n) (in_nanos t n <ℤ in_nanos s m)
ranked_by_parts Less q s t m n low high a b = omega (arith, ints, a)
ranked_by_parts Greater q s t m n low high a b = omega (arith, ints, a)
ranked_by_parts Equal Less s t m n low high a b = omega (arith, ints, a, b)
ranked_by_parts Equal Equal s t m n low high a b = omega (arith, ints, a, b)
ranked_by_parts Equal Greater s t m n low high a b = omega (arith, ints, a, b)

-- by seconds, and then by nanoseconds, is by the number
pub ordered_as_numbers : (a b : Moment) → a.nanos < 1000000000 → b.nanos < 1000000000
    → ordering_then (int_cmp a.seconds b.seconds) (nat_cmp a.nanos b.nanos) ≡ int_cmp (number a) (number b)
ordered_as_numbers a b low high = int_cmp_is _ _ _ (ranked_by_parts _ _ a.seconds b.seconds a.nanos b.nanos low high (int_ranks a.seconds b.seconds) (ranks a.nanos b.nanos))

-- one number, one moment
pub same_seconds : (a b : Moment) → a.nanos < 1000000000 → b.nanos < 1000000000 → number a ≡ number b → a.seconds ≡ b.seconds
same_seconds a b low high e = omega (arith, ints, e)

pub same_nanos : (a b : Moment) → a.nanos < 1000000000 → b.nanos < 1000000000 → number a ≡ number b → a.nanos ≡ b.nanos
same_nanos a b low high e = omega (arith, ints, e)

ranked_below : (r : Ordering) (x y : ℤ) → MatchOrdering r (x <ℤ y) (x ≡ y) (y <ℤ x) → (is_lt r ≡ true) ↔ (x <ℤ y)
ranked_below Less x y rank = (λ e. rank, λ below. refl)
ranked_below Equal x y rank = (λ e. cc, λ below. absurd (omega (arith, ints, rank, below)))
ranked_below Greater x y rank = (λ e. cc, λ below. absurd (omega (arith, ints, rank, below)))

-- what compares as below is below
pub is_below : (x y : ℤ) → (is_lt (int_cmp x y) ≡ true) ↔ (x <ℤ y)
is_below x y = ranked_below (int_cmp x y) x y (int_ranks x y)
