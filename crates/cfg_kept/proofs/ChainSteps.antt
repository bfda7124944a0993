-- What is left of a chain after each member.
use Rattle.std.proofs.Common.{◌≡◌, ℕ, ◌+◌, ◌<◌, ◌≤◌, List, [], ◌∷◌, ◌++◌, Option, Some, None, Result, Err, get_or, drop, length, refl, sym, subst, add-one}
use Rattle.std.proofs.Math.Seq.{drop-cons}
use Rattle.std.proofs.Math.ListN.{drop_of_length-le}
use Rattle.cfg_types.specs.declared.errors.ProviderAttempt.{ProviderAttempt}
use Rattle.cfg_world.specs.declared.asking.Asking.{Ghosts}
use Rattle.cfg_kept.specs.KeptInquiry.{KeptInquiry, Gives, onwards}
use Rattle.cfg_kept.specs.Holds.{Holdings, HoldsEnds, HoldsWaits, HoldsBreaks}
use Rattle.cfg_kept.specs.Chains.{Chain, passed, attempt, go_on, chain}
use Rattle.cfg_kept.proofs.HoldingSteps.{HoldsLeads, holds_leads_start, holds_leads_then, holds_said, holds_waits_first, holds_breaks_first, holds_breaks_here}

module _ {M V E : Type 0} (c : Chain M V E) where
  abbrev Attempts : Type 0
  Attempts = List (ProviderAttempt E)

  abbrev others : List M → Attempts → KeptInquiry (Result V E)
  others members attempts = chain c members attempts

  abbrev then_others : List M → M → Attempts → Result V E → KeptInquiry (Result V E)
  then_others members member attempts out = go_on c (others members) member attempts out (passed c out)

  chain-drop : (members : List M) (i : ℕ) (d : M) (attempts : Attempts) → i < length members →
      others (drop i members) attempts ≡ onwards (c.tree (get_or members i d)) (then_others (drop (i + 1) members) (get_or members i d) attempts)
  unfolding chain
  chain-drop members i d attempts h = rw (add-one, drop-cons members i d h) refl

  chain-end : (members : List M) (i : ℕ) (attempts : Attempts) → length members ≤ i → others (drop i members) attempts ≡ Gives (Err (c.none_loaded attempts))
  unfolding chain
  chain-end members i attempts h = rw (drop_of_length-le members h) refl

module _ {M V E : Type 0} {W : Type 0} {w : Ghosts W} {old mid : W} {before between : Holdings} {tree : KeptInquiry (Result V E)} where
  at_member : (c : Chain M V E) (members : List M) (i : ℕ) (d : M) (attempts : List (ProviderAttempt E)) →
      HoldsLeads w tree old before mid between (chain c (drop i members) attempts) → i < length members →
      HoldsLeads w tree old before mid between (onwards (c.tree (get_or members i d)) (then_others c (drop (i + 1) members) (get_or members i d) attempts))
  at_member c members i d attempts a lt = subst (λ p. HoldsLeads w tree old before mid between p) (chain-drop c members i d attempts lt) a

  -- all members were passed over
  pub chain_none : (c : Chain M V E) (members : List M) (i : ℕ) (attempts : List (ProviderAttempt E)) →
      HoldsLeads w tree old before mid between (chain c (drop i members) attempts) → length members ≤ i → HoldsEnds w tree old before mid between (Err (c.none_loaded attempts))
  chain_none c members i attempts a le = (subst (λ p. HoldsLeads w tree old before mid between p) (chain-end c members i attempts le) a).ends _ _ _ (holds_said refl)

module _ {M V E : Type 0} {W : Type 0} {w : Ghosts W} {old mid new : W} {before between later : Holdings} {tree : KeptInquiry (Result V E)} where
  after_member : (c : Chain M V E) (members : List M) (i : ℕ) (d : M) (attempts : List (ProviderAttempt E)) {r : Result V E} (o : Option E) →
      HoldsLeads w tree old before mid between (chain c (drop i members) attempts) → i < length members → HoldsEnds w (c.tree (get_or members i d)) mid between new later r → passed c r ≡ o →
      HoldsLeads w tree old before new later (go_on c (others c (drop (i + 1) members)) (get_or members i d) attempts r o)
  after_member c members i d attempts {r} o a lt e is =
      subst (λ u. HoldsLeads w tree old before new later (go_on c (others c (drop (i + 1) members)) (get_or members i d) attempts r u)) is
      (holds_leads_then (then_others c (drop (i + 1) members) (get_or members i d) attempts) (at_member c members i d attempts a lt) e)

  -- a member was passed over
  pub chain_passed : (c : Chain M V E) (members : List M) (i : ℕ) (d : M) (attempts more : List (ProviderAttempt E)) {r : Result V E} (e : E) →
      HoldsLeads w tree old before mid between (chain c (drop i members) attempts) → i < length members → HoldsEnds w (c.tree (get_or members i d)) mid between new later r →
      passed c r ≡ Some e → more ≡ attempts ++ attempt c (get_or members i d) e ∷ [] →
      HoldsLeads w tree old before new later (chain c (drop (i + 1) members) more)
  chain_passed c members i d attempts more e a lt ends is grown =
      subst (λ x. HoldsLeads w tree old before new later (chain c (drop (i + 1) members) x)) (sym grown) (after_member c members i d attempts (Some e) a lt ends is)

  -- its answer is the chain's
  pub chain_answers : (c : Chain M V E) (members : List M) (i : ℕ) (d : M) (attempts : List (ProviderAttempt E)) {r : Result V E} (out : Result V E) →
      HoldsLeads w tree old before mid between (chain c (drop i members) attempts) → i < length members → HoldsEnds w (c.tree (get_or members i d)) mid between new later r →
      passed c r ≡ None → out ≡ r → HoldsEnds w tree old before new later out
  chain_answers c members i d attempts out a lt ends is same = (after_member c members i d attempts None a lt ends is).ends _ _ _ (holds_said (sym same))

  -- its question is open, or memory ran out in it
  pub chain_waits : (c : Chain M V E) (members : List M) (i : ℕ) (d : M) (attempts : List (ProviderAttempt E)) →
      HoldsLeads w tree old before mid between (chain c (drop i members) attempts) → i < length members → HoldsWaits w (c.tree (get_or members i d)) mid between new later → HoldsWaits w tree old before new later
  chain_waits c members i d attempts a lt e = (at_member c members i d attempts a lt).waits _ _ (holds_waits_first (then_others c (drop (i + 1) members) (get_or members i d) attempts) e)

  pub chain_breaks : (c : Chain M V E) (members : List M) (i : ℕ) (d : M) (attempts : List (ProviderAttempt E)) →
      HoldsLeads w tree old before mid between (chain c (drop i members) attempts) → i < length members → HoldsBreaks w (c.tree (get_or members i d)) mid between new later → HoldsBreaks w tree old before new later
  chain_breaks c members i d attempts a lt e = (at_member c members i d attempts a lt).breaks _ _ (holds_breaks_first (then_others c (drop (i + 1) members) (get_or members i d) attempts) e)

  -- memory ran out after a member was passed over
  pub chain_breaks_later : (c : Chain M V E) (members : List M) (i : ℕ) (d : M) (attempts : List (ProviderAttempt E)) {r : Result V E} (e : E) →
      HoldsLeads w tree old before mid between (chain c (drop i members) attempts) → i < length members → HoldsEnds w (c.tree (get_or members i d)) mid between new later r → passed c r ≡ Some e → HoldsBreaks w tree old before new later
  chain_breaks_later c members i d attempts e a lt ends is = (after_member c members i d attempts (Some e) a lt ends is).breaks _ _ holds_breaks_here

pub ruleset chain_steps = (holds_leads_start, chain_passed, chain_answers, chain_waits, chain_breaks, chain_breaks_later, chain_none)
