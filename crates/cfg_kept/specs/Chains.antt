-- Chains: members that are asked in order, up to the first that answers.
use Rattle.std.specs.Prelude.{ℕ, List, [], ◌∷◌, ◌++◌, Bool, Option, Some, None, Result, Ok, Err, if◌then◌else◌}
use Rattle.cfg_types.specs.declared.errors.ProviderAttempt.{ProviderAttempt}
use Rattle.cfg_kept.specs.KeptInquiry.{KeptInquiry, Gives, onwards}

-- What a kind of chain says of its members, over any values and errors: the name of each, and the tree
-- that it asks; which errors are passed over, and the answer where all members were.
pub record Chain (M V E : Type 0) : Type 0 where
  pub name_of : M → List ℕ
  pub tree : M → KeptInquiry (Result V E)
  pub is_not_loaded : E → Bool
  pub none_loaded : List (ProviderAttempt E) → E

module _ {M V E : Type 0} (c : Chain M V E) where
  -- the error of an answer that is passed over
  abbrev pub passed : Result V E → Option E
  passed (Ok value) = None
  passed (Err e) = if c.is_not_loaded e then Some e else None

  -- what is told of a member that was passed over
  abbrev pub attempt : M → E → ProviderAttempt E
  attempt member e = record { name = c.name_of member; error = e }

  -- on to the others after a member that was passed over; any other answer is the chain's
  abbrev pub go_on : (List (ProviderAttempt E) → KeptInquiry (Result V E)) → M → List (ProviderAttempt E) → Result V E → Option E → KeptInquiry (Result V E)
  go_on others member attempts out (Some e) = others (attempts ++ attempt member e ∷ [])
  go_on others member attempts out None = Gives out

  -- the tree of these members, in order, after these attempts
  unfoldable pub chain : List M → List (ProviderAttempt E) → KeptInquiry (Result V E)
  chain [] attempts = Gives (Err (c.none_loaded attempts))
  chain (member ∷ members) attempts = onwards (c.tree member) (λ out. go_on (chain members) member attempts out (passed out))
