-- What a finished chain is: the parts of its members, one after the other.
use Rattle.std.specs.Prelude.{◌≡◌, List, [], ◌∷◌, ◌++◌, Option, Some, None, Result, Err, ◌⊎◌}
use Rattle.cfg_types.specs.declared.errors.ProviderAttempt.{ProviderAttempt}
use Rattle.cfg_world.specs.Fits.{Pair}
use Rattle.cfg_kept.specs.Kinds.{Value, States}
use Rattle.cfg_kept.specs.KeptInquiry.{Reads, Runs, Begins}
use Rattle.cfg_kept.specs.Chains.{Chain, passed, attempt}

module _ {M V E : Type 0} (c : Chain M V E) where
  -- over these found values and this part of the journal the member answers so
  abbrev pub MemberReads : M → List Value → List Pair → Result V E → Type 0
  MemberReads member found part out = Reads (c.tree member) found part out

  -- The found values and the journal are the parts of these members in order, up to the first that was
  -- not passed over, whose answer is the outcome. Where all were passed over, the outcome tells of each
  -- of them in order. What a member's part is says the first argument.
  abbrev pub AreParts : (M → List Value → List Pair → Result V E → Type 0) → List M → List (ProviderAttempt E) → List Value → List Pair → Result V E → Type 0
  AreParts is_part [] attempts found journal out = (found ≡ []) × (journal ≡ []) × (out ≡ Err (c.none_loaded attempts))
  AreParts is_part (member ∷ members) attempts found journal out =
      ((found_first : List Value) × (found_then : List Value) × (part : List Pair) × (rest : List Pair) × (given : Result V E) × (e : E)
      × (found ≡ found_first ++ found_then) × (journal ≡ part ++ rest) × is_part member found_first part given × (passed c given ≡ Some e)
      × AreParts is_part members (attempts ++ attempt c member e ∷ []) found_then rest out)
      ⊎ (is_part member found journal out × (passed c out ≡ None))

  -- The found values and the journal are the parts of the members that were passed over, in order, and
  -- then the beginning of the next member's part. From the kept states old to the kept states new.
  abbrev pub AreBegunParts : List M → Option States → List Value → List Pair → Option States → Type 0
  AreBegunParts [] old found journal new = (found ≡ []) × (journal ≡ []) × (old ≡ new)
  AreBegunParts (member ∷ members) old found journal new =
      ((found_first : List Value) × (found_then : List Value) × (part : List Pair) × (rest : List Pair) × (middle : Option States) × (given : Result V E) × (e : E)
      × (found ≡ found_first ++ found_then) × (journal ≡ part ++ rest) × Runs (c.tree member) old found_first part given middle × (passed c given ≡ Some e)
      × AreBegunParts members middle found_then rest new)
      ⊎ Begins (c.tree member) old found journal new
