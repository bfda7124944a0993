-- What a finished call of a chain over given members is: the parts of its members, one after the other,
-- each with what is kept of that member.
use Rattle.std.specs.Prelude.{◌≡◌, ◌⊎◌, ℕ, List, [], ◌∷◌, ◌++◌, Some, None, Result, Err, map}
use Rattle.cfg_types.specs.declared.errors.ProviderAttempt.{ProviderAttempt}
use Rattle.cfg_world.specs.declared.ask.Question.{Question}
use Rattle.cfg_world.specs.Fits.{Pair}
use Rattle.cfg_kept.specs.declared.kept.Kept.{Kept}
use Rattle.cfg_kept.specs.FoundValues.{bare}
use Rattle.cfg_kept.specs.Kinds.{Value, States}
use Rattle.cfg_kept.specs.KeptInquiry.{KeptInquiry, Reads, Asks, Begins, found_by, kept_after}
use Rattle.cfg_kept.specs.KeptStates.{states_of}
use Rattle.cfg_meta.specs.AnswerRules.{AnswerRules, passed_over, attempt_of}

-- what is kept of one member, and the values that were found there
pub record Keeping : Type 0 where
  pub states : States
  pub found : List Value

abbrev pub keeping_of : Kept → Keeping
keeping_of kept = record { states = states_of kept; found = map bare kept.found.items }

-- the same, with nothing found yet
abbrev pub with_nothing_found : Keeping → Keeping
with_nothing_found keeping = record { states = keeping.states; found = [] }

-- ---- one member

-- The part of a member: over this part of the journal a tree of its own gives this answer. What it found
-- is what was kept, and what is kept now is what it leaves.
pub record IsMemberPart {R : Type 0} (is_tree : KeptInquiry R → Type 0) (old new : Keeping) (part : List Pair) (given : R) : Type 0 where
  pub tree : KeptInquiry R
  pub is_its : is_tree tree
  pub reads : Reads tree (found_by tree old.states part) part given
  pub finds : new.found ≡ old.found ++ found_by tree old.states part
  pub keeps : new.states ≡ kept_after tree old.states part

-- The part after which a member asks this question next.
pub record IsMemberQuestion {R : Type 0} (is_tree : KeptInquiry R → Type 0) (old new : Keeping) (part : List Pair) (question : Question) : Type 0 where
  pub tree : KeptInquiry R
  pub is_its : is_tree tree
  pub found : List Value
  pub finds : new.found ≡ old.found ++ found
  pub asks : Asks tree (Some old.states) found part question (Some new.states)

-- The beginning of a member's part. Each kept value is as the last finished holding left it.
pub record IsMemberBeginning {R : Type 0} (is_tree : KeptInquiry R → Type 0) (old new : Keeping) (part : List Pair) : Type 0 where
  pub tree : KeptInquiry R
  pub is_its : is_tree tree
  pub found : List Value
  pub finds : new.found ≡ old.found ++ found
  pub begins : Begins tree (Some old.states) found part (Some new.states)

-- Nothing was asked of a member, and nothing changed in what is kept of it.
abbrev pub IsUntouched : Keeping → Keeping → List Pair → Type 0
IsUntouched old new part = (part ≡ []) × (new ≡ old)

-- A member has begun, or nothing was asked of it yet.
abbrev pub HasBegun : {R : Type 0} → (KeptInquiry R → Type 0) → Keeping → Keeping → List Pair → Type 0
HasBegun is_tree old new part = IsMemberBeginning is_tree old new part ⊎ IsUntouched old new part

-- ---- all members

module _ {M V E : Type 0} (rules : AnswerRules E) (name_of : M → List ℕ) (is_tree : M → KeptInquiry (Result V E) → Type 0) where
  -- The journal's part is the parts of the members that were passed over, in order, and then what the
  -- first argument says of the next member; those behind it are untouched. Or all were passed over, and
  -- the second argument holds of what is told of them. The lists of what is kept go with the members.
  abbrev pub GoesThrough : (M → Keeping → Keeping → List Pair → Type 0) → (List (ProviderAttempt E) → Type 0) → List M → List (ProviderAttempt E) → List Keeping → List Keeping → List Pair → Type 0
  GoesThrough at_member at_end [] attempts olds news part = (part ≡ []) × (news ≡ olds) × at_end attempts
  GoesThrough at_member at_end (member ∷ members) attempts (old ∷ olds) (new ∷ news) part =
      ((first : List Pair) × (rest : List Pair) × (given : Result V E) × (e : E)
      × (part ≡ first ++ rest) × IsMemberPart (is_tree member) old new first given × (passed_over rules given ≡ Some e)
      × GoesThrough at_member at_end members (attempts ++ attempt_of (name_of member) e ∷ []) olds news rest)
      ⊎ (at_member member old new part × (news ≡ olds))
  GoesThrough at_member at_end (member ∷ members) attempts _ _ part = ⊥

  -- The parts of the members in order, up to the first that was not passed over, whose answer is the
  -- outcome. Where all were passed over, the outcome tells of each of them by its name, in order.
  abbrev pub AreMemberParts : List M → List Keeping → List Keeping → List Pair → Result V E → Type 0
  AreMemberParts members olds news part out =
      GoesThrough (λ member old new mine. IsMemberPart (is_tree member) old new mine out × (passed_over rules out ≡ None)) (λ attempts. out ≡ Err (rules.none_loaded attempts)) members [] olds news part

  -- The parts of the members that were passed over, in order, and then that after which the next member
  -- asks this question.
  abbrev pub AskNext : List M → List Keeping → List Keeping → List Pair → Question → Type 0
  AskNext members olds news part question =
      GoesThrough (λ member old new mine. IsMemberQuestion (is_tree member) old new mine question) (λ attempts. ⊥) members [] olds news part

  -- The parts of the members that were passed over, in order, and then the beginning of the next one's.
  abbrev pub AreBegunParts : List M → List Keeping → List Keeping → List Pair → Type 0
  AreBegunParts members olds news part = GoesThrough (λ member old new mine. HasBegun (is_tree member) old new mine) (λ attempts. Unit {0}) members [] olds news part
