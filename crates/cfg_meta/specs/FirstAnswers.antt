-- Which answer of which member is the chain's.
use Rattle.std.specs.Prelude.{◌≡◌, ℕ, List, ◌∷◌, ◌++◌, true, None, Result, Err, map}
use Rattle.std.specs.List.{AllByRecursion, flat_map}
use Rattle.cfg_types.specs.declared.errors.ProviderAttempt.{ProviderAttempt}
use Rattle.cfg_world.specs.Fits.{Pair}
use Rattle.cfg_kept.specs.KeptInquiry.{KeptInquiry}
use Rattle.cfg_meta.specs.AnswerRules.{AnswerRules, passed_over, attempt_of}
use Rattle.cfg_meta.specs.MemberParts.{Keeping, IsMemberPart}

-- A member that was asked and passed over: what was kept of it before, and what is kept now, its part of the
-- journal, and its error.
pub record Passed (M E : Type 0) : Type 0 where
  pub who : M
  pub old : Keeping
  pub new : Keeping
  pub part : List Pair
  pub error : E

-- the members, what was kept of them before and what is now, and their parts, in order
abbrev pub members_in : {M E : Type 0} → List (Passed M E) → List M
members_in passed = map (λ p. p.who) passed

abbrev pub olds_in : {M E : Type 0} → List (Passed M E) → List Keeping
olds_in passed = map (λ p. p.old) passed

abbrev pub news_in : {M E : Type 0} → List (Passed M E) → List Keeping
news_in passed = map (λ p. p.new) passed

abbrev pub parts_in : {M E : Type 0} → List (Passed M E) → List Pair
parts_in passed = flat_map (λ p. p.part) passed

-- what a chain tells of a member of this name that was passed over
abbrev pub told_of : {M E : Type 0} → (M → List ℕ) → Passed M E → ProviderAttempt E
told_of name_of p = attempt_of (name_of p.who) p.error

module _ {M V E : Type 0} (rules : AnswerRules E) (name_of : M → List ℕ) (is_tree : M → KeptInquiry (Result V E) → Type 0) where
  -- Over its part it gave its error, and this is passed over.
  pub record WasPassed (p : Passed M E) : Type 0 where
    pub gave : IsMemberPart (is_tree p.who) p.old p.new p.part (Err p.error)
    pub not_loaded : rules.is_not_loaded p.error ≡ true

  -- The answer is that of a member, as it gave it over the last part of the call's. Each member before it was
  -- passed over, and the parts before are theirs, in order. What is kept of those behind it is as it was.
  pub record IsFirstAnswer (members : List M) (olds news : List Keeping) (part : List Pair) (out : Result V E) : Type 0 where
    pub before : List (Passed M E)
    pub who : M
    pub old : Keeping
    pub new : Keeping
    pub answered : List Pair
    pub not_asked : List M
    pub others : List Keeping
    pub order : members ≡ members_in before ++ who ∷ not_asked
    pub passed : AllByRecursion WasPassed before
    pub gave : IsMemberPart (is_tree who) old new answered out
    pub stays : passed_over rules out ≡ None
    pub keeps : olds ≡ olds_in before ++ old ∷ others
    pub leaves : news ≡ news_in before ++ new ∷ others
    pub asks : part ≡ parts_in before ++ answered

  -- Each member was passed over, the call's part is theirs, in order, and the answer tells of each by its name
  -- and its error.
  pub record IsNoneLoaded (members : List M) (olds news : List Keeping) (part : List Pair) (out : Result V E) : Type 0 where
    pub all : List (Passed M E)
    pub others : List Keeping
    pub order : members ≡ members_in all
    pub passed : AllByRecursion WasPassed all
    pub keeps : olds ≡ olds_in all ++ others
    pub leaves : news ≡ news_in all ++ others
    pub asks : part ≡ parts_in all
    pub tells : out ≡ Err (rules.none_loaded (map (told_of name_of) all))
