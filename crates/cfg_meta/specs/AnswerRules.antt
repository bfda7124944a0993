-- What a kind of chain says of its members' answers.
use Rattle.std.specs.Prelude.{ℕ, List, Bool, false, Option, Result, Ok, Err}
use Rattle.cfg_types.specs.declared.errors.ProviderAttempt.{ProviderAttempt}
use Rattle.cfg_kept.specs.KeptInquiry.{KeptInquiry}
use Rattle.cfg_kept.specs.Chains.{Chain, passed}

-- Which errors are passed over, the answer where all members were, and which error says that memory ran
-- out.
pub record AnswerRules (E : Type 0) : Type 0 where
  pub is_not_loaded : E → Bool
  pub none_loaded : List (ProviderAttempt E) → E
  pub is_memory : E → Bool

-- members that are a name and a tree, as a chain
abbrev pub asked_chain : {V E : Type 0} → AnswerRules E → Chain (List ℕ × KeptInquiry (Result V E)) V E
asked_chain rules = record { name_of = λ m. m.0; tree = λ m. m.1; is_not_loaded = rules.is_not_loaded; none_loaded = rules.none_loaded }

-- the error of an answer that is passed over, as a chain says it
abbrev pub passed_over : {V E : Type 0} → AnswerRules E → Result V E → Option E
passed_over rules out = passed (asked_chain rules) out

-- what is told of a member of this name that was passed over
abbrev pub attempt_of : {E : Type 0} → List ℕ → E → ProviderAttempt E
attempt_of name e = record { name = name; error = e }

-- whether an answer says that memory ran out
abbrev pub is_memory_answer : {V E : Type 0} → AnswerRules E → Result V E → Bool
is_memory_answer rules (Ok value) = false
is_memory_answer rules (Err e) = rules.is_memory e
