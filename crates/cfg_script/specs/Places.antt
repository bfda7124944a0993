-- The members of an object that are put in their places one after the other.
use Rattle.std.specs.Prelude.{Option, Some, None, Result, Ok}
use Rattle.serde_json.specs.Data.{Members}
use Rattle.serde_json.specs.Find.{get_member}
use Rattle.serde_json.specs.View.{view}
use Rattle.serde_json.specs.declared.value.Value.{Value}
use Rattle.cfg_base.specs.Gives.{◌>>=◌}
use Rattle.cfg_script.specs.declared.fault.Fault.{Fault}
use Rattle.cfg_script.specs.Json.{without}
use Rattle.cfg_script.specs.Objects.{MemberForm, member_said}

-- what a member and those behind it say of a value in the member's place and of these members
abbrev pub with_member : {A B : Type 0} → MemberForm A → (Members → Result B Fault) → Option Value → Members → Result (A × B) Fault
with_member first others None ms = member_said first (get_member first.name ms) >>= λ a. others (without first.name ms) >>= λ b. Ok (a, b)
with_member first others (Some v) ms = member_said first (Some (view v)) >>= λ a. others ms >>= λ b. Ok (a, b)
