-- The form of an object: its members, each by its name and its form, and no others.
use Rattle.std.specs.Prelude.{ℕ, List, [], Bool, false, ◌||◌, bytes_eq, Option, Some, None, Result, Ok, Err, if◌then◌else◌}
use Rattle.serde_json.specs.Data.{Data, Members, no_members, member}
use Rattle.serde_json.specs.Find.{as_object, get_member}
use Rattle.cfg_base.specs.Gives.{◌>>=◌}
use Rattle.cfg_script.specs.declared.fault.Fault.{Fault}
use Rattle.cfg_script.specs.declared.fault.Wanted.{Wanted}
use Rattle.cfg_script.specs.declared.fault.Wanted.TheVariants as wanted
use Rattle.cfg_script.specs.Json.{without}
use Rattle.cfg_script.specs.Faults.{here, member_fault, under_name, wanting, unless}
use Rattle.cfg_script.specs.Forms.{Form, standing_for, list_of}

-- the name of a member, and what it says, there or missing
pub record MemberForm (A : Type 0) : Type 0 where
  pub name : List ℕ
  pub read : Option Data → Result A Fault

abbrev pub or_missing : {A : Type 0} → A → Form A → Option Data → Result A Fault
or_missing missing form None = Ok missing
or_missing missing form (Some d) = form d

-- a member, and what is said where it is missing
abbrev pub member_or : {A : Type 0} → List ℕ → A → Form A → MemberForm A
member_or name missing form = record { name = name; read = or_missing missing form }

-- a list, empty where its member is missing
abbrev pub list_member : {A : Type 0} → List ℕ → Form A → MemberForm (List A)
list_member name form = member_or name [] (list_of form)

-- a member that may be missing
abbrev pub optional_member : {A : Type 0} → List ℕ → Form A → MemberForm (Option A)
optional_member name form = member_or name None (standing_for Some form)

abbrev pub where_there : {A : Type 0} → Form A → Option Data → Result A Fault
where_there form None = Err (here wanted.Present)
where_there form (Some d) = form d

-- a member that has to be there
abbrev pub required_member : {A : Type 0} → List ℕ → Form A → MemberForm A
required_member name form = record { name = name; read = where_there form }

-- what a member says, seen from its object
abbrev pub member_said : {A : Type 0} → MemberForm A → Option Data → Result A Fault
member_said m value = under_name m.name (m.read value)

-- the members of an object: their names, and what they say; each is taken out before the next is read
pub record ObjectForm (A : Type 0) : Type 0 where
  pub has : List ℕ → Bool
  pub read : Members → Result A Fault

abbrev pub nothing_more : ObjectForm (Unit {0})
nothing_more = record { has = λ name. false; read = λ ms. Ok tt }

-- a member more, in front of the others
infixr 9 ◌&◌
abbrev pub ◌&◌ : {A B : Type 0} → MemberForm A → ObjectForm B → ObjectForm (A × B)
first & others = record {
  has = λ name. bytes_eq name first.name || others.has name;
  read = λ ms. member_said first (get_member first.name ms) >>= λ a. others.read (without first.name ms) >>= λ b. Ok (a, b);
}

-- the members of an object, and what they stand for together
abbrev pub together : {A B : Type 0} → (A → B) → ObjectForm A → ObjectForm B
together g object = record { has = object.has; read = λ ms. object.read ms >>= λ a. Ok (g a) }

-- the fault of the first member whose name is none of these, in the order of names
abbrev pub unknown_name : (List ℕ → Bool) → Members → Option Fault
unknown_name has no_members = None
unknown_name has (member name d ms) = if has name then unknown_name has ms else Some (member_fault name wanted.KnownName)

-- the members of an object and no others
abbrev pub only : {A : Type 0} → ObjectForm A → Members → Result A Fault
only object ms = unless (unknown_name object.has ms) (object.read ms)

-- a value that has to be such an object
abbrev pub object_of : {A : Type 0} → Wanted → ObjectForm A → Form A
object_of w object = λ d. wanting w (as_object d) >>= only object
