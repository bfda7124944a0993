-- The form of a value: what the value says, or its first fault.
use Rattle.std.specs.Prelude.{ℕ, ◌+◌, List, [], ◌∷◌, Option, Some, None, Result, Ok, is_some, if◌then◌else◌}
use Rattle.serde_json.specs.Data.{Data, Items, no_items, item}
use Rattle.serde_json.specs.Find.{as_array, as_str, as_null, get}
use Rattle.cfg_base.specs.Gives.{◌>>=◌}
use Rattle.cfg_script.specs.declared.fault.Fault.{Fault}
use Rattle.cfg_script.specs.declared.fault.Wanted.{Wanted}
use Rattle.cfg_script.specs.declared.fault.Wanted.TheVariants as wanted
use Rattle.cfg_script.specs.Json.{pair_from, triple_from}
use Rattle.cfg_script.specs.Faults.{under_place, wanting}

abbrev pub Form : Type 0 → Type 0
Form A = Data → Result A Fault

-- a value that is read whole
abbrev pub whole_form : {A : Type 0} → Wanted → (Data → Option A) → Form A
whole_form w read = λ d. wanting w (read d)

-- a form, and what its value stands for
abbrev pub standing_for : {A B : Type 0} → (A → B) → Form A → Form B
standing_for g form = λ d. form d >>= λ a. Ok (g a)

-- each item, in order, where the first one stands at this place
abbrev pub each : {A : Type 0} → Form A → ℕ → Items → Result (List A) Fault
each form place no_items = Ok []
each form place (item d ds) = under_place place (form d) >>= λ a. each form (place + 1) ds >>= λ rest. Ok (a ∷ rest)

-- a list, of which this is wanted, and each item in its form
abbrev pub list_by : {A : Type 0} → Wanted → Form A → Form (List A)
list_by w form = λ d. wanting w (as_array d) >>= each form 0

abbrev pub list_of : {A : Type 0} → Form A → Form (List A)
list_of form = list_by wanted.List form

-- a list of two, each in its form
abbrev pub pair_of : {A B : Type 0} → Wanted → Form A → Form B → Form (A × B)
pair_of w first second = λ d.
    wanting w (pair_from d) >>= λ p.
    under_place 0 (first p.0) >>= λ a.
    under_place 1 (second p.1) >>= λ b. Ok (a, b)

-- a list of three, each in its form
abbrev pub triple_of : {A B C : Type 0} → Wanted → Form A → Form B → Form C → Form (A × B × C)
triple_of w first second third = λ d.
    wanting w (triple_from d) >>= λ t.
    under_place 0 (first t.0) >>= λ a.
    under_place 1 (second t.1) >>= λ b.
    under_place 2 (third t.2) >>= λ c. Ok (a, b, c)

-- what a text says as a word, or else what another value says
abbrev pub word_or : {A : Type 0} → Wanted → (List ℕ → Option A) → Option (List ℕ) → Result A Fault → Result A Fault
word_or w word None other = other
word_or w word (Some text) other = wanting w (word text)

-- one of some words, or else a value of a form
abbrev pub text_or : {A : Type 0} → Wanted → (List ℕ → Option A) → Form A → Form A
text_or w word form = λ d. word_or w word (as_str d) (form d)

-- null, which says this, or else a value of a form
abbrev pub null_or : {A : Type 0} → A → Form A → Form A
null_or said form = λ d. if is_some (as_null d) then Ok said else form d

-- the first form where the value has a member of this name, and the second elsewhere
abbrev pub by_member : {A : Type 0} → List ℕ → Form A → Form A → Form A
by_member name first second = λ d. if is_some (get name d) then first d else second d
