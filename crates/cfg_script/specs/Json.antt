-- JSON values taken apart: lists of two and of three, and the members of an object.
use Rattle.std.specs.Prelude.{ℕ, List, Option, Some, None, cond, bytes_eq}
use Rattle.serde_json.specs.Data.{Data, Items, no_items, item, Members, no_members, member}
use Rattle.serde_json.specs.Find.{as_array}

-- the next step, where the one before it gave a value
infixl 10 ◌>>=◌
abbrev pub ◌>>=◌ : {A B : Type 0} → Option A → (A → Option B) → Option B
(Some x) >>= f = f x
None >>= f = None

-- both items of a list of two
abbrev pub two : Items → Option (Data × Data)
two no_items = None
two (item a no_items) = None
two (item a (item b no_items)) = Some (a, b)
two (item a (item b (item c ds))) = None

-- the items of a list of three
abbrev pub three : Items → Option (Data × Data × Data)
three no_items = None
three (item a no_items) = None
three (item a (item b no_items)) = None
three (item a (item b (item c no_items))) = Some (a, b, c)
three (item a (item b (item c (item d ds)))) = None

-- both items of a value that is a list of two
abbrev pub pair_from : Data → Option (Data × Data)
pair_from d = as_array d >>= two

-- the items of a value that is a list of three
abbrev pub triple_from : Data → Option (Data × Data × Data)
triple_from d = as_array d >>= three

-- the members, without the first of this name
abbrev pub without : List ℕ → Members → Members
without name no_members = no_members
without name (member other d ms) = cond (bytes_eq name other) ms (member other d (without name ms))
