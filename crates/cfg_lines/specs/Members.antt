-- JSON objects by their members, some of which may be left out, and what stands in a member.
use Rattle.std.specs.Prelude.{ℕ, ℤ, List, [], ◌∷◌, map, fold, codes, Option, Some, None, option_map, if◌then◌else◌}
use Rattle.std.specs.Str.{encode_utf8_all, is_utf8}
use Rattle.hex.specs.Hex.{encode_lower}
use Rattle.serde_json.specs.Data.{Data, number, string, array, object, unsigned, Items, no_items, item, Members, no_members, member, put}
use Rattle.serde_json.specs.Find.{of_integer}
use Rattle.serde_json.specs.View.{members_view}
use Rattle.cfg_lines.specs.declared.fields.Fields.{Fields}

-- the members that are told so far
abbrev pub members_in : Fields → Members
members_in fields = members_view fields.map.entries

-- the name of a member, and its value, or none where the member is left out
abbrev pub Row : Type 0
Row = List ℕ × Option Data

-- the members, with a value at this name, or as they are
unfoldable pub put_or_keep : List ℕ → Option Data → Members → Members
put_or_keep name None ms = ms
put_or_keep name (Some d) ms = put name d ms

-- the members, with one more
abbrev pub with_row : Members → Row → Members
with_row ms row = put_or_keep row.0 row.1 ms

-- the object with these members
unfoldable pub object_with : List Row → Data
object_with rows = object (fold with_row no_members rows)

-- ---- what stands in a member

-- a text, by its characters
unfoldable pub text_value : List ℕ → Data
text_value text = string (encode_utf8_all text)

-- a whole number
abbrev pub whole : ℕ → Data
whole n = number (unsigned n)

-- a whole number with sign
abbrev pub signed : ℤ → Data
signed z = number (of_integer z)

-- bytes: a text, where they are UTF-8, and else {"hex": digits}
unfoldable pub content_value : List ℕ → Data
content_value bytes = if is_utf8 bytes then string bytes else object (member (codes "hex") (string (encode_lower bytes)) no_members)

abbrev pub items_of : List Data → Items
items_of [] = no_items
items_of (d ∷ ds) = item d (items_of ds)

-- a list of values
abbrev pub list_value : {A : Type 0} → (A → Data) → List A → Data
list_value value xs = array (items_of (map value xs))

-- ---- members

-- a member that is there
abbrev pub has : List ℕ → Data → Row
has name d = (name, Some d)

-- a member that is there where there is something to tell
abbrev pub may_have : {A : Type 0} → List ℕ → (A → Data) → Option A → Row
may_have name value told = (name, option_map value told)
