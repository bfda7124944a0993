-- Reading a value from left to right: whether an object stands in it, and what follows it.
use Rattle.std.specs.Option.{option_or}
use Rattle.std.specs.Prelude.{ℕ, zero, suc, List, [], ◌∷◌, length, Bool, true, false, ◌||◌, ◌==◌, Option, Some, None, if◌then◌else◌}
use Rattle.cfg_json.specs.Ascii.{quotation_mark, comma, colon, left_square_bracket, left_curly_bracket}
use Rattle.cfg_json.specs.Reads.{◌>>=◌}
use Rattle.cfg_json.specs.Values.{close_of}
use Rattle.cfg_json.specs.Reading.{after_white_space, mark_at, number_at, word_at, string_at}

abbrev pub Read : Type 0
Read = Bool × List ℕ

abbrev pub or_front : Bool → Option Read → Option Read
or_front has read = read >>= λ q. Some (has || q.0, q.1)

-- a number or a word
unfoldable pub scalar_at : List ℕ → Option (List ℕ)
scalar_at t = option_or (word_at t) (number_at t)

-- a value that does not nest
unfoldable pub leaf_at : List ℕ → Option Read
leaf_at [] = None
leaf_at (x ∷ t) = if x == quotation_mark then (string_at t >>= λ p. Some (false, p.1)) else (scalar_at (x ∷ t) >>= λ r. Some (false, r))

-- a key and its colon: the key's characters, and what follows
unfoldable pub key_at : List ℕ → Option (List ℕ × List ℕ)
key_at t = mark_at quotation_mark (after_white_space t) >>= λ r. string_at r >>= λ k. mark_at colon (after_white_space k.1) >>= λ v. Some (k.0, v)

-- a value with the white space round it
unfoldable pub padded_at : (List ℕ → Option Read) → List ℕ → Option Read
padded_at value t = value (after_white_space t) >>= λ p. Some (p.0, after_white_space p.1)

unfoldable pub item_at : Bool → (List ℕ → Option Read) → List ℕ → Option Read
item_at false value t = padded_at value t
item_at true value t = key_at t >>= λ k. padded_at value k.1

-- an item and the byte behind it: whether an object stands in the item, whether this ends the list, and what follows
abbrev pub Turn : Type 0
Turn = Bool × Bool × List ℕ

abbrev pub after_item : Bool → Bool → List ℕ → Option Turn
after_item keyed has [] = None
after_item keyed has (x ∷ t) = if x == close_of keyed then Some (has, true, t) else (if x == comma then Some (has, false, t) else None)

unfoldable pub turn_at : Bool → (List ℕ → Option Read) → List ℕ → Option Turn
turn_at keyed value t = item_at keyed value t >>= λ p. after_item keyed p.0 p.1

abbrev pub go_on : Bool → Bool → List ℕ → (List ℕ → Option Read) → Option Read
go_on has true t more = Some (has, t)
go_on has false t more = or_front has (more t)

-- The number bounds the turns. The length of the text is always enough.
unfoldable pub items_at : Bool → (List ℕ → Option Read) → ℕ → List ℕ → Option Read
items_at keyed value zero t = None
items_at keyed value (suc n) t = turn_at keyed value t >>= λ p. go_on p.0 p.1 p.2 (items_at keyed value n)

abbrev pub inside_from : Bool → (List ℕ → Option Read) → List ℕ → List ℕ → Option Read
inside_from keyed value t [] = None
inside_from keyed value t (x ∷ u) = if x == close_of keyed then Some (false, u) else items_at keyed value (length t) t

-- behind the opening bracket
unfoldable pub inside_at : Bool → (List ℕ → Option Read) → List ℕ → Option Read
inside_at keyed value t = inside_from keyed value t (after_white_space t)

unfoldable pub value_at : ℕ → List ℕ → Option Read
value_at d [] = None
value_at zero (x ∷ t) = leaf_at (x ∷ t)
value_at (suc d) (x ∷ t) = if x == left_square_bracket then inside_at false (value_at d) t else (if x == left_curly_bracket then or_front true (inside_at true (value_at d) t) else leaf_at (x ∷ t))
