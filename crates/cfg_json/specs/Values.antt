-- Values that nest (RFC 8259, sections 3 to 5), down to a depth.
use Rattle.std.specs.Prelude.{◌≡◌, ℕ, suc, List, [], ◌∷◌, ◌++◌, Bool, true, false, ◌||◌, ◌⊎◌, codes, if◌then◌else◌}
use Rattle.cfg_json.specs.Ascii.{comma, colon, left_square_bracket, right_square_bracket, left_curly_bracket, right_curly_bracket}
use Rattle.cfg_json.specs.WhiteSpace.{IsWhiteSpace}
use Rattle.cfg_json.specs.Strings.{IsString}
use Rattle.cfg_json.specs.Numbers.{IsNumber}

-- what ends an array, and an object
abbrev pub close_of : Bool → ℕ
close_of keyed = if keyed then right_curly_bracket else right_square_bracket

-- one of the three words that are values
abbrev pub IsWord : List ℕ → Type 0
IsWord t = (t ≡ codes "true") ⊎ ((t ≡ codes "false") ⊎ (t ≡ codes "null"))

-- a key, the colon after it, and the white space round both
pub record IsKey (bytes characters : List ℕ) : Type 0 where
  pub before : List ℕ
  pub string : List ℕ
  pub after : List ℕ
  pub is : bytes ≡ before ++ (string ++ (after ++ colon ∷ []))
  pub white_space_before : IsWhiteSpace before
  pub is_string : IsString string characters
  pub white_space_after : IsWhiteSpace after

-- the depth that is left, the text, and whether an object stands in it
mutual
  pub data IsValue : ℕ → List ℕ → Bool → Type 0 where
    string : (d : ℕ) (t s : List ℕ) → IsString t s → IsValue d t false
    number : (d : ℕ) (t : List ℕ) → IsNumber t → IsValue d t false
    word : (d : ℕ) (t : List ℕ) → IsWord t → IsValue d t false
    no_items : (d : ℕ) (w : List ℕ) → IsWhiteSpace w → IsValue (suc d) (left_square_bracket ∷ (w ++ right_square_bracket ∷ [])) false
    items : (d : ℕ) (t : List ℕ) (b : Bool) → AreItems false d t b → IsValue (suc d) (left_square_bracket ∷ t) b
    no_members : (d : ℕ) (w : List ℕ) → IsWhiteSpace w → IsValue (suc d) (left_curly_bracket ∷ (w ++ right_curly_bracket ∷ [])) true
    members : (d : ℕ) (t : List ℕ) (b : Bool) → AreItems true d t b → IsValue (suc d) (left_curly_bracket ∷ t) true

  -- a value with the white space round it; in an object a key stands before it
  pub data IsItem : Bool → ℕ → List ℕ → Bool → Type 0 where
    bare : (d : ℕ) (v before after t : List ℕ) (b : Bool) → IsValue d v b → IsWhiteSpace before → IsWhiteSpace after → t ≡ before ++ (v ++ after) → IsItem false d t b
    keyed : (d : ℕ) (key name v t : List ℕ) (b : Bool) → IsKey key name → IsItem false d v b → t ≡ key ++ v → IsItem true d t b

  -- one or more items with commas between, and what ends them
  pub data AreItems : Bool → ℕ → List ℕ → Bool → Type 0 where
    last : (keyed : Bool) (d : ℕ) (v t : List ℕ) (b : Bool) → IsItem keyed d v b → t ≡ v ++ close_of keyed ∷ [] → AreItems keyed d t b
    more : (keyed : Bool) (d : ℕ) (v u t : List ℕ) (b c : Bool) → IsItem keyed d v b → AreItems keyed d u c → t ≡ v ++ comma ∷ u → AreItems keyed d t (b || c)
