-- What a finished chain is: the parts of its inquiries, one after the other.
use Rattle.std.specs.Prelude.{◌≡◌, ◌⊎◌, List, [], ◌∷◌, ◌++◌, Option, Some, None}
use Rattle.cfg_world.specs.Fits.{Pair}
use Rattle.cfg_world.specs.Inquiry.{Inquiry, Reads, Begun}

module _ {R : Type 0} where
  -- The journal is the parts of these inquiries in order, up to the first that gave a value, which is the
  -- outcome: either this one gave it over the whole journal; or it gave none over its part, and the rest is
  -- the parts of the others. Where none gave one the outcome is none.
  abbrev pub AreParts : List (Inquiry (Option R)) → List Pair → Option R → Type 0
  AreParts [] journal out = (journal ≡ []) × (out ≡ None)
  AreParts (tree ∷ trees) journal out =
      ((value : R) × (out ≡ Some value) × Reads tree journal (Some value))
      ⊎ ((part : List Pair) × (rest : List Pair) × (journal ≡ part ++ rest) × Reads tree part None × AreParts trees rest out)

  -- The journal is the parts of all of them, and each gave none.
  abbrev pub NoneGives : List (Inquiry (Option R)) → List Pair → Type 0
  NoneGives [] journal = journal ≡ []
  NoneGives (tree ∷ trees) journal = (part : List Pair) × (rest : List Pair) × (journal ≡ part ++ rest) × Reads tree part None × NoneGives trees rest

  -- The journal is whole parts of the first of them, each of which gave none, and then the beginning of the
  -- next one's part.
  abbrev pub AreBegunParts : List (Inquiry (Option R)) → List Pair → Type 0
  AreBegunParts [] journal = journal ≡ []
  AreBegunParts (tree ∷ trees) journal =
      Begun tree journal
      ⊎ ((part : List Pair) × (rest : List Pair) × (journal ≡ part ++ rest) × Reads tree part None × AreBegunParts trees rest)
