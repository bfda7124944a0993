-- Chains of inquiries, of which the first that gives a value is the answer.
use Rattle.std.specs.Prelude.{List, [], ◌∷◌, Option, Some, None}
use Rattle.cfg_world.specs.Inquiry.{Inquiry, Done, after}

module _ {R : Type 0} where
  -- a value ends the chain; after none the others follow
  abbrev pub or_others : Inquiry (Option R) → Option R → Inquiry (Option R)
  or_others others (Some value) = Done (Some value)
  or_others others None = others

  -- They are asked in order, up to the first that gives a value.
  unfoldable pub first_given : List (Inquiry (Option R)) → Inquiry (Option R)
  first_given [] = Done None
  first_given (tree ∷ trees) = after tree (or_others (first_given trees))
