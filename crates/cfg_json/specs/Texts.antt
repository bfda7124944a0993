-- The texts of an object.
use Rattle.std.specs.Prelude.{ℕ, List}
use Rattle.cfg_base.specs.Text.{characters}
use Rattle.cfg_json.specs.declared.text.Piece.{Piece}
use Rattle.cfg_json.specs.declared.text.Piece.TheVariants as piece

-- the characters of a text, lent or its own
abbrev pub characters_in : Piece → List ℕ
characters_in (piece.Lent text) = characters text.now
characters_in (piece.Own text) = text
