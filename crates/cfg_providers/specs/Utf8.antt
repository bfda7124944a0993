-- Bytes that are to be a text.
use Rattle.std.specs.Prelude.{ℕ, List, Option, option_map}
use Rattle.cfg_base.specs.Text.{characters}
use Rattle.cfg_json.specs.Reading.{utf8_of}

-- their text, where they are UTF-8
abbrev pub text_in : List ℕ → Option (List ℕ)
text_in bytes = option_map characters (utf8_of bytes)
