use Rattle.std.proofs.Common.{rules}
use Rattle.std.proofs.lemmas.Str.{chars_from_encodes}
use Rattle.cfg_base.proofs.TextLemmas.{characters-chars}
use Rattle.cfg_json.proofs.strings.characters_of.Goals as goal

pub returns : goal.returns
returns c = simp characters-chars (search (rules, chars_from_encodes))
