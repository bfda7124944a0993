-- The values so far are those of the first texts.
use Rattle.std.proofs.Common.{◌≡◌, take, map}
use Rattle.serde_json.specs.View.{view}
use Rattle.cfg_lines.specs.Members.{text_value}
use Rattle.cfg_lines.proofs.values.text_list.Given as goal

abbrev pub invariant-loop-text : goal.invariant-loop-text
invariant-loop-text l = map view l.list.items ≡ map text_value (take l.text-index l.texts)
