-- The values so far are those of the first tags.
use Rattle.std.proofs.Common.{◌≡◌, take, map}
use Rattle.serde_json.specs.View.{view}
use Rattle.cfg_lines.specs.Questions.{tag_value}
use Rattle.cfg_lines.proofs.values.tag_list.Given as goal

abbrev pub invariant-loop-each : goal.invariant-loop-each
invariant-loop-each l = map view l.list.items ≡ map tag_value (take l.each-index l.tags)
