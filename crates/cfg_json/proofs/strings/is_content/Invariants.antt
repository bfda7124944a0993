use Rattle.std.proofs.Common.{◌≡◌, length}
use Rattle.std.specs.Prelude.{is_some}
use denote.Text.{Utf8}
use denote.Shadow.{shadow}
use Rattle.cfg_base.specs.Text.{characters}
use Rattle.cfg_json.specs.Reading.{content_of}
use Rattle.cfg_json.proofs.strings.is_content.Given as goal

abbrev pub invariant-loop-behind : goal.invariant-loop-behind
invariant-loop-behind l = shadow (Utf8 l.rest) × (is_some (content_of 0 (characters l.rest)) ≡ is_some (content_of 0 (characters l.text)))

abbrev pub decreases-loop-behind : goal.decreases-loop-behind
decreases-loop-behind l = length l.rest
