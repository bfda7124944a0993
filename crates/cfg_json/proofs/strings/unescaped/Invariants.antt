use Rattle.std.proofs.Common.{◌≡◌, length, string_bytes}
use denote.Text.{Utf8}
use denote.Shadow.{shadow}
use Rattle.cfg_base.specs.Text.{characters}
use Rattle.cfg_json.specs.Reading.{content_of}
use Rattle.cfg_json.proofs.StringSteps.{text_front}
use Rattle.cfg_json.proofs.strings.unescaped.Given as goal

abbrev pub invariant-loop-out : goal.invariant-loop-out
invariant-loop-out l = shadow (Utf8 l.rest) × (text_front (characters (string_bytes l.out)) (content_of 0 (characters l.rest)) ≡ content_of 0 (characters l.text))

abbrev pub decreases-loop-out : goal.decreases-loop-out
decreases-loop-out l = length l.rest
