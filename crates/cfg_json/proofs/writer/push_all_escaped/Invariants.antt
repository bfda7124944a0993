use Rattle.std.proofs.Common.{◌≡◌, ◌++◌, take}
use Rattle.std.specs.List.{flat_map}
use Rattle.cfg_json.specs.Writing.{escape}
use Rattle.cfg_json.proofs.writer.push_all_escaped.Given as goal

abbrev pub invariant-loop-c : goal.invariant-loop-c
invariant-loop-c l = l.out ≡ l.fn.out ++ flat_map escape (take l.c-index l.text)
