-- The names so far are written.
use Rattle.std.proofs.Common.{◌≡◌, ◌++◌, string_bytes, take}
use Rattle.std.specs.List.{flat_map}
use Rattle.cfg_error_report.specs.Words.{later_quoted}
use Rattle.cfg_error_report.proofs.words.write_later_names.Given as goal

abbrev pub invariant-loop-name : goal.invariant-loop-name
invariant-loop-name l = string_bytes l.words ≡ string_bytes l.fn.words ++ flat_map later_quoted (take l.name-index l.names)
