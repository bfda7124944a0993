-- The numbers of the statuses.
use Rattle.std.specs.Prelude.{ℕ}
use Rattle.cfg_program.specs.declared.status.Status.{Status}
use Rattle.cfg_program.specs.declared.status.Status.TheVariants as status

-- the number of a status
abbrev pub number_of : Status → ℕ
number_of status.Done = 0
number_of status.Refused = 1
number_of status.UnknownCommand = 2
number_of status.NoScript = 3
number_of status.SourceFault = 4
number_of status.SinkFault = 5
number_of status.OutOfMemory = 6
number_of status.TooLong = 7
number_of status.HistoryDiffers = 8
number_of status.NotBuilt = 9
