-- Why there is no line.
use Rattle.cfg_world.specs.declared.streams.StreamFault.{StreamFault}
use Rattle.cfg_world.specs.declared.streams.StreamFault.TheVariants as fault
use Rattle.cfg_drive.specs.declared.line_reader.LineError.{LineError}
use Rattle.cfg_drive.specs.declared.line_reader.LineError.TheVariants as error

-- by the fault of the source
abbrev pub error_from : StreamFault → LineError
error_from fault.Failed = error.Failed
error_from fault.OutOfMemory = error.OutOfMemory
