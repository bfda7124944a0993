-- The numbers of statuses.
use Rattle.std.specs.Prelude.{ℕ}
use Rattle.cfg_drive.specs.declared.driven.Driven.{Driven}
use Rattle.cfg_drive.specs.declared.driven.Driven.TheVariants.{Credentials, Refused, Broken, Unwritten, OutOfMemory}
use Rattle.cfg_drive.specs.declared.driven.Cause.{Cause}
use Rattle.cfg_drive.specs.declared.driven.Cause.TheVariants.{NoConfiguration, NoAnswer, Ended, Failed, TooLong}

abbrev pub number_of_cause : Cause → ℕ
number_of_cause (NoConfiguration reason) = 3
number_of_cause (NoAnswer reason) = 3
number_of_cause Ended = 4
number_of_cause Failed = 4
number_of_cause TooLong = 7

-- the number that the process ends with
abbrev pub number_of : Driven → ℕ
number_of Credentials = 0
number_of Refused = 1
number_of (Broken broken) = number_of_cause broken.cause
number_of Unwritten = 5
number_of OutOfMemory = 6
