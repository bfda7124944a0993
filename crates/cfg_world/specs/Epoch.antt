-- Where a clock stands that has no reading.
use Rattle.std.specs.Prelude.{pos}
use Rattle.cfg_base.specs.Moment.{Moment}

-- the epoch
abbrev pub epoch : Moment
epoch = record { seconds = pos 0; nanos = 0 }
