-- What a stretch of a world's life adds to the journal, and what it keeps.
use Rattle.std.specs.Prelude.{◌≡◌, List, ◌++◌, Option}
use Rattle.cfg_world.specs.declared.ask.Question.{Question}
use Rattle.cfg_world.specs.declared.ask.Answer.{Answer}
use Rattle.cfg_world.specs.declared.devices.Devices.{Ghosts}
use Rattle.cfg_world.specs.Fits.{Pair, EachFits}
use Rattle.cfg_world.specs.Faults.{Counted}
use Rattle.cfg_world.specs.Asked.{AskedOf, Same, StandsOn}
use Rattle.cfg_world.specs.Held.{Held}

-- One question was put to these devices.
abbrev pub AskedBy : {D : Type 0} → Ghosts D → D → D → Question → Option Answer → Type 0
AskedBy d = AskedOf d.faults d.allows d.stands

-- The journal grew by exactly this part. Devices that stood for a list stand for it with the part behind
-- it, whatever of the list the journal still has.
pub record Grows {D : Type 0} (d : Ghosts D) (part : List Pair) (old new : Held D) : Type 0 where
  pub journal : new.journal ≡ old.journal ++ part
  pub fits : EachFits part
  pub same : Same (d.allows old.devices) (d.allows new.devices)
  pub counted : Counted part (d.faults old.devices) (d.faults new.devices)
  pub stands : StandsOn (d.stands old.devices) (d.stands new.devices) part

-- The same of a stretch that ended out of memory: the devices may have been asked once more.
pub record Stays {D : Type 0} (d : Ghosts D) (part : List Pair) (old new : Held D) : Type 0 where
  pub journal : new.journal ≡ old.journal ++ part
  pub fits : EachFits part
  pub same : Same (d.allows old.devices) (d.allows new.devices)
  pub counted : Counted part (d.faults old.devices) (d.faults new.devices)
