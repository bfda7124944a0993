-- Worlds, as questions are put to them.
use Rattle.std.specs.Prelude.{None}
use Rattle.cfg_world.specs.declared.asking.Asking.{Ghosts}
use Rattle.cfg_world.specs.declared.devices.Devices.{Ghosts as DeviceGhosts}
use Rattle.cfg_world.specs.declared.world.World.{World}
use Rattle.cfg_world.specs.Put.{nothing}

-- what is known of worlds over these devices
abbrev pub worlds_of : {D : Type 0} → DeviceGhosts D → Ghosts (World D)
worlds_of d = record {
  journal = λ w. w.journal;
  open_question = λ w. None;
  made_of = λ w. nothing;
  faults = λ w. d.faults w.devices;
  allows = λ w. d.allows w.devices;
  stands = λ w. d.stands w.devices;
}
