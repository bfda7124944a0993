-- The lists of scripted devices that a script says.
use Rattle.cfg_world.specs.declared.script.DeviceLists.{DeviceLists}
use Rattle.cfg_script.specs.Script.{Plain}

abbrev pub lists_of : Plain → DeviceLists
lists_of p = p.devices
