-- Scripted devices stay fresh where nothing was asked.
use Rattle.std.proofs.Common.{◌≡◌, [], ◌++◌, sym, ap, ◌∙◌}
use Rattle.cfg_world.specs.Asked.{StandsOn}
use Rattle.cfg_world.specs.Held.{Held}
use Rattle.cfg_world.specs.Script.{Script, Stands}
use Rattle.cfg_program.specs.Calls.{IsFresh}

pub still_fresh : (was now : Held Script) → IsFresh was → now.journal ≡ was.journal ++ [] → StandsOn (Stands was.devices) (Stands now.devices) [] → IsFresh now
still_fresh was now fresh journal stands = record {
  journal = journal ∙ ap (λ j. j ++ []) fresh.journal;
  place = sym (stands [] (tt, sym fresh.place)).1;
}
