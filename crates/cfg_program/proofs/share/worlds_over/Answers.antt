-- The lists that are left fit, and each world is a new one.
use Rattle.std.proofs.Common.{◌≡◌, List, [], ◌∷◌, ◌++◌, ap, sym, subst, ◌∙◌}
use Rattle.std.specs.Prelude.{All}
use Rattle.std.proofs.lemmas.List.{map-append}
use Rattle.std.proofs.lemmas.List.Elements.{All-head, All-tail}
use Rattle.cfg_world.specs.declared.script.DeviceLists.{DeviceLists}
use Rattle.cfg_world.specs.Held.{Held}
use Rattle.cfg_world.specs.Script.{AllFit, Script}
use Rattle.cfg_program.specs.Sharing.{new_world}
use Rattle.cfg_program.proofs.share.worlds_over.Goals as goal

abbrev world_of : Script → Held Script
world_of devices = record { devices = devices; journal = [] }

pub loop-lists-init : goal.loop-lists-init
loop-lists-init c = record {
  worlds = c.in_ok-worlds.ensures.items;
  fit = subst (λ (lists : List DeviceLists). All AllFit lists) (sym c.into_iter-lists-iterator.ensures.into_iter_gives.0) c.requires;
}

pub new-requires : goal.new-requires
new-requires c = All-head AllFit c.in-Some.lists _ (subst (λ (lists : List DeviceLists). All AllFit lists) c.in-Some.ensures.steps.0 c.loop-lists.invariant.fit)

pub loop-lists-preserved : goal.loop-lists-preserved
loop-lists-preserved c =
    let one : c.new-in-loop-lists.result ≡ new_world c.in-Some.lists = c.new-in-loop-lists.ensures ∙ ap world_of c.in_ok-devices.ensures in record {
      worlds =
          c.in_ok-push.ensures.items
          ∙ ap (λ (w : Held Script). c.loop-lists.worlds.items ++ w ∷ []) one
          ∙ ap (λ (ws : List (Held Script)). ws ++ new_world c.in-Some.lists ∷ []) c.loop-lists.invariant.worlds
          ∙ sym (map-append new_world c.loop-lists.yielded (c.in-Some.lists ∷ []));
      fit = All-tail AllFit c.in-Some.lists _ (subst (λ (lists : List DeviceLists). All AllFit lists) c.in-Some.ensures.steps.0 c.loop-lists.invariant.fit);
    }
