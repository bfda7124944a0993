-- The answers come by their queue.
use Rattle.std.proofs.Common.{ap, refl, sym, ◌∙◌, Err}
use Rattle.cfg_types.specs.declared.reply.FailKind.TheVariants.{Io}
use Rattle.cfg_world.specs.declared.ask.Answer.TheVariants as answer
use Rattle.cfg_world.specs.Script.{LookUps, step, answered, with_place}
use Rattle.cfg_world.specs.Scripted.{place_of}
use Rattle.cfg_world.proofs.Scripted.{asked, mapped_item, mapped_length, nothing_counted, lookups_counted, kept}
use Rattle.cfg_world.proofs.script.ScriptDevicesDevices.look_up.Goals as goal

pub returns-in_default-clause-asked : goal.returns-in_default-clause-asked
returns-in_default-clause-asked c =
    let was = c.self.inside in
    kept _ _ _ _ c.self.view_is (ap (with_place (place_of was.places was.writes) LookUps) c.in_default.ensures.memory)

pub returns-in-Ok-found-clause-asked : goal.returns-in-Ok-found-clause-asked
returns-in-Ok-found-clause-asked c =
    let was = c.self.inside in
    asked _ _ _ _ _ c.self.view_is (answer.Addresses c.in-Ok-found.addresses) c.self.invariant.fits
    (ap (answered answer.Addresses) (sym c.in-Ok-found.is ∙ c.in-Ok.ensures.item) ∙ mapped_item (answered answer.Addresses) was.lists.lookups was.places.lookups (Err Io))
    (ap (with_place (place_of was.places was.writes) LookUps) (c.in-Ok.ensures.further ∙ ap (step was.places.lookups) (sym (mapped_length (answered answer.Addresses) was.lists.lookups))))
    (nothing_counted _ _ _ refl refl refl refl)

pub returns-in-Err-clause-asked : goal.returns-in-Err-clause-asked
returns-in-Err-clause-asked c =
    let was = c.self.inside in
    asked _ _ _ _ _ c.self.view_is (answer.Failed c.in-Err.kind) c.self.invariant.fits
    (ap (answered answer.Addresses) (sym c.in-Err.is ∙ c.in-Ok.ensures.item) ∙ mapped_item (answered answer.Addresses) was.lists.lookups was.places.lookups (Err Io))
    (ap (with_place (place_of was.places was.writes) LookUps) (c.in-Ok.ensures.further ∙ ap (step was.places.lookups) (sym (mapped_length (answered answer.Addresses) was.lists.lookups))))
    (lookups_counted _ _ _ _ refl refl refl refl c.raise.ensures.counted c.raise.ensures.later)
