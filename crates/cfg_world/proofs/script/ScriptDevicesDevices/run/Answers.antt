-- The answers come by their queue.
use Rattle.std.proofs.Common.{ap, refl, sym, ◌∙◌, Err}
use Rattle.cfg_types.specs.declared.reply.FailKind.TheVariants.{Io}
use Rattle.cfg_world.specs.declared.ask.Answer.TheVariants as answer
use Rattle.cfg_world.specs.Script.{Commands, step, answered, with_place}
use Rattle.cfg_world.specs.Scripted.{place_of}
use Rattle.cfg_world.proofs.Scripted.{asked, mapped_item, mapped_length, nothing_counted, commands_counted, kept}
use Rattle.cfg_world.proofs.script.ScriptDevicesDevices.run.Goals as goal

pub returns-in_default-clause-asked : goal.returns-in_default-clause-asked
returns-in_default-clause-asked c =
    let was = c.self.inside in
    kept _ _ _ _ c.self.view_is (ap (with_place (place_of was.places was.writes) Commands) c.in_default.ensures.memory)

pub returns-in-Ok-left-clause-asked : goal.returns-in-Ok-left-clause-asked
returns-in-Ok-left-clause-asked c =
    let was = c.self.inside in
    asked _ _ _ _ _ c.self.view_is (answer.Finished c.in-Ok-left.finished) c.self.invariant.fits
    (ap (answered answer.Finished) (sym c.in-Ok-left.is ∙ c.in-Ok.ensures.item) ∙ mapped_item (answered answer.Finished) was.lists.commands was.places.commands (Err Io))
    (ap (with_place (place_of was.places was.writes) Commands) (c.in-Ok.ensures.further ∙ ap (step was.places.commands) (sym (mapped_length (answered answer.Finished) was.lists.commands))))
    (nothing_counted _ _ _ refl refl refl refl)

pub returns-in-Err-clause-asked : goal.returns-in-Err-clause-asked
returns-in-Err-clause-asked c =
    let was = c.self.inside in
    asked _ _ _ _ _ c.self.view_is (answer.Failed c.in-Err.kind) c.self.invariant.fits
    (ap (answered answer.Finished) (sym c.in-Err.is ∙ c.in-Ok.ensures.item) ∙ mapped_item (answered answer.Finished) was.lists.commands was.places.commands (Err Io))
    (ap (with_place (place_of was.places was.writes) Commands) (c.in-Ok.ensures.further ∙ ap (step was.places.commands) (sym (mapped_length (answered answer.Finished) was.lists.commands))))
    (commands_counted _ _ _ _ refl refl refl refl c.raise.ensures.counted c.raise.ensures.later)
