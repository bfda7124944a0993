-- The clock answers by its list.
use Rattle.std.proofs.Common.{ap, refl, sym, ◌∙◌}
use Rattle.std.specs.Prelude.{unwrap_or, slice_get}
use Rattle.cfg_world.specs.declared.ask.Answer.TheVariants as answer
use Rattle.cfg_world.specs.Script.{Clock, step, last_reading, with_place}
use Rattle.cfg_world.specs.Scripted.{place_of}
use Rattle.cfg_world.proofs.Scripted.{asked, mapped_item, mapped_length, nothing_counted}
use Rattle.cfg_world.proofs.script.ScriptDevicesDevices.now.Goals as goal

pub returns-clause-asked : goal.returns-clause-asked
returns-clause-asked c =
    let was = c.self.inside in
    asked _ _ _ _ _ c.self.view_is (answer.Moment c.next_or.result) c.self.invariant.fits
    (ap answer.Moment (c.next_or.ensures.item ∙ ap (unwrap_or (slice_get was.lists.clock was.places.clock)) c.last_reading_of-last.ensures)
    ∙ mapped_item answer.Moment was.lists.clock was.places.clock (last_reading was.lists.clock))
    (ap (with_place (place_of was.places was.writes) Clock) (c.next_or.ensures.further ∙ ap (step was.places.clock) (sym (mapped_length answer.Moment was.lists.clock))))
    (nothing_counted _ _ _ refl refl refl refl)
