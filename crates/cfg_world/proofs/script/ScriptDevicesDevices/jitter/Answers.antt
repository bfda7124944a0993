-- The jitter answers by its list.
use Rattle.std.proofs.Common.{ap, refl, sym, ◌∙◌}
use Rattle.cfg_world.specs.declared.ask.Answer.TheVariants as answer
use Rattle.cfg_world.specs.Script.{Jitter, step, with_place}
use Rattle.cfg_world.specs.Scripted.{place_of}
use Rattle.cfg_world.proofs.Scripted.{asked, mapped_item, mapped_length, nothing_counted}
use Rattle.cfg_world.proofs.script.ScriptDevicesDevices.jitter.Goals as goal

pub returns-clause-asked : goal.returns-clause-asked
returns-clause-asked c =
    let was = c.self.inside in
    asked _ _ _ _ _ c.self.view_is (answer.Jitter c.next_or.result) c.self.invariant.fits
    (ap answer.Jitter c.next_or.ensures.item ∙ mapped_item answer.Jitter was.lists.jitter was.places.jitter 0)
    (ap (with_place (place_of was.places was.writes) Jitter) (c.next_or.ensures.further ∙ ap (step was.places.jitter) (sym (mapped_length answer.Jitter was.lists.jitter))))
    (nothing_counted _ _ _ refl refl refl refl)
