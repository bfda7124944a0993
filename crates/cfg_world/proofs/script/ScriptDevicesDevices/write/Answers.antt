-- A write answers by the list of paths that are not written.
use Rattle.std.proofs.Common.{◌≡◌, true, false, ap, refl, sym, ◌∙◌, ◌++◌, ◌∷◌, []}
use Rattle.std.specs.Prelude.{if◌then◌else◌, Bool}
use Rattle.cfg_types.specs.declared.reply.FailKind.TheVariants.{Io}
use Rattle.cfg_base.specs.Text.{characters}
use Rattle.cfg_base.proofs.TextLemmas.{encodes-chars}
use Rattle.cfg_world.specs.declared.ask.Answer.{Answer}
use Rattle.cfg_world.specs.declared.ask.Answer.TheVariants as answer
use Rattle.cfg_world.specs.Script.{Place, is_unwritable}
use Rattle.cfg_world.specs.Scripted.{place_of}
use Rattle.cfg_world.proofs.Scripted.{asked, nothing_counted, files_counted}
use Rattle.cfg_world.proofs.script.ScriptDevicesDevices.write.Goals as goal

abbrev answered_by : Bool → Answer
answered_by unwritable = if unwritable then answer.Failed Io else answer.Written

abbrev left_by : Place → Place → Bool → Place
left_by place written unwritable = if unwritable then place else written

pub returns-then-is_named-clause-asked : goal.returns-then-is_named-clause-asked
returns-then-is_named-clause-asked c =
    let was = c.self.inside in
    let path = characters c.args.path.now in
    let place : Place = place_of was.places was.writes in
    let written : Place = place_of was.places (was.writes ++ (path, c.args.bytes.now) ∷ []) in
    let barred : is_unwritable was.lists path ≡ true = sym (c.self.invariant.unwritable.each c.args.path.now (encodes-chars c.args.path.now c.utf8.path)) ∙ sym c.is_named.ensures ∙ c.if-is_named.true in
    asked _ _ _ _ _ c.self.view_is (answer.Failed Io) c.self.invariant.fits
    (ap answered_by (sym barred)) (ap (left_by place written) (sym barred))
    (files_counted _ _ _ _ refl refl refl refl c.raise.ensures.counted c.raise.ensures.later)

pub returns-clause-asked : goal.returns-clause-asked
returns-clause-asked c =
    let was = c.self.inside in
    let path = characters c.args.path.now in
    let place : Place = place_of was.places was.writes in
    let written : Place = place_of was.places (was.writes ++ (path, c.args.bytes.now) ∷ []) in
    let free : is_unwritable was.lists path ≡ false = sym (c.self.invariant.unwritable.each c.args.path.now (encodes-chars c.args.path.now c.utf8.path)) ∙ sym c.is_named.ensures ∙ c.if-is_named.false in
    asked _ _ _ _ _ c.self.view_is answer.Written c.self.invariant.fits
    (ap answered_by (sym free)) (ap (place_of was.places) c.in-Ok.ensures.ok ∙ ap (left_by place written) (sym free))
    (nothing_counted _ _ _ refl refl refl refl)
