-- A reading answers what the path holds.
use Rattle.std.proofs.Common.{ap, refl, sym, ◌∙◌, subst}
use Rattle.cfg_types.specs.declared.reply.FailKind.TheVariants.{Io}
use Rattle.cfg_base.specs.Text.{characters}
use Rattle.cfg_world.specs.declared.ask.Answer.TheVariants as answer
use Rattle.cfg_world.specs.Script.{Script, AllFit, read_answer, contents_at}
use Rattle.cfg_world.proofs.Scripted.{asked, nothing_counted, files_counted}
use Rattle.cfg_world.proofs.script.ScriptDevicesDevices.read.Goals as goal

pub returns-in-Ok-clause-asked : goal.returns-in-Ok-clause-asked
returns-in-Ok-clause-asked c =
    asked c.args.self.now c.args.self.now c.args.self.now.place c.args.self.now.faults _ refl (answer.Contents c.in-Ok.copied)
    (subst (λ (s : Script). AllFit s.lists) c.self.view_is c.self.invariant.fits)
    (ap answer.Contents c.in-Ok.ensures ∙ ap read_answer c.in-Some.ensures) refl
    (nothing_counted _ _ _ refl refl refl refl)

pub returns-in-None-clause-asked : goal.returns-in-None-clause-asked
returns-in-None-clause-asked c =
    asked _ _ _ _ _ c.self.view_is (answer.Failed Io) c.self.invariant.fits
    (ap read_answer (c.in-None.ensures ∙ ap (λ (s : Script). contents_at s.lists s.place.writes (characters c.args.path.now)) (sym c.self.view_is))) refl
    (files_counted _ _ _ _ refl refl refl refl c.raise.ensures.counted c.raise.ensures.later)
