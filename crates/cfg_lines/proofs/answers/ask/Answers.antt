-- The devices stand at the start of their lists, so that their answer is the first that these give.
use Rattle.std.proofs.Common.{[], ◌∷◌, ap, subst, ◌∙◌}
use Rattle.std.proofs.lemmas.Result.{IfOk-weaker}
use Rattle.cfg_world.specs.declared.script.DeviceLists.{DeviceLists}
use Rattle.cfg_world.specs.Script.{Script, Given, start}
use Rattle.cfg_lines.proofs.Asking.{first_given}
use Rattle.cfg_lines.proofs.answers.ask.Goals as goal

pub returns-clause-given : goal.returns-clause-given
returns-clause-given c =
    let devices = ap (λ w. w.devices) c.new-world.ensures ∙ c.in_ok-devices.ensures in
    IfOk-weaker c.ask.result _ _ (λ e g.
    subst (λ (lists : DeviceLists). Given lists start (e ∷ [])) (ap (λ (s : Script). s.lists) devices)
    (first_given c.new-world.result.devices c.ask.new.self.devices e (ap (λ (s : Script). s.place) devices) g.same g.stands)) c.ask.ensures.grows
