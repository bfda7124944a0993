use Rattle.std.proofs.Common.{rules, ◌∙◌, ap, sym, ◌∷◌, Some}
use Rattle.atomic_table.specs.Table.{rest}
use Rattle.cfg_gate.proofs.steps.take_out.Goals as goal

pub exchange-requires : goal.exchange-requires
exchange-requires g c =
    let held = c.requires.bears.1 in
    (search rules, (Some c.requires.bears.0, held ∙ ap (λ z. (0, Some c.requires.bears.0) ∷ z) (sym (ap rest held))))
