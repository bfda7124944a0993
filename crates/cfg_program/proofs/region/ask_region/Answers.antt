-- The journal is the chain's own, and the line shows it.
use Rattle.std.proofs.Common.{◌++◌, ◌∙◌, ap}
use Rattle.cfg_program.specs.Regions.{shown_region}
use Rattle.cfg_program.proofs.OneRegion.{told_over}
use Rattle.cfg_program.proofs.region.ask_region.Goals as goal

pub returns : goal.returns
returns c =
    let t = c.in_ok-region.ensures.tells in
    told_over c.args.chain.now c.args.world.now.devices c.region.new.world.devices t.part c.in_ok-region.region c.is_some-is_ok.result c.new-lines.result.items c.write_region.new.line.items
    c.requires.place t.grows.same t.grows.stands t.parts c.is_some-is_ok.ensures c.new-lines.ensures.items
    (c.in_ok-write_region.ensures ∙ ap (λ j. c.new-lines.result.items ++ shown_region c.in_ok-region.region j) (c.journal.ensures ∙ t.grows.journal ∙ ap (λ j. j ++ t.part) c.requires.journal))
