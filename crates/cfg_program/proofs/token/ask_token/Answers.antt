-- The journal is the call's own, and the line shows it.
use Rattle.std.proofs.Common.{◌++◌, ◌∙◌, ap}
use Rattle.cfg_program.proofs.OneToken.{token_over}
use Rattle.cfg_program.proofs.token.ask_token.Goals as goal

pub returns : goal.returns
returns c =
    let p = c.provide_token.ensures.provides c.in_ok-is_ok.ensures.memory in
    token_over c.args.below c.args.chain.now c.args.world.now.devices c.provide_token.new.world.devices _ _ _ p.part _ c.provide_token.result c.in_ok-is_ok.is_ok c.new-lines.result.items c.tell.new.lines.items
    c.requires.place p.grows.same p.grows.stands c.in_ok-kept.ensures.nothing p.call
    (c.journal.ensures ∙ p.grows.journal ∙ ap (λ j. j ++ p.part) c.requires.journal) c.in_ok-is_ok.ensures.token c.new-lines.ensures.items c.in_ok-is_ok.ensures.line
