-- Nothing was asked, so that the journal is as it was, and each caller has the chain's error.
use Rattle.std.proofs.Common.{◌++◌, ◌∙◌, ap, sym}
use Rattle.std.specs.List.{flat_map}
use Rattle.cfg_program.specs.Gated.{shown_loads}
use Rattle.cfg_program.specs.Tokens.{shown_token}
use Rattle.cfg_program.proofs.Gating.{without_session}
use Rattle.cfg_program.proofs.gated.without_session.Goals as goal

pub returns : goal.returns
returns c =
    let p = c.provide_token.ensures.provides (sym c.is_memory.ensures ∙ c.if-is_memory.false) in
    let out = c.provide_token.result in
    let journal = c.journal.result.now in
    let same = flat_map (λ _. shown_token out journal) c.args.callers.now in
    without_session c.args.chain.now c.args.callers.now _ p.part journal out c.write_loads.new.line.items c.requires.none
    p.call.reads p.call.cause (c.journal.ensures ∙ p.grows.journal ∙ ap (λ j. j ++ p.part) c.requires.fresh.journal)
    (c.in_ok-write_loads.ensures ∙ ap (λ l. l ++ shown_loads 0) (c.in_ok-write_each.ensures ∙ ap (λ l. l ++ same) c.new-lines.ensures.items))
