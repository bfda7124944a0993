-- The journal is the call's own, and the call has ended.
use Rattle.std.proofs.Common.{◌++◌, sym, ap, ◌∙◌}
use Rattle.std.proofs.lemmas.Result.{IfOk-weaker}
use Rattle.cfg_chain.specs.Settings.{ChainSetting}
use Rattle.cfg_chain.specs.Views.{chain_of}
use Rattle.cfg_program.proofs.Explaining.{has_ended, explained_over}
use Rattle.cfg_program.proofs.explain.explain_call.Goals as goal

pub explained-requires : goal.explained-requires
explained-requires g c =
    let over : ChainSetting = chain_of (λ z. (goal.ProvideCredentials-dyn g z).value z.1) (λ z. (goal.ClassifyRetry-dyn g z).repeated z.1) c.args.chain.now in
    let p = c.provide_credentials.ensures.provides (sym c.is_memory.ensures ∙ c.if-is_memory.false) in
    has_ended over _ _ _ p.part c.journal.result.now c.provide_credentials.result c.in_ok-kept.ensures.nothing p.call
    (c.journal.ensures ∙ p.grows.journal ∙ ap (λ j. j ++ p.part) c.requires.journal)

pub returns : goal.returns
returns g c =
    let over : ChainSetting = chain_of (λ z. (goal.ProvideCredentials-dyn g z).value z.1) (λ z. (goal.ClassifyRetry-dyn g z).repeated z.1) c.args.chain.now in
    let p = c.provide_credentials.ensures.provides (sym c.is_memory.ensures ∙ c.if-is_memory.false) in
    IfOk-weaker c.explained.result _ _ (λ a e.
    explained_over over c.args.world.now.devices c.provide_credentials.new.world.devices _ _ _ p.part c.journal.result.now c.provide_credentials.result a.is_ok a.lines.items
    c.requires.place p.grows.same p.grows.stands c.in_ok-kept.ensures.nothing p.call
    (c.journal.ensures ∙ p.grows.journal ∙ ap (λ j. j ++ p.part) c.requires.journal) e) c.explained.ensures
