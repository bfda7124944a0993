-- The devices have the answers of the journal that was handed in.
use Rattle.std.proofs.Common.{◌++◌, sym, ap, ◌∙◌}
use Rattle.std.proofs.lemmas.Result.{IfOk-weaker}
use Rattle.cfg_world.specs.Handed.{Handed}
use Rattle.cfg_world.specs.Held.{Held}
use Rattle.cfg_kept.specs.KeptStates.{states_of, kept_holdings}
use Rattle.cfg_chain.specs.Settings.{ChainSetting}
use Rattle.cfg_chain.specs.Views.{chain_of}
use Rattle.cfg_explain.proofs.HandedAnswers.{fresh, handed_part}
use Rattle.cfg_explain.proofs.Judging.{judged}
use Rattle.cfg_explain.proofs.verdict.check.Goals as goal

pub returns-clause-judged : goal.returns-clause-judged
returns-clause-judged g c =
    let over : ChainSetting = chain_of (λ z. (goal.ProvideCredentials-dyn g z).value z.1) (λ z. (goal.ClassifyRetry-dyn g z).repeated z.1) c.args.chain.now in
    let p = c.provide_credentials.ensures.provides (sym c.is_memory.ensures ∙ c.if-is_memory.false) in
    IfOk-weaker c.compared.result _ _ (λ v by.
    judged over (states_of c.args.kept.now) (states_of c.provide_credentials.new.kept) (kept_holdings c.provide_credentials.new.kept).found p.part c.journal.result.now c.args.journal.now
    c.provide_credentials.result c.args.outcome.now by.0 c.is_alike.result v p.call
    (c.journal.ensures ∙ p.grows.journal ∙ ap (λ j. j ++ p.part) (ap (λ (w : Held Handed). w.journal) c.new-world.ensures))
    c.all_fit.ensures
    (handed_part c.new-world.result.devices c.provide_credentials.new.world.devices _ p.part (ap (λ (w : Held Handed). w.devices) c.new-world.ensures ∙ c.new.ensures ∙ ap fresh c.in_ok-answers.ensures) p.grows.stands p.grows.same)
    by.1 c.is_alike.ensures by.2) c.compared.ensures
