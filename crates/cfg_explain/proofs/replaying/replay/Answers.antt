-- The devices have the answers that were handed in.
use Rattle.std.proofs.Common.{◌++◌, sym, ap, ◌∙◌}
use Rattle.std.proofs.lemmas.Result.{IfOk-weaker}
use Rattle.cfg_world.specs.Handed.{Handed}
use Rattle.cfg_world.specs.Held.{Held}
use Rattle.cfg_kept.specs.KeptStates.{states_of, kept_holdings}
use Rattle.cfg_chain.specs.Settings.{ChainSetting}
use Rattle.cfg_chain.specs.Views.{chain_of}
use Rattle.cfg_explain.proofs.HandedAnswers.{fresh, handed_part}
use Rattle.cfg_explain.proofs.ReplaySteps.{told}
use Rattle.cfg_explain.proofs.replaying.replay.Goals as goal

pub returns-clause-tells : goal.returns-clause-tells
returns-clause-tells g c =
    let over : ChainSetting = chain_of (λ z. (goal.ProvideCredentials-dyn g z).value z.1) (λ z. (goal.ClassifyRetry-dyn g z).repeated z.1) c.args.chain.now in
    let p = c.provide_credentials-outcome.ensures.provides (sym c.is_memory.ensures ∙ c.if-is_memory.false) in
    IfOk-weaker c.compared.result _ _ (λ replay by.
    told over (states_of c.args.kept.now) (states_of c.provide_credentials-outcome.new.kept) (kept_holdings c.provide_credentials-outcome.new.kept).found p.part c.journal.result.now c.args.answers.now
    c.provide_credentials-outcome.result by.0 replay p.call
    (c.journal.ensures ∙ p.grows.journal ∙ ap (λ j. j ++ p.part) (ap (λ (w : Held Handed). w.journal) c.new-world.ensures))
    p.grows.fits
    (handed_part c.new-world.result.devices c.provide_credentials-outcome.new.world.devices _ p.part (ap (λ (w : Held Handed). w.devices) c.new-world.ensures ∙ c.new.ensures ∙ ap fresh c.in_ok-given.ensures) p.grows.stands p.grows.same)
    by.1 by.2) c.compared.ensures
