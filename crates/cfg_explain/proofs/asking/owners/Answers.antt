-- The run was handed the entries so far, and behind them it asks what the next one asks, or the journal is that of no call.
use Rattle.std.proofs.Common.{◌+◌, Some, length, refl, sym, ap, ◌∙◌, subst, map, arith}
use Rattle.std.proofs.lemmas.Option.{slice_get_read}
use Rattle.cfg_kept.specs.KeptStates.{states_of, kept_key}
use Rattle.cfg_kept.specs.FoundValues.{bare}
use Rattle.cfg_chain.specs.Settings.{ChainSetting}
use Rattle.cfg_chain.specs.Provides.{IsCall}
use Rattle.cfg_chain.specs.Views.{chain_of}
use Rattle.cfg_run.specs.Runs.{IsUnderWay}
use Rattle.cfg_explain.specs.Owners.{Owns}
use Rattle.cfg_explain.proofs.OwnerSteps.{differs, goes_on, unfinished, whole, SoFar, fits_there, ended_early, asks_more, tells_nobody}
use Rattle.cfg_explain.proofs.asking.owners.Goals as goal

pub poll-requires-clause-under_way : goal.poll-requires-clause-under_way
poll-requires-clause-under_way g c =
    let is_over = ap (λ chain. chain_of (λ z. (goal.ProvideCredentials-dyn g z).value z.1) (λ z. (goal.ClassifyRetry-dyn g z).repeated z.1) chain) c.loop-entry.invariant.chain in
    subst (λ over. IsUnderWay over c.loop-entry.run.progress) (sym is_over) c.loop-entry.invariant.so_far.under_way

pub returns-in_default-clause-owns : goal.returns-in_default-clause-owns
returns-in_default-clause-owns g c =
    let over : ChainSetting = chain_of (λ z. (goal.ProvideCredentials-dyn g z).value z.1) (λ z. (goal.ClassifyRetry-dyn g z).repeated z.1) c.args.chain.now in
    let is_over = ap (λ chain. chain_of (λ z. (goal.ProvideCredentials-dyn g z).value z.1) (λ z. (goal.ClassifyRetry-dyn g z).repeated z.1) chain) c.loop-entry.invariant.chain in
    let there = slice_get_read c.args.journal.now (length c.args.journal.now) c.loop-entry.entry-index c.entry-item.result refl c.loop-entry-test.true c.entry-item.is in
    ended_early over _ (states_of c.args.kept.now) (kept_key c.args.kept.now) c.args.journal.now c.loop-entry.entry-index c.loop-entry.run.progress c.poll.new.self.progress c.loop-entry.receipt _ c.loop-entry.names.items
    c.entry-item.result c.loop-entry.invariant.so_far there c.in_ok-poll.ensures.asked c.poll.ensures.start is_over c.in_ok-poll.field-0 c.in_default.not-Pending c.in_ok-poll.ensures.comes c.loop-entry-test.true

pub returns-in_default-2-clause-owns : goal.returns-in_default-2-clause-owns
returns-in_default-2-clause-owns g c =
    let over : ChainSetting = chain_of (λ z. (goal.ProvideCredentials-dyn g z).value z.1) (λ z. (goal.ClassifyRetry-dyn g z).repeated z.1) c.args.chain.now in
    let is_over = ap (λ chain. chain_of (λ z. (goal.ProvideCredentials-dyn g z).value z.1) (λ z. (goal.ClassifyRetry-dyn g z).repeated z.1) chain) c.loop-entry.invariant.chain in
    let comes = rw c.in-Pending.is at c.in_ok-poll.ensures.comes in
    let there = slice_get_read c.args.journal.now (length c.args.journal.now) c.loop-entry.entry-index c.entry-item.result refl c.loop-entry-test.true c.entry-item.is in
    differs over (states_of c.args.kept.now) (kept_key c.args.kept.now) c.args.journal.now c.loop-entry.entry-index c.loop-entry.run.progress c.poll.new.self.progress c.loop-entry.receipt _ c.loop-entry.names.items
    c.entry-item.result c.loop-entry.invariant.so_far there c.in_ok-poll.ensures.asked c.poll.ensures.start
    comes.0 (subst (λ o. IsUnderWay o c.poll.new.self.progress) is_over comes.1)
    (tells_nobody _ _ _ c.in_ok-name.field-0 c.in_default-2.not-Some c.in_ok-name.ensures)

pub loop-entry-preserved : goal.loop-entry-preserved
loop-entry-preserved g c =
    let over : ChainSetting = chain_of (λ z. (goal.ProvideCredentials-dyn g z).value z.1) (λ z. (goal.ClassifyRetry-dyn g z).repeated z.1) c.args.chain.now in
    let is_over = ap (λ chain. chain_of (λ z. (goal.ProvideCredentials-dyn g z).value z.1) (λ z. (goal.ClassifyRetry-dyn g z).repeated z.1) chain) c.loop-entry.invariant.chain in
    let comes = rw c.in-Pending.is at c.in_ok-poll.ensures.comes in
    let tells = rw c.in-Some.is at c.in_ok-name.ensures in
    let there = slice_get_read c.args.journal.now (length c.args.journal.now) c.loop-entry.entry-index c.entry-item.result refl c.loop-entry-test.true c.entry-item.is in
    record {
      chain = c.poll.ensures.chain ∙ c.loop-entry.invariant.chain;
      so_far = subst (λ names. SoFar over (states_of c.args.kept.now) (kept_key c.args.kept.now) (map (λ e. e.1) c.args.journal.now) c.args.journal.now (c.loop-entry.entry-index + 1) c.poll.new.self.progress
          (Some c.in_ok-ask.field-0) c.ask.new.self.devices names) (sym c.in_ok-push.ensures.items)
          (goes_on over (states_of c.args.kept.now) (kept_key c.args.kept.now) c.args.journal.now c.loop-entry.entry-index c.loop-entry.run.progress c.poll.new.self.progress c.loop-entry.receipt _ c.loop-entry.names.items
          c.entry-item.result c.loop-entry.invariant.so_far there c.in_ok-poll.ensures.asked c.poll.ensures.start
          c.ask.new.self.devices c.in_ok-ask.field-0 _ (subst (λ o. IsUnderWay o c.poll.new.self.progress) is_over comes.1) tells
          (c.in_ok-ask.ensures.asked ∙ c.in_ok-copy-2.ensures ∙ c.question.ensures) (fits_there c.args.journal.now c.loop-entry.entry-index c.entry-item.result c.all_fit.ensures there)
          c.in_ok-ask.ensures.grows.same c.in_ok-ask.ensures.grows.stands (omega (arith, c.loop-entry-test.true)));
    }

pub poll-requires-2-clause-under_way : goal.poll-requires-2-clause-under_way
poll-requires-2-clause-under_way g c =
    let is_over = ap (λ chain. chain_of (λ z. (goal.ProvideCredentials-dyn g z).value z.1) (λ z. (goal.ClassifyRetry-dyn g z).repeated z.1) chain) c.loop-entry.invariant.chain in
    subst (λ over. IsUnderWay over c.loop-entry.run.progress) (sym is_over) c.loop-entry.invariant.so_far.under_way

pub returns-in_default-3-clause-owns : goal.returns-in_default-3-clause-owns
returns-in_default-3-clause-owns g c =
    let over : ChainSetting = chain_of (λ z. (goal.ProvideCredentials-dyn g z).value z.1) (λ z. (goal.ClassifyRetry-dyn g z).repeated z.1) c.args.chain.now in
    let is_over = ap (λ chain. chain_of (λ z. (goal.ProvideCredentials-dyn g z).value z.1) (λ z. (goal.ClassifyRetry-dyn g z).repeated z.1) chain) c.loop-entry.invariant.chain in
    let more = asks_more _ c.poll-2.new.self.progress c.in_ok-poll-2.field-0 c.in_default-3.not-Ready c.in_ok-poll-2.ensures.comes in
    unfinished over (states_of c.args.kept.now) (kept_key c.args.kept.now) _ c.args.journal.now c.loop-entry.entry-index c.loop-entry.run.progress c.poll-2.new.self.progress c.loop-entry.receipt _ c.loop-entry.names.items
    c.loop-entry.invariant.so_far (omega (arith, c.loop-entry-test.false, c.loop-entry.auto.entry-index-end)) c.in_ok-poll-2.ensures.asked c.poll-2.ensures.start.0
    more.0 (subst (λ o. IsUnderWay o c.poll-2.new.self.progress) is_over more.1)

pub returns-clause-owns : goal.returns-clause-owns
returns-clause-owns g c =
    let over : ChainSetting = chain_of (λ z. (goal.ProvideCredentials-dyn g z).value z.1) (λ z. (goal.ClassifyRetry-dyn g z).repeated z.1) c.args.chain.now in
    let is_over = ap (λ chain. chain_of (λ z. (goal.ProvideCredentials-dyn g z).value z.1) (λ z. (goal.ClassifyRetry-dyn g z).repeated z.1) chain) c.loop-entry.invariant.chain in
    let comes = rw c.in-Ready.is at c.in_ok-poll-2.ensures.comes in
    let later = c.poll-2.new.self.progress in
    let names = c.loop-entry.names.items in
    let owns = whole over (states_of c.args.kept.now) (kept_key c.args.kept.now) _ c.args.journal.now c.loop-entry.entry-index c.loop-entry.run.progress later c.loop-entry.receipt _ names
    c.loop-entry.invariant.so_far (omega (arith, c.loop-entry-test.false, c.loop-entry.auto.entry-index-end)) c.in_ok-poll-2.ensures.asked c.poll-2.ensures.start.0
    c.in-Ready.field-0 (subst (λ o. IsCall o later.base later.kept later.found later.asked c.in-Ready.field-0) is_over comes.1) in
    subst (λ n. Owns over (states_of c.args.kept.now) (states_of c.into_kept.result) (map bare c.into_kept.result.found.items) c.args.journal.now (Some n)) (sym c.of.ensures)
    (subst (λ f. Owns over (states_of c.args.kept.now) (states_of c.into_kept.result) f c.args.journal.now (Some names)) (sym c.into_kept.ensures.found)
    (subst (λ k. Owns over (states_of c.args.kept.now) k later.found c.args.journal.now (Some names)) (sym c.into_kept.ensures.states) owns))
