-- The worlds are new ones over the lists, and what is told is what the calls answer.
use Rattle.std.proofs.Common.{refl}
use Rattle.cfg_chain.specs.Settings.{ChainSetting}
use Rattle.cfg_chain.specs.Views.{chain_of}
use Rattle.cfg_program.proofs.ShareAnswers.{shares_told}
use Rattle.cfg_program.proofs.ShareCalls.{new_worlds_are_empty}
use Rattle.cfg_program.proofs.share.share_over.Goals as goal

pub share_calls-requires-clause-key : goal.share_calls-requires-clause-key
share_calls-requires-clause-key g c κs within = c.in_ok-kept.ensures.key

pub share_calls-requires-clause-journals : goal.share_calls-requires-clause-journals
share_calls-requires-clause-journals g c κs within =
    new_worlds_are_empty c.args.callers.items c.in_ok-worlds.worlds.items c.in_ok-worlds.ensures

pub returns : goal.returns
returns g c =
    let over : ChainSetting = chain_of (λ z. (goal.ProvideCredentials-dyn g z).value z.1) (λ z. (goal.ClassifyRetry-dyn g z).repeated z.1) c.args.chain.now in
    shares_told _ over c.args.callers.items c.in_ok-worlds.worlds.items _ c.share_calls.result c.tell_shared.result
    c.share_calls.ensures.calls c.share_calls.ensures.key c.in_ok-worlds.ensures c.in_ok-kept.ensures.key c.share_calls.ensures.agrees c.tell_shared.ensures
    (λ lists. (tt, refl)) (λ s entries h. h.0) (λ s entries h. h)
