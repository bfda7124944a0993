-- No question is next: the receipts are a whole part.
use Rattle.std.proofs.Common.{subst}
use Rattle.cfg_token.specs.Replays.{IsWhole}
use Rattle.cfg_token.specs.SectionCalls.{section_on}
use Rattle.cfg_kept_tests.proofs.sections.polled_words.Goals as goal

pub finish-given-requires-clause-whole : goal.finish-given-requires-clause-whole
finish-given-requires-clause-whole g c =
    let p = section_on g.T.FileToken.rules c.args.state.now.key c.args.state.now.loads c.args.env.now c.settings-settings.result in
    subst (λ J. IsWhole p J) c.as_slice.ensures (c.in_ok-next.ensures.whole.0 c.in-None.is)
