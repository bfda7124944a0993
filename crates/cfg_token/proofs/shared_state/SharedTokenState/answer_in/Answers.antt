-- A section that answered did not want memory, and a world leaves no question open.
use Rattle.std.proofs.Common.{◌≡◌, true, false, sym, ◌∙◌, ap}
use Rattle.cfg_token.specs.Histories.{token_in}
use Rattle.cfg_token.specs.SectionCalls.{is_memory}
use Rattle.cfg_token.proofs.Outcomes.{section_tells}
use Rattle.cfg_token.proofs.shared_state.SharedTokenState.answer_in.Goals as goal

pub returns-in-Ok-clause-stopped : goal.returns-in-Ok-clause-stopped
returns-in-Ok-clause-stopped g c = λ memory.
    let t = g.T.FileToken.rules in
    let a = c.in-Ok.ensures in
    let rules_tell = section_tells t g.met.T.FileToken.tells c.args.self.now.key c.args.env.now c.args.settings.now (token_in c.follow.new.finding.load) c.follow.new.finding.last a.ends.part a.made a.ends.reads in
    absurd (no (sym memory ∙ ap (is_memory t) a.answers ∙ rules_tell))
  where
    no : true ≡ false → ⊥
    no e = cc
