-- A section that answered did not want memory.
use Rattle.std.proofs.Common.{◌≡◌, ◌∷◌, true, false, sym, ◌∙◌, ap}
use Rattle.cfg_token.specs.Histories.{kept_in, last_in}
use Rattle.cfg_token.specs.SectionCalls.{is_memory}
use Rattle.cfg_token.proofs.Outcomes.{section_tells}
use Rattle.cfg_token.proofs.loads.section_after_on.Goals as goal

pub returns-in-Ok-clause-stopped : goal.returns-in-Ok-clause-stopped
returns-in-Ok-clause-stopped g c = λ memory.
    let t = g.T.FileToken.rules in
    let h = c.args.loads.now in
    let a = c.in-Ok.ensures in
    let rules_tell = section_tells t g.met.T.FileToken.tells c.args.key.now c.args.env.now c.args.settings.now (kept_in h) (last_in h) (c.args.first ∷ a.ends.part) a.made a.ends.reads in
    absurd (no (sym memory ∙ ap (is_memory t) a.answers ∙ rules_tell))
  where
    no : true ≡ false → ⊥
    no e = cc
