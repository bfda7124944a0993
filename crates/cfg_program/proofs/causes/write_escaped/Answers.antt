-- At the end all characters are written.
use Rattle.std.proofs.Common.{ℕ, List, ◌++◌, sym, ap, ◌∙◌, map-id}
use Rattle.std.specs.List.{flat_map}
use Rattle.std.proofs.lemmas.Iterator.{YieldsList-from_chars}
use Rattle.std.proofs.lemmas.Iterator.Consumers.{YieldsList-end}
use Rattle.cfg_base.proofs.TextLemmas.{characters-chars}
use Rattle.cfg_program.specs.Escapes.{line_character}
use Rattle.cfg_program.proofs.causes.write_escaped.Goals as goal

pub returns : goal.returns
returns c =
    let end = YieldsList-end (YieldsList-from_chars c.args.text.now c.utf8.text cc) c.loop-character.yielded _ c.loop-character.yielded_by _ _ c.in-None.is c.next.ensures.steps in
    c.loop-character.invariant
    ∙ ap (λ (l : List ℕ). c.args.lines.now.items ++ flat_map line_character l) (sym (map-id c.loop-character.yielded) ∙ end.0 ∙ sym (characters-chars c.args.text.now))
