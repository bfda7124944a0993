-- The index finds the last entry of a path.
use Rattle.std.proofs.Common.{ap, ◌∙◌}
use Rattle.cfg_world.specs.Paths.{held_at}
use Rattle.cfg_base.proofs.TextLemmas.{encodes-chars}
use Rattle.cfg_world.proofs.PathIndex.{held_there}
use Rattle.cfg_world.proofs.script.paths.last_under.Goals as goal

pub returns-in-None : goal.returns-in-None
returns-in-None g c = ap (held_at c.args.entries.now) c.in-None.ensures ∙ c.requires.last c.args.path.now (encodes-chars c.args.path.now c.utf8.path)

pub returns-in-Some-get : goal.returns-in-Some-get
returns-in-Some-get g c =
    let found = c.in-Some-get.ensures.lookup in
    held_there c.args.entries.now c.in-Some-get.entry.now c.in-Some.at.now found.3.0 found.1
    ∙ ap (held_at c.args.entries.now) c.in-Some.ensures
    ∙ c.requires.last c.args.path.now (encodes-chars c.args.path.now c.utf8.path)
