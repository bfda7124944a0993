-- A new name has the next number.
use Rattle.std.proofs.Common.{string_bytes}
use Rattle.cfg_identity.proofs.NameSteps.{numbered_then, len_then}
use Rattle.cfg_identity.proofs.names.Names.add.Goals as goal

pub invariant_of-self : goal.invariant_of-self
invariant_of-self c = record {
  numbered = numbered_then c.args.self.now.numbers c.set.new.self (string_bytes c.args.name) c.len-next.result c.set.result c.set.ensures.ok c.set.ensures.err c.len-next.ensures c.args.self.now.numbered c.requires;
}

pub returns-clause-grows : goal.returns-clause-grows
returns-clause-grows c = len_then c.args.self.now.numbers c.set.new.self (string_bytes c.args.name) c.len-next.result c.set.result c.set.ensures.ok c.requires
