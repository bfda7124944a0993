use Rattle.cfg_chain.proofs.Calls.{one_journal}
use Rattle.cfg_chain.proofs.laws.one_journal.Goals as goal

pub returns : goal.returns
returns c = one_journal
