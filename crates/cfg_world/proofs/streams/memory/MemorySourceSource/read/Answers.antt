-- The call that went on is not one of those that fail.
use Rattle.cfg_world.proofs.Pieces.{went_on}
use Rattle.cfg_world.proofs.streams.memory.MemorySourceSource.read.Goals as goal

pub returns-clause-failing : goal.returns-clause-failing
returns-clause-failing c = went_on _ _ (λ e. cc) _ c.args.self.now.failing.items c.args.self.now.calls _ _ c.deref.ensures.value c.saturating_add-self.ensures c.contains.ensures.value c.if-contains.false
