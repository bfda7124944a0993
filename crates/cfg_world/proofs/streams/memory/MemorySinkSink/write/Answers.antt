-- The call that went on is not one of those that fail.
use Rattle.cfg_world.proofs.Pieces.{went_on}
use Rattle.cfg_world.proofs.streams.memory.MemorySinkSink.write.Goals as goal

pub returns-in-Ok-clause-failing : goal.returns-in-Ok-clause-failing
returns-in-Ok-clause-failing c = went_on _ _ (λ e. cc) _ c.args.self.now.failing.items c.args.self.now.calls _ _ c.deref.ensures.value c.saturating_add-self.ensures c.contains.ensures.value c.if-contains.false

pub returns-in-Err-clause-failing : goal.returns-in-Err-clause-failing
returns-in-Err-clause-failing c = went_on _ _ (λ e. cc) _ c.args.self.now.failing.items c.args.self.now.calls _ _ c.deref.ensures.value c.saturating_add-self.ensures c.contains.ensures.value c.if-contains.false
