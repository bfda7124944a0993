-- The run stands on the walk over what was asked.
use Rattle.std.proofs.Common.{length, option_to_list, refl, sym, ap, subst}
use Rattle.cfg_world.specs.Inquiry.{Begun}
use Rattle.cfg_region.specs.SourceLists.{region_sources, trees, chain_tree}
use Rattle.cfg_region.proofs.Chains.{chain_parts}
use Rattle.cfg_run.specs.SoFar.{AskedSoFar}
use Rattle.cfg_run.specs.RegionRuns.{ComesTo}
use Rattle.cfg_run.specs.declared.region_run.RegionStep.TheVariants.{Pending, Ready}
use Rattle.cfg_run.proofs.RegionSteps.{handed_begun}
use Rattle.cfg_run.proofs.ReplaySteps.{taken_back}
use Rattle.cfg_run.proofs.region_run.RegionRun.poll.Goals as goal

pub next_of-requires : goal.next_of-requires
next_of-requires g c =
    let p = chain_tree (region_sources (λ z. (goal.ProvideRegion-dyn g z).told_region z.1) (λ z. (goal.ClassifyRetry-dyn g z).repeated z.1) c.args.self.now.chain.now) in
    let s = c.args.self.now.progress in
    subst (Begun p) (sym (ap (λ (s : AskedSoFar). s.asked) c.in_ok-hand_in.ensures.asked)) (handed_begun p s.asked s.question c.args.receipt c.requires.under_way c.requires.fits)

pub returns-in-Ok-Asks-clause-comes : goal.returns-in-Ok-Asks-clause-comes
returns-in-Ok-Asks-clause-comes g c =
    let sources = region_sources (λ z. (goal.ProvideRegion-dyn g z).told_region z.1) (λ z. (goal.ClassifyRetry-dyn g z).repeated z.1) c.args.self.now.chain.now in
    let n = rw c.in-Ok-Asks.field-0-is at c.in-Ok-Asks.ensures in
    subst (λ s. ComesTo (trees sources) s Pending) (sym c.show.ensures) (refl, n)

pub returns-in-Ok-Gives-clause-comes : goal.returns-in-Ok-Gives-clause-comes
returns-in-Ok-Gives-clause-comes g c =
    let sources = region_sources (λ z. (goal.ProvideRegion-dyn g z).told_region z.1) (λ z. (goal.ClassifyRetry-dyn g z).repeated z.1) c.args.self.now.chain.now in
    let n = rw c.in-Ok-Gives.field-0-is at c.in-Ok-Gives.ensures in
    subst (λ s. ComesTo (trees sources) s (Ready c.in-Ok-Gives.region)) (sym c.show-in-Ok-Gives.ensures) (refl, chain_parts (trees sources) c.hand_in.new.self.asked c.in-Ok-Gives.region n)

pub returns-in-Err-clause-stays : goal.returns-in-Err-clause-stays
returns-in-Err-clause-stays g c =
    taken_back c.args.self.now.progress c.hand_in.new.self c.take_back.new.self (option_to_list c.args.receipt) c.asked-before.result.now (length c.asked-before.result.now) c.asked-before.ensures refl c.in_ok-hand_in.ensures.asked c.take_back.ensures
