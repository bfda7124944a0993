-- All receipts were handed out: they are the chain's parts, or its open question is next.
use Rattle.std.proofs.Common.{IsSome, refl, sym, ◌∙◌, subst}
use Rattle.cfg_world.specs.Inquiry.{Reads, AsksNext}
use Rattle.cfg_token.proofs.WholeParts.{all_read, all_asked}
use Rattle.cfg_region.specs.SourceLists.{region_sources, chain_tree}
use Rattle.cfg_run.proofs.ReplaySteps.{if_shown}
use Rattle.cfg_run.proofs.region_run.next_of.Goals as goal

pub returns-in-Ok : goal.returns-in-Ok
returns-in-Ok g c =
    let p = chain_tree (region_sources (λ z. (goal.ProvideRegion-dyn g z).told_region z.1) (λ z. (goal.ClassifyRetry-dyn g z).repeated z.1) c.args.chain.now) in
    let asked = c.args.progress.now.asked in
    let e = c.in-Ok.ensures in
    subst (λ j. Reads p j c.in-Ok.region)
    (sym (all_read p asked asked c.replay-replay.result c.follow.new.asking e.part c.in-Ok.region (record { begun = c.requires; given_is = refl; old_is = c.replay-replay.ensures; grows = e.grows; made = e.made }) e.reads))
    e.reads

pub unwrap-requires : goal.unwrap-requires
unwrap-requires g c = subst IsSome (sym c.into_question.ensures.is) (rw c.in-Err-Open.field-0-is at c.in-Err-Open.ensures).is_open

pub returns-in-Err-Open : goal.returns-in-Err-Open
returns-in-Err-Open g c =
    let p = chain_tree (region_sources (λ z. (goal.ProvideRegion-dyn g z).told_region z.1) (λ z. (goal.ClassifyRetry-dyn g z).repeated z.1) c.args.chain.now) in
    let asked = c.args.progress.now.asked in
    let e = rw c.in-Err-Open.field-0-is at c.in-Err-Open.ensures in
    let left = c.follow.new.asking.unanswered in
    if_shown (AsksNext p asked) left c.unwrap.result (sym c.into_question.ensures.is ∙ c.unwrap.ensures)
    (all_asked p asked asked c.replay-replay.result c.follow.new.asking e.part (record { begun = c.requires; given_is = refl; old_is = c.replay-replay.ensures; grows = e.grows; made = e.made }) left e.asks c.into_question.ensures.open)
