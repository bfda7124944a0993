-- A source gave a region, gave none, or was stopped.
use Rattle.std.proofs.lemmas.Result.{err_from_is_err_and}
use Rattle.cfg_region.proofs.RegionSteps.{source_none, source_gives, source_halts, no_source_left}
use Rattle.cfg_region.proofs.meta.region.follow_sources.Goals as goal

pub returns-in_err-region : goal.returns-in_err-region
returns-in_err-region g c =
    let p = err_from_is_err_and c.from_residual.result c.from_residual.ensures.1 in
    rw (p.1, p.2) (source_halts g.A.Asking c.args.asking.now c.loop-source.asking c.follow.new.asking _ _ c.args.sources.now c.loop-source.source-index c.source-item.result c.in_err-region.field-0.0
    c.loop-source.invariant c.loop-source-test.true c.source-item.is c.in_err-region.ensures)

pub returns-in-Some : goal.returns-in-Some
returns-in-Some g c =
    source_gives _ c.args.sources.now c.loop-source.source-index c.source-item.result _ _
    c.loop-source.invariant c.loop-source-test.true c.source-item.is c.in_ok-region.ensures c.in-Some.is

pub loop-source-preserved : goal.loop-source-preserved
loop-source-preserved g c =
    source_none _ c.args.sources.now c.loop-source.source-index c.source-item.result _
    c.loop-source.invariant c.loop-source-test.true c.source-item.is c.in_ok-region.ensures c.in-None.is

pub returns : goal.returns
returns g c = no_source_left _ c.args.sources.now c.loop-source.source-index c.loop-source.invariant c.loop-source-test.false
