-- The configuration has a region, or that of its default chain is set.
use Rattle.std.proofs.Common.{subst, IfOk, OnErr}
use Rattle.cfg_region.specs.Calls.{RegionSet, RegionBreaks}
use Rattle.cfg_assume_role.proofs.Builds.{has_region, no_region}
use Rattle.cfg_assume_role.proofs.sts.builder.in_region.Goals as goal

pub returns-in-Some-clause-set : goal.returns-in-Some-clause-set
returns-in-Some-clause-set g c = has_region c.args.config _ (λ r. r.now) c.in-Some.field-0 c.args.world.now c.region.ensures c.in-Some.is

pub returns-in-None-clause-set : goal.returns-in-None-clause-set
returns-in-None-clause-set g c =
    subst (λ given. IfOk c.load_default_region.result (RegionSet g.D.Devices given c.args.config c.args.world.now c.load_default_region.new.world))
    (no_region c.args.config c.region.result (λ r. r.now) c.region.ensures c.in-None.is) c.load_default_region.ensures.set

pub returns-in-None-clause-breaks : goal.returns-in-None-clause-breaks
returns-in-None-clause-breaks g c =
    subst (λ given. OnErr c.load_default_region.result (RegionBreaks g.D.Devices given c.args.config c.args.world.now c.load_default_region.new.world))
    (no_region c.args.config c.region.result (λ r. r.now) c.region.ensures c.in-None.is) c.load_default_region.ensures.breaks
