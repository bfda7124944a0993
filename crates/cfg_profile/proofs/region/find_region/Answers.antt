-- The selected profile has the regions that the profile at hand has.
use Rattle.std.proofs.Common.{sym, arith}
use Rattle.cfg_profile.specs.Regions.{itself}
use Rattle.cfg_profile.proofs.RegionWalks.{to_first, from_first, neither_key, no_section, no_region}
use Rattle.cfg_profile.proofs.region.find_region.Goals as goal

pub returns-in-None-clause-none : goal.returns-in-None-clause-none
returns-in-None-clause-none c = λ region r.
    no_section c.args.set.now.profiles c.loop-step.name.now region (sym c.in-None.ensures)
    (from_first c.args.set.now.profiles c.args.selected.now region c.loop-step.step c.loop-step.name.now c.loop-step.invariant.stands r)

pub returns-clause-none : goal.returns-clause-none
returns-clause-none c = λ region r.
    no_region c.args.set.now.profiles c.args.selected.now region c.loop-step.name.now c.loop-step.step (omega (arith, c.loop-step-test.false, c.profile_count-step-end.ensures)) c.loop-step.invariant.stands r

pub returns-in-Some-get-clause-some : goal.returns-in-Some-get-clause-some
returns-in-Some-get-clause-some c =
    to_first c.args.set.now.profiles c.args.selected.now c.in-Some-get.region.now c.loop-step.step c.loop-step.name.now c.loop-step.invariant.stands
    (itself c.in-Some.section.now (sym c.in-Some.ensures) (sym c.in-Some-get.ensures))

pub returns-in-None-get-2-clause-none : goal.returns-in-None-get-2-clause-none
returns-in-None-get-2-clause-none c = λ region r.
    neither_key c.args.set.now.profiles c.loop-step.name.now region c.in-Some.section.now (sym c.in-Some.ensures) (sym c.in-None-get.ensures) (sym c.in-None-get-2.ensures)
    (from_first c.args.set.now.profiles c.args.selected.now region c.loop-step.step c.loop-step.name.now c.loop-step.invariant.stands r)
