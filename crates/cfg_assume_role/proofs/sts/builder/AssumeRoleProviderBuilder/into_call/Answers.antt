-- The region was set or asked, and then the name of the sessions was given, or the clock was read for it.
use Rattle.cfg_assume_role.proofs.Builds.{on_err, built, stopped, stops_in_region}
use Rattle.cfg_assume_role.proofs.sts.builder.AssumeRoleProviderBuilder.into_call.Goals as goal

pub returns-in_err-config-clause-stops : goal.returns-in_err-config-clause-stops
returns-in_err-config-clause-stops g c = on_err _ (stops_in_region _ _ c.self.view_is _ _ _ c.with_override-config.ensures c.in_err-config.ensures.breaks)

pub returns-in_err-name-clause-stops : goal.returns-in_err-name-clause-stops
returns-in_err-name-clause-stops g c =
    let e = c.in_err-name.ensures.breaks in
    on_err _ (stopped _ _ c.self.view_is _ _ _ _ _ e.part c.with_override-config.ensures c.in_ok-config.ensures.set e.stays e.begun)

pub returns-clause-built : goal.returns-clause-built
returns-clause-built g c =
    let e = c.in_ok-name.ensures.asks in
    built _ _ c.self.view_is _ _ _ _ _ c.in_ok-name.name e.part c.with_override-config.ensures c.in_ok-config.ensures.set e.grows e.reads
