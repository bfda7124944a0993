-- The name comes last.
use Rattle.std.proofs.Common.{map}
use Rattle.cfg_base.specs.TextMap.{named}
use Rattle.caller.proofs.Configuring.{named_last}
use Rattle.caller.proofs.configuration.configuration.Goals as goal

pub returns : goal.returns
returns c =
    named_last (map named c.in_ok-variables.field-0.items) c.in_ok-profiles.field-0.items c.new-2.result.items c.in_ok-env.env c.in_ok-profiles-2.profiles
    c.in_ok-without_region.field-0 c.with_env.result c.with_profiles-config.result c.args.profile.now c.with_profile_name.result
    c.in_ok-variables.ensures c.in_ok-profiles.ensures c.new-2.ensures.items
    c.in_ok-env.ensures c.in_ok-profiles-2.ensures c.in_ok-without_region.ensures c.with_env.ensures c.with_profiles-config.ensures c.with_profile_name.ensures
