-- The services are those that are settled.
use Rattle.std.proofs.Common.{refl, ap}
use Rattle.cfg_chain.specs.Settings.{ChainSetting}
use Rattle.cfg_chain.specs.Views.{named_sources, provider_of}
use Rattle.cfg_chain.proofs.Calls.{set_alike, services_of, are_services}
use Rattle.cfg_chain.proofs.ProfileCalls.{follows_provider}
use Rattle.cfg_chain.proofs.profile.credentials.ProfileFileCredentialsProvider.follow.Goals as goal

pub returns-clause-follows : goal.returns-clause-follows
returns-clause-follows g c =
    let over : ChainSetting = provider_of (λ z. (goal.ProvideCredentials-dyn g z).value z.1) c.args.self.now in
    let settled = c.settled-settled.result.now in
    follows_provider g.A.Asking over (services_of over settled) _ _ _ _ _ _ (are_services over settled c.settled-settled.ensures)
    (set_alike over (services_of over settled) _ c.config-config.ensures (ap (named_sources (λ z. (goal.ProvideCredentials-dyn g z).value z.1)) c.as_slice.ensures.value) refl refl refl)
    c.follow_profile.ensures.follows
