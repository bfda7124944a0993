-- The services are those that are settled, with the client that the chain was given.
use Rattle.std.proofs.Common.{option_map, refl, ap}
use Rattle.cfg_imds.specs.Clients.{client_rules}
use Rattle.cfg_imds.specs.Setups.{client_of}
use Rattle.cfg_chain.specs.Settings.{ChainSetting, given_or}
use Rattle.cfg_chain.specs.Views.{named_sources, chain_of}
use Rattle.cfg_chain.proofs.DefaultAskers.{default_asker}
use Rattle.cfg_chain.proofs.Calls.{follows_chain, set_alike, services_of, are_services}
use Rattle.cfg_chain.proofs.default_provider.credentials.DefaultCredentialsChain.follow_by_member.Goals as goal

pub returns-clause-follows : goal.returns-clause-follows
returns-clause-follows g c =
    let over : ChainSetting = chain_of (λ z. (goal.ProvideCredentials-dyn g z).value z.1) (λ z. (goal.ClassifyRetry-dyn g z).repeated z.1) c.args.self.now in
    let settled = c.settled-settled.result.now in
    follows_chain g.A.Asking over (services_of over settled) _ _ _ _ _ _ (are_services over settled c.settled-settled.ensures)
    (set_alike over (services_of over settled) _ c.config-config.ensures (ap (named_sources (λ z. (goal.ProvideCredentials-dyn g z).value z.1)) c.as_slice.ensures.value) refl
    (ap (λ o. given_or (option_map (λ x. client_rules (λ z. (goal.ClassifyRetry-dyn g z).repeated z.1) x) o) (client_of settled.imds_endpoint)) c.as_ref.ensures.value) refl)
    c.follow_members.ensures.follows

pub returns-clause-asker : goal.returns-clause-asker
returns-clause-asker g c =
    let over : ChainSetting = chain_of (λ z. (goal.ProvideCredentials-dyn g z).value z.1) (λ z. (goal.ClassifyRetry-dyn g z).repeated z.1) c.args.self.now in
    let settled = c.settled-settled.result.now in
    default_asker g.A.Asking over (services_of over settled) _ _ _ _ _ _ c.follow_members.result (are_services over settled c.settled-settled.ensures)
    (set_alike over (services_of over settled) _ c.config-config.ensures (ap (named_sources (λ z. (goal.ProvideCredentials-dyn g z).value z.1)) c.as_slice.ensures.value) refl
    (ap (λ o. given_or (option_map (λ x. client_rules (λ z. (goal.ClassifyRetry-dyn g z).repeated z.1) x) o) (client_of settled.imds_endpoint)) c.as_ref.ensures.value) refl)
    c.follow_members.ensures.asker
