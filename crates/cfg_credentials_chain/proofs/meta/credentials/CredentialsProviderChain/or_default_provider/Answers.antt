-- Behind the members stands the default chain, or memory ran out behind its region.
use Rattle.cfg_credentials_chain.specs.Views.{members_of}
use Rattle.cfg_credentials_chain.proofs.Building.{breaks_behind, ends_by}
use Rattle.cfg_credentials_chain.proofs.meta.credentials.CredentialsProviderChain.or_default_provider.Goals as goal

pub returns-clause-ends : goal.returns-clause-ends
returns-clause-ends g c =
    ends_by c.args.config c.in_ok-default.default.core _ _ c.in_ok-default.ensures.set (members_of (λ b. (goal.ProvideCredentials-dyn g (b.vtable, b.value)).value b.value) (λ b. (goal.ProvideCredentials-dyn g (b.vtable, b.value)).fallback b.value) (λ b. (goal.ClassifyRetry-dyn g (b.vtable, b.value)).repeated b.value)) _ _ c.or_else.result c.in_ok-default.ensures.alone c.or_else.ensures

pub returns-clause-breaks : goal.returns-clause-breaks
returns-clause-breaks g c = breaks_behind c.args.config c.in_ok-default.default.core _ _ c.in_ok-default.ensures.set c.or_else.result
