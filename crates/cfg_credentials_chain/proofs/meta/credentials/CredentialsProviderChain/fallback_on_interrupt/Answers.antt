-- The members as contracts see them.
use Rattle.std.proofs.Common.{refl}
use Rattle.cfg_credentials_chain.specs.Members.{needed_in, fallback_in}
use Rattle.cfg_credentials_chain.specs.Views.{named_of}
use Rattle.cfg_credentials_chain.proofs.MemberLists.{said_of, first_said}
use Rattle.cfg_credentials_chain.proofs.meta.credentials.CredentialsProviderChain.fallback_on_interrupt.Goals as goal

pub first_fallback-requires : goal.first_fallback-requires
first_fallback-requires g c = said_of (named_of (λ b. (goal.ProvideCredentials-dyn g (b.vtable, b.value)).value b.value) (λ b. (goal.ProvideCredentials-dyn g (b.vtable, b.value)).fallback b.value) (λ b. (goal.ClassifyRetry-dyn g (b.vtable, b.value)).repeated b.value)) _ _ c.as_slice.ensures.value _ refl needed_in _ c.requires

pub returns : goal.returns
returns g c = first_said (named_of (λ b. (goal.ProvideCredentials-dyn g (b.vtable, b.value)).value b.value) (λ b. (goal.ProvideCredentials-dyn g (b.vtable, b.value)).fallback b.value) (λ b. (goal.ClassifyRetry-dyn g (b.vtable, b.value)).repeated b.value)) _ _ c.as_slice.ensures.value _ refl fallback_in _ c.first_fallback.result c.first_fallback.ensures
