-- The members as contracts see them.
use Rattle.std.proofs.Common.{refl}
use Rattle.cfg_credentials_chain.specs.Members.{needed_in}
use Rattle.cfg_credentials_chain.specs.Views.{named_of}
use Rattle.cfg_credentials_chain.proofs.MemberLists.{said_of, provides_said, interrupted_said}
use Rattle.cfg_credentials_chain.proofs.meta.credentials.CredentialsProviderChain.provide_credentials.Goals as goal

pub provide_by_members-requires : goal.provide_by_members-requires
provide_by_members-requires g c = said_of (named_of (λ b. (goal.ProvideCredentials-dyn g (b.vtable, b.value)).value b.value) (λ b. (goal.ProvideCredentials-dyn g (b.vtable, b.value)).fallback b.value) (λ b. (goal.ClassifyRetry-dyn g (b.vtable, b.value)).repeated b.value)) _ _ c.as_slice.ensures.value _ refl needed_in _ c.requires

pub returns-clause-provides : goal.returns-clause-provides
returns-clause-provides g c =
    provides_said (named_of (λ b. (goal.ProvideCredentials-dyn g (b.vtable, b.value)).value b.value) (λ b. (goal.ProvideCredentials-dyn g (b.vtable, b.value)).fallback b.value) (λ b. (goal.ClassifyRetry-dyn g (b.vtable, b.value)).repeated b.value)) _ _ c.as_slice.ensures.value _ refl _ _ g.D.Devices _ _ c.provide_by_members.result c.provide_by_members.ensures.provides

pub returns-clause-stays : goal.returns-clause-stays
returns-clause-stays g c = λ no_memory.
    interrupted_said (named_of (λ b. (goal.ProvideCredentials-dyn g (b.vtable, b.value)).value b.value) (λ b. (goal.ProvideCredentials-dyn g (b.vtable, b.value)).fallback b.value) (λ b. (goal.ClassifyRetry-dyn g (b.vtable, b.value)).repeated b.value)) _ _ c.as_slice.ensures.value _ refl _ _ g.D.Devices _ _ c.provide_by_members.result c.provide_by_members.ensures.stays no_memory
