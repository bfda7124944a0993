-- The members as contracts see them.
use Rattle.std.proofs.Common.{refl}
use Rattle.cfg_credentials_chain.specs.Members.{needed_in}
use Rattle.cfg_credentials_chain.specs.Views.{named_of}
use Rattle.cfg_credentials_chain.proofs.MemberLists.{said_of, follows_said}
use Rattle.cfg_credentials_chain.proofs.meta.credentials.CredentialsProviderChain.follow.Goals as goal

pub follow_members-requires : goal.follow_members-requires
follow_members-requires g c = said_of (named_of (λ b. (goal.ProvideCredentials-dyn g (b.vtable, b.value)).value b.value) (λ b. (goal.ProvideCredentials-dyn g (b.vtable, b.value)).fallback b.value) (λ b. (goal.ClassifyRetry-dyn g (b.vtable, b.value)).repeated b.value)) _ _ c.as_slice.ensures.value _ refl needed_in _ c.requires

pub returns-clause-follows : goal.returns-clause-follows
returns-clause-follows g c =
    follows_said (named_of (λ b. (goal.ProvideCredentials-dyn g (b.vtable, b.value)).value b.value) (λ b. (goal.ProvideCredentials-dyn g (b.vtable, b.value)).fallback b.value) (λ b. (goal.ClassifyRetry-dyn g (b.vtable, b.value)).repeated b.value)) _ _ c.as_slice.ensures.value _ refl _ _ g.A.Asking _ _ c.follow_members.result c.follow_members.ensures.follows
