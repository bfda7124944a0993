-- The members as contracts see them.
use Rattle.std.proofs.Common.{map, refl}
use Rattle.cfg_kept.specs.KeptStates.{kept_key, states_of}
use Rattle.cfg_kept.specs.Kinds.{no_states}
use Rattle.cfg_credentials_chain.specs.Members.{needed_in}
use Rattle.cfg_credentials_chain.specs.Views.{named_of}
use Rattle.cfg_credentials_chain.proofs.MemberLists.{said_back}
use Rattle.cfg_credentials_chain.proofs.meta.credentials.CredentialsProviderChain.new_kept.Goals as goal

pub returns-clause-nothing : goal.returns-clause-nothing
returns-clause-nothing g c =
    said_back (named_of (λ b. (goal.ProvideCredentials-dyn g (b.vtable, b.value)).value b.value) (λ b. (goal.ProvideCredentials-dyn g (b.vtable, b.value)).fallback b.value) (λ b. (goal.ClassifyRetry-dyn g (b.vtable, b.value)).repeated b.value)) _ _ c.as_slice.ensures.value _ refl (λ _. no_states) (λ kept. map states_of kept.items) c.new_kept.result c.new_kept.ensures.nothing

pub returns-clause-keys : goal.returns-clause-keys
returns-clause-keys g c =
    said_back (named_of (λ b. (goal.ProvideCredentials-dyn g (b.vtable, b.value)).value b.value) (λ b. (goal.ProvideCredentials-dyn g (b.vtable, b.value)).fallback b.value) (λ b. (goal.ClassifyRetry-dyn g (b.vtable, b.value)).repeated b.value)) _ _ c.as_slice.ensures.value _ refl needed_in (λ kept. map kept_key kept.items) c.new_kept.result c.new_kept.ensures.keys
