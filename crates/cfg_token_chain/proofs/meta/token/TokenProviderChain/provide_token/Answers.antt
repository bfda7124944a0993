-- The members as contracts see them.
use Rattle.cfg_token_chain.specs.Members.{named_of, needed_in}
use Rattle.cfg_token_chain.proofs.MemberLists.{said_lent, provides_said, interrupted_said}
use Rattle.cfg_token_chain.proofs.meta.token.TokenProviderChain.provide_token.Goals as goal

pub provide_by_members-requires : goal.provide_by_members-requires
provide_by_members-requires g c = said_lent needed_in (named_of (λ b. (goal.ProvideToken-dyn g (b.vtable, b.value)).told_token b.value)) _ _ c.as_slice.ensures.value _ c.requires

pub returns-clause-provides : goal.returns-clause-provides
returns-clause-provides g c =
    provides_said (named_of (λ b. (goal.ProvideToken-dyn g (b.vtable, b.value)).told_token b.value)) _ _ c.as_slice.ensures.value _ _ g.D.Devices _ _ c.provide_by_members.result c.provide_by_members.ensures.provides

pub returns-clause-stays : goal.returns-clause-stays
returns-clause-stays g c =
    interrupted_said (named_of (λ b. (goal.ProvideToken-dyn g (b.vtable, b.value)).told_token b.value)) _ _ c.as_slice.ensures.value _ _ g.D.Devices _ _ c.provide_by_members.result c.provide_by_members.ensures.stays
