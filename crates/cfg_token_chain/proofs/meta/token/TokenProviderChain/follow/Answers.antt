-- The members as contracts see them.
use Rattle.cfg_token_chain.specs.Members.{named_of, needed_in}
use Rattle.cfg_token_chain.proofs.MemberLists.{said_lent, follows_said}
use Rattle.cfg_token_chain.proofs.meta.token.TokenProviderChain.follow.Goals as goal

pub follow_members-requires : goal.follow_members-requires
follow_members-requires g c = said_lent needed_in (named_of (λ b. (goal.ProvideToken-dyn g (b.vtable, b.value)).told_token b.value)) _ _ c.as_slice.ensures.value _ c.requires

pub returns-clause-follows : goal.returns-clause-follows
returns-clause-follows g c =
    follows_said (named_of (λ b. (goal.ProvideToken-dyn g (b.vtable, b.value)).told_token b.value)) _ _ c.as_slice.ensures.value _ _ g.A.Asking _ _ c.follow_members.result c.follow_members.ensures.follows
