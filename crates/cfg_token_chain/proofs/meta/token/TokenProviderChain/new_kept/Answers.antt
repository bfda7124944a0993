-- The members as contracts see them.
use Rattle.std.proofs.Common.{map}
use Rattle.cfg_kept.specs.KeptStates.{kept_key, states_of}
use Rattle.cfg_kept.specs.Kinds.{no_states}
use Rattle.cfg_token_chain.specs.Members.{named_of, needed_in}
use Rattle.cfg_token_chain.proofs.MemberLists.{said_back}
use Rattle.cfg_token_chain.proofs.meta.token.TokenProviderChain.new_kept.Goals as goal

pub returns-clause-nothing : goal.returns-clause-nothing
returns-clause-nothing g c =
    said_back (λ _. no_states) (named_of (λ b. (goal.ProvideToken-dyn g (b.vtable, b.value)).told_token b.value)) _ _ c.as_slice.ensures.value (λ kept. map states_of kept.items) c.new_kept.result c.new_kept.ensures.nothing

pub returns-clause-keys : goal.returns-clause-keys
returns-clause-keys g c =
    said_back needed_in (named_of (λ b. (goal.ProvideToken-dyn g (b.vtable, b.value)).told_token b.value)) _ _ c.as_slice.ensures.value (λ kept. map kept_key kept.items) c.new_kept.result c.new_kept.ensures.keys
