-- The chain needs the key that its configuration needs without the region.
use Rattle.std.proofs.Common.{sym, ◌∙◌}
use Rattle.cfg_token_chain.proofs.Building.{key_set}
use Rattle.cfg_token_chain.proofs.default_provider.token.Builder.build.Goals as goal

pub with_key-profile-requires : goal.with_key-profile-requires
with_key-profile-requires g c = c.in_ok-token_key.ensures ∙ sym (key_set _ _ _ _ _ c.in_ok-config.ensures.set)
