-- Chains of bearer tokens, as contracts see them.
use Rattle.std.specs.Prelude.{List, map}
use Rattle.std.specs.declared.alloc.Global.{Global}
use Rattle.std.specs.declared.dyn_box.DynBox.{DynBox}
use Rattle.cfg_sso.specs.BearerTokens.{Bearer}
use Rattle.cfg_token_chain.specs.declared.meta.token.TokenProviderChain.{TokenProviderChain}
use Rattle.cfg_token_chain.specs.Members.{NamedAsked, named_of}

module _ {V : Type 0} {I : V → Type 0} where
  -- the members, in order, each with its name
  abbrev pub members_of : (DynBox V Global I → Bearer) → TokenProviderChain V I → List NamedAsked
  members_of told chain = map (named_of told) chain.members.items

  -- the same where a crate above speaks of it
  abbrev pub token_members : ((v : V) × I v → Bearer) → TokenProviderChain V I → List NamedAsked
  token_members told chain = members_of (λ b. told (b.vtable, b.value)) chain
