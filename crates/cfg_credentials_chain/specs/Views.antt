-- Members and chains, as contracts see them.
use Rattle.std.specs.Prelude.{ℕ, List, Option, map}
use Rattle.std.specs.declared.alloc.Global.{Global}
use Rattle.std.specs.declared.dyn_box.DynBox.{DynBox}
use Rattle.cfg_base.specs.Text.{characters}
use Rattle.cfg_types.specs.Keys.{Keys}
use Rattle.cfg_exchange.specs.Classifiers.{Repeats}
use Rattle.cfg_imds.specs.Setups.{asked_rules}
use Rattle.cfg_imds_credentials.specs.declared.imds.credentials.ImdsCredentialsProvider.{ImdsCredentialsProvider}
use Rattle.cfg_imds_credentials.specs.Settings.{MetadataSetting, setting}
use Rattle.cfg_providers.specs.CustomSources.{Answer}
use Rattle.cfg_chain.specs.Views.{provider_by, chain_by}
use Rattle.cfg_assume_role.specs.Bases.{base_by}
use Rattle.cfg_credentials_chain.specs.declared.named.NamedMember.{NamedMember}
use Rattle.cfg_credentials_chain.specs.declared.member.Member.{Member}
use Rattle.cfg_credentials_chain.specs.declared.member.Member.TheVariants as member
use Rattle.cfg_credentials_chain.specs.declared.meta.credentials.CredentialsProviderChain.{CredentialsProviderChain}
use Rattle.cfg_credentials_chain.specs.Members.{Asked, OfEnvironment, OfProcess, OfWebIdentity, OfContainer, OfMetadata, OfSession, OfSignIn, OfProfile, ByDefault, ForRole, Given, ByCaller, NamedAsked}

module _ {V : Type 0} {I : V → Type 0} where
  -- a provider of metadata credentials, by the meaning of a classifier that was handed in
  abbrev pub metadata_of : (DynBox V Global I → Repeats) → ImdsCredentialsProvider V I → MetadataSetting
  metadata_of repeated p = setting p.disabled (asked_rules repeated p.client) p.role p.place

module _ {V W : Type 0} {I : V → Type 0} {J : W → Type 0} (value : DynBox W Global J → Answer) (fallback : DynBox W Global J → Option Keys) (repeated : DynBox V Global I → Repeats) where
  -- a member, with what a caller's own source answers and falls back on, and what a classifier repeats, by
  -- the meaning of their interfaces
  abbrev pub asked_of : Member V W I J → Asked
  asked_of (member.Environment env) = OfEnvironment env
  asked_of (member.Process p) = OfProcess p
  asked_of (member.WebIdentity w) = OfWebIdentity w
  asked_of (member.Ecs c) = OfContainer c
  asked_of (member.Imds p) = OfMetadata (metadata_of repeated p)
  asked_of (member.Sso s) = OfSession s
  asked_of (member.Login s) = OfSignIn s
  asked_of (member.Profile p) = OfProfile (provider_by value p)
  asked_of (member.Default chain) = ByDefault (chain_by value repeated chain)
  asked_of (member.AssumeRole p) = ForRole p.call (base_by value repeated p.base)
  asked_of (member.Fixed keys) = Given keys
  asked_of (member.Custom own) = ByCaller (value own) (fallback own)

  -- a member that the chain tells of by this name, as its bytes say it
  abbrev pub named_asked : List ℕ → Member V W I J → NamedAsked
  named_asked name m = (characters name, asked_of m)

  abbrev pub named_of : NamedMember V W I J → NamedAsked
  named_of m = (m.name, asked_of m.member)

  -- the members of a chain, in order, each with its name
  abbrev pub members_of : CredentialsProviderChain V W I J → List NamedAsked
  members_of chain = map named_of chain.members.items
