-- Members of chains of bearer tokens, as contracts see them.
use Rattle.std.specs.Prelude.{◌≡◌, ℕ, List, [], Option, Some, None, Ok}
use Rattle.std.specs.declared.alloc.Global.{Global}
use Rattle.std.specs.declared.dyn_box.DynBox.{DynBox}
use Rattle.cfg_types.specs.Tokens.{BearerToken}
use Rattle.cfg_world.specs.Fits.{Pair}
use Rattle.cfg_kept.specs.Kinds.{Value}
use Rattle.cfg_kept.specs.KeptInquiry.{KeptInquiry, Gives}
use Rattle.cfg_profile.specs.Configuration.{Configuration}
use Rattle.cfg_sso.specs.BearerTokens.{Bearer, bearer_token, BearerCause}
use Rattle.cfg_sso.specs.SsoSetups.{BearerSetup}
use Rattle.cfg_token.specs.declared.token_key.TokenKey.{TokenKey}
use Rattle.cfg_token_chain.specs.declared.member.NamedToken.{NamedToken}
use Rattle.cfg_token_chain.specs.declared.member.TokenMember.{TokenMember}
use Rattle.cfg_token_chain.specs.declared.member.TokenMember.TheVariants as member
use Rattle.cfg_token_chain.specs.Sessions.{session_key}
use Rattle.cfg_token_chain.specs.ProfileTokens.{profile_token, ProfileTokenCause, default_token, DefaultTokenCause}

-- The selected profile of a configuration; a session; the default chain; a token that was given; or what
-- a caller's own source answers.
pub data Asked : Type 0 where
  OfProfile : (configuration : Configuration) → Asked
  OfSession : (session : BearerSetup) → Asked
  ByDefault : (configuration : Configuration) → Asked
  Given : (token : BearerToken) → Asked
  ByCaller : (answer : Bearer) → Asked

-- what it asks, finds and leaves and, over the answers and the found values, its outcome
unfoldable pub member_tree : Asked → KeptInquiry Bearer
member_tree (OfProfile conf) = profile_token conf
member_tree (OfSession s) = bearer_token s.configuration s.key
member_tree (ByDefault conf) = default_token conf
member_tree (Given token) = Gives (Ok token)
member_tree (ByCaller answer) = Gives answer

-- whose token it needs
abbrev pub needed_key : Asked → Option TokenKey
needed_key (OfProfile conf) = session_key conf
needed_key (OfSession s) = Some s.key
needed_key (ByDefault conf) = session_key conf
needed_key (Given token) = None
needed_key (ByCaller answer) = None

-- The answer of a member has its cause, by the rule of its provider: a line for each.
abbrev pub TokenCause : Asked → List Value → List Pair → Bearer → Type 0
TokenCause (OfProfile conf) found part out = ProfileTokenCause conf found part out
TokenCause (OfSession s) found part out = BearerCause s.configuration s.key found part out
TokenCause (ByDefault conf) found part out = DefaultTokenCause conf found part out
TokenCause (Given token) found part out = (found ≡ []) × (part ≡ []) × (out ≡ Ok token)
TokenCause (ByCaller answer) found part out = (found ≡ []) × (part ≡ []) × (out ≡ answer)

-- ---- by name

-- a name, and what stands under it
abbrev pub NamedAsked : Type 0
NamedAsked = List ℕ × Asked

abbrev pub name_in : NamedAsked → List ℕ
name_in m = m.0

-- The tree is that of the member.
abbrev pub IsTokenTree : NamedAsked → KeptInquiry Bearer → Type 0
IsTokenTree m tree = tree ≡ member_tree m.1

abbrev pub needed_in : NamedAsked → Option TokenKey
needed_in m = needed_key m.1

module _ {V : Type 0} {I : V → Type 0} where
  -- a member, with what a caller's own source answers by the meaning of its interface
  abbrev pub asked_of : (DynBox V Global I → Bearer) → TokenMember V I → Asked
  asked_of told (member.Profile conf) = OfProfile conf
  asked_of told (member.Sso setup) = OfSession setup
  asked_of told (member.Default conf) = ByDefault conf
  asked_of told (member.Fixed token) = Given token
  asked_of told (member.Custom own) = ByCaller (told own)

  abbrev pub named_of : (DynBox V Global I → Bearer) → NamedToken V I → NamedAsked
  named_of told m = (m.name, asked_of told m.member)

  -- the same where a crate above speaks of it
  abbrev pub token_asked : ((v : V) × I v → Bearer) → TokenMember V I → Asked
  token_asked told m = asked_of (λ b. told (b.vtable, b.value)) m
