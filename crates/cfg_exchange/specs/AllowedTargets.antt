-- Which targets the check of a full address may give.
use Rattle.std.specs.Prelude.{◌≡◌, ◌⊎◌, ℕ, List, [], ◌∷◌, true, Some, codes}
use Rattle.std.specs.List.{list_all}
use Rattle.http_uri.specs.Grammar.{IsUriText, authority_host}
use Rattle.cfg_base.specs.Text.{characters}
use Rattle.cfg_base.specs.Addresses.{IsAddress}
use Rattle.cfg_base.specs.declared.address.Address.{Address}
use Rattle.cfg_world.specs.declared.ask.Question.TheVariants.{LookUp}
use Rattle.cfg_world.specs.declared.ask.Answer.TheVariants.{Addresses}
use Rattle.cfg_world.specs.Fits.{Pair}
use Rattle.cfg_exchange.specs.declared.target.Target.{Target}
use Rattle.cfg_exchange.specs.Addresses.{is_allowed}
use Rattle.cfg_exchange.specs.FullUris.{full_at, IsBareHost}

-- the host is an allowed address, in brackets or not
pub record IsAtAddress (authority : List ℕ) : Type 0 where
  pub bare : List ℕ
  pub address : Address
  pub host : IsBareHost (authority_host authority) bare
  pub spells : IsAddress (characters bare) address
  pub allowed : is_allowed address ≡ true

-- the host was looked up, and all of its addresses are allowed
pub record IsAtName (authority : List ℕ) (part : List Pair) : Type 0 where
  pub addresses : List Address
  pub asked : part ≡ (LookUp (characters (authority_host authority)), Addresses addresses) ∷ []
  pub allowed : list_all is_allowed addresses ≡ true

-- The target is that of the text. It is HTTPS, or its host is an allowed address, or a name whose
-- addresses in this part are all allowed.
pub record IsAllowedTarget (text : List ℕ) (part : List Pair) (target : Target) : Type 0 where
  pub scheme : List ℕ
  pub authority : List ℕ
  pub kept : List ℕ
  pub uri : IsUriText text (Some scheme) (Some authority) kept
  pub is : target ≡ full_at scheme authority kept
  pub safe : (scheme ≡ codes "https") ⊎ (IsAtAddress authority ⊎ IsAtName authority part)
