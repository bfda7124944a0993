-- What the text of a container's address names, by what `http_uri` says of the text.
use Rattle.std.specs.Prelude.{◌≡◌, ℕ, List, [], ◌∷◌, ◌++◌, ◌⊎◌, length, Bool, true, false, ◌||◌, not, ◌==◌, Option, Some, None, is_some, codes, if◌then◌else◌}
use Rattle.std.specs.Str.{bytes_eq}
use Rattle.http_uri.specs.Grammar.{IsUriText, path_of, query_of, authority_host}
use Rattle.http_uri.specs.ByteClasses.{framed_text}
use Rattle.cfg_base.specs.Text.{characters}
use Rattle.cfg_base.specs.Addresses.{IsAddress}
use Rattle.cfg_base.specs.declared.address.Address.{Address}
use Rattle.cfg_exchange.specs.declared.target.Target.{Target}
use Rattle.cfg_exchange.specs.declared.full_uri.FullUri.{FullUri}
use Rattle.cfg_exchange.specs.declared.full_uri.FullUri.TheVariants.{Unreadable, Hostless, Schemeless, Secure, AtAddress, AtName}

-- ---- targets

-- the path of a URI of such a scheme and such a path and query: one of an authority alone has none
abbrev pub path_in : Option (List ℕ) → List ℕ → List ℕ
path_in scheme kept = if not (length kept == 0) || is_some scheme then path_of kept else []

-- the path, and where there is a query, `?` and the query
abbrev pub path_and_query : Option (List ℕ) → List ℕ → List ℕ
path_and_query scheme kept = path_in scheme kept ++ framed_text (codes "?") (query_of kept) []

-- the text without one `/` at its front
abbrev pub without_slash : List ℕ → List ℕ
without_slash [] = []
without_slash (b ∷ bytes) = if b == 47 then bytes else b ∷ bytes

-- the target of a relative address: the agent of Amazon ECS, at that path and query
abbrev pub relative_at : Option (List ℕ) → List ℕ → Target
relative_at scheme kept = record {
  endpoint = codes "http://169.254.170.2";
  path = characters (codes "/" ++ without_slash (path_and_query scheme kept));
}

-- the target of a full address
abbrev pub full_at : List ℕ → List ℕ → List ℕ → Target
full_at scheme authority kept = record {
  endpoint = characters (scheme ++ codes "://" ++ authority);
  path = characters (path_and_query (Some scheme) kept);
}

-- the text is no URI
abbrev pub IsNoUri : List ℕ → Type 0
IsNoUri text = (scheme authority : Option (List ℕ)) (kept : List ℕ) → IsUriText text scheme authority kept → ⊥

-- the text is a URI, and this is the target of it as a relative address
pub record NamesRelative (text : List ℕ) (target : Target) : Type 0 where
  pub scheme : Option (List ℕ)
  pub authority : Option (List ℕ)
  pub kept : List ℕ
  pub uri : IsUriText text scheme authority kept
  pub is : target ≡ relative_at scheme kept

-- what the text of a relative address names, if it is a URI
abbrev pub IsRelativeUri : List ℕ → Option Target → Type 0
IsRelativeUri text None = IsNoUri text
IsRelativeUri text (Some target) = NamesRelative text target

-- ---- hosts

-- a host in brackets, and what stands in them
abbrev pub IsBracketed : List ℕ → List ℕ → Type 0
IsBracketed host inside = host ≡ codes "[" ++ inside ++ codes "]"

-- a host without its brackets, where it has them
abbrev pub IsBareHost : List ℕ → List ℕ → Type 0
IsBareHost host bare = IsBracketed host bare ⊎ (((inside : List ℕ) → IsBracketed host inside → ⊥) × (bare ≡ host))

-- the address that the bytes spell, or none
abbrev pub IsAddressOf : List ℕ → Option Address → Type 0
IsAddressOf text None = (address : Address) → IsAddress (characters text) address → ⊥
IsAddressOf text (Some address) = IsAddress (characters text) address

-- ---- full addresses

abbrev pub at_host : Target → List ℕ → Option Address → FullUri
at_host target host (Some address) = AtAddress target address
at_host target host None = AtName target (characters host)

-- what an address names that is not HTTPS, by its host: one that spells an address, in brackets or not, or
-- a name
pub record IsHostNamed (target : Target) (host : List ℕ) (named : FullUri) : Type 0 where
  pub bare : List ℕ
  pub address : Option Address
  pub is_bare : IsBareHost host bare
  pub spells : IsAddressOf bare address
  pub is : named ≡ at_host target host address

abbrev pub IsSchemeNamed : Bool → Target → List ℕ → FullUri → Type 0
IsSchemeNamed true target host named = named ≡ Secure target
IsSchemeNamed false target host named = IsHostNamed target host named

-- What a URI of these parts names as a full address. `http_uri` gives `https` in lower case, however it
-- is written.
abbrev pub IsNamed : Option (List ℕ) → Option (List ℕ) → List ℕ → FullUri → Type 0
IsNamed scheme None kept named = named ≡ Hostless
IsNamed None (Some authority) kept named = named ≡ Schemeless
IsNamed (Some scheme) (Some authority) kept named = IsSchemeNamed (bytes_eq scheme (codes "https")) (full_at scheme authority kept) (authority_host authority) named

-- the text is a URI, and this is what it names as a full address
pub record NamesFull (text : List ℕ) (named : FullUri) : Type 0 where
  pub scheme : Option (List ℕ)
  pub authority : Option (List ℕ)
  pub kept : List ℕ
  pub uri : IsUriText text scheme authority kept
  pub names : IsNamed scheme authority kept named

-- what the text of a full address names, or that it is no URI
abbrev pub IsFullUri : List ℕ → FullUri → Type 0
IsFullUri text named = (IsNoUri text × (named ≡ Unreadable)) ⊎ NamesFull text named
