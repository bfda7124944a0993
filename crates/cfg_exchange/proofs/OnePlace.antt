-- Variables name one address of a container.
use Rattle.std.proofs.Common.{◌≡◌, inl, inr, ℕ, List, [], ◌∷◌, ◌++◌, Bool, true, false, Option, Some, None, refl, sym, ap, subst, ◌∙◌}
use Rattle.std.specs.Prelude.{codes}
use Rattle.std.specs.Str.{bytes_eq, encode_utf8_all}
use Rattle.std.proofs.lemmas.List.{append_cancel_right}
use Rattle.http_uri.specs.Grammar.{authority_host}
use Rattle.cfg_base.specs.Text.{characters}
use Rattle.cfg_base.specs.declared.address.Address.{Address}
use Rattle.cfg_base.proofs.AddressLaws.{one_address}
use Rattle.cfg_types.specs.Environment.{Variables, readable}
use Rattle.cfg_exchange.specs.declared.target.Target.{Target}
use Rattle.cfg_exchange.specs.declared.full_uri.FullUri.{FullUri}
use Rattle.cfg_exchange.specs.declared.container.ContainerUri.{ContainerUri}
use Rattle.cfg_exchange.specs.declared.container.ContainerUri.TheVariants as uri
use Rattle.cfg_exchange.specs.FullUris.{full_at, relative_at, IsRelativeUri, IsBareHost, IsAddressOf, at_host, IsHostNamed, IsSchemeNamed, IsNamed, IsFullUri}
use Rattle.cfg_exchange.specs.Containers.{relative_uri, IsUriBy, IsContainerUri}
use Rattle.cfg_exchange.proofs.OneUri.{one_uri}

one_relative : (text : List ℕ) (a b : Option Target) → IsRelativeUri text a → IsRelativeUri text b → a ≡ b
one_relative text None None h g = refl
one_relative text None (Some b) h g = absurd (h g.scheme g.authority g.kept g.uri)
one_relative text (Some a) None h g = absurd (g h.scheme h.authority h.kept h.uri)
one_relative text (Some a) (Some b) h g =
    let same = one_uri text h.scheme h.authority h.kept g.scheme g.authority g.kept h.uri g.uri in
    ap Some (h.is ∙ ap (λ s. relative_at s h.kept) same.0 ∙ ap (relative_at g.scheme) same.2 ∙ sym g.is)

same_rest : (x : ℕ) (a b : List ℕ) → x ∷ a ≡ x ∷ b → a ≡ b
same_rest x a b e = cc

one_bare : (host a b : List ℕ) → IsBareHost host a → IsBareHost host b → a ≡ b
one_bare host a b (inl h) (inl g) = append_cancel_right a b (93 ∷ []) (same_rest 91 (a ++ 93 ∷ []) (b ++ 93 ∷ []) (sym h ∙ g))
one_bare host a b (inl h) (inr g) = absurd (g.0 a h)
one_bare host a b (inr h) (inl g) = absurd (h.0 b g)
one_bare host a b (inr h) (inr g) = h.1 ∙ sym g.1

one_spelled : (text : List ℕ) (a b : Option Address) → IsAddressOf text a → IsAddressOf text b → a ≡ b
one_spelled text None None h g = refl
one_spelled text None (Some b) h g = absurd (h b g)
one_spelled text (Some a) None h g = absurd (g a h)
one_spelled text (Some a) (Some b) h g = ap Some (one_address (characters text) a b h g)

one_host : (target : Target) (host : List ℕ) (a b : FullUri) → IsHostNamed target host a → IsHostNamed target host b → a ≡ b
one_host target host a b h g =
    let bare = one_bare host h.bare g.bare h.is_bare g.is_bare in
    let address = one_spelled g.bare h.address g.address (subst (λ t. IsAddressOf t h.address) bare h.spells) g.spells in
    h.is ∙ ap (at_host target host) address ∙ sym g.is

one_by_scheme : (b : Bool) (target : Target) (host : List ℕ) (x y : FullUri) → IsSchemeNamed b target host x → IsSchemeNamed b target host y → x ≡ y
one_by_scheme true target host x y h g = h ∙ sym g
one_by_scheme false target host x y h g = one_host target host x y h g

one_named : (scheme authority : Option (List ℕ)) (kept : List ℕ) (x y : FullUri) → IsNamed scheme authority kept x → IsNamed scheme authority kept y → x ≡ y
one_named None None kept x y h g = h ∙ sym g
one_named (Some scheme) None kept x y h g = h ∙ sym g
one_named None (Some authority) kept x y h g = h ∙ sym g
one_named (Some scheme) (Some authority) kept x y h g = one_by_scheme (bytes_eq scheme (codes "https")) (full_at scheme authority kept) (authority_host authority) x y h g

pub one_full : (text : List ℕ) (x y : FullUri) → IsFullUri text x → IsFullUri text y → x ≡ y
one_full text x y (inl h) (inl g) = h.1 ∙ sym g.1
one_full text x y (inl h) (inr g) = absurd (h.0 g.scheme g.authority g.kept g.uri)
one_full text x y (inr h) (inl g) = absurd (g.0 h.scheme h.authority h.kept h.uri)
one_full text x y (inr h) (inr g) =
    let same = one_uri text h.scheme h.authority h.kept g.scheme g.authority g.kept h.uri g.uri in
    one_named g.scheme g.authority g.kept x y
    (subst (λ s. IsNamed s g.authority g.kept x) same.0 (subst (λ a. IsNamed h.scheme a g.kept x) same.1 (subst (λ k. IsNamed h.scheme h.authority k x) same.2 h.names)))
    g.names

one_by : (relative full : Option (List ℕ)) (x y : ContainerUri) → IsUriBy relative full x → IsUriBy relative full y → x ≡ y
one_by (Some text) full x y h g = h.2 ∙ ap (relative_uri text) (one_relative (encode_utf8_all text) h.0 g.0 h.1 g.1) ∙ sym g.2
one_by None (Some text) x y h g = h.2 ∙ ap (uri.Full text) (one_full (encode_utf8_all text) h.0 g.0 h.1 g.1) ∙ sym g.2
one_by None None x y h g = h ∙ sym g

pub one_place : (env : Variables) (a b : ContainerUri) → IsContainerUri env a → IsContainerUri env b → a ≡ b
one_place env a b h g = one_by (readable env (codes "AWS_CONTAINER_CREDENTIALS_RELATIVE_URI")) (readable env (codes "AWS_CONTAINER_CREDENTIALS_FULL_URI")) a b h g
