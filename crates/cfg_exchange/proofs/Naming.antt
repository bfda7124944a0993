-- What a URI of some parts names.
use Rattle.std.proofs.Common.{◌≡◌, ℕ, List, true, false, Option, Some, None, refl, sym, ap, subst}
use Rattle.std.specs.Prelude.{codes}
use Rattle.std.specs.Str.{bytes_eq}
use Rattle.http_uri.specs.Grammar.{authority_host}
use Rattle.cfg_exchange.specs.declared.target.Target.{Target}
use Rattle.cfg_exchange.specs.declared.full_uri.FullUri.{FullUri}
use Rattle.cfg_exchange.specs.declared.full_uri.FullUri.TheVariants.{Hostless, Schemeless, Secure}
use Rattle.cfg_exchange.specs.FullUris.{full_at, IsHostNamed, IsSchemeNamed, IsNamed}

no_host : (scheme : Option (List ℕ)) (kept : List ℕ) → IsNamed scheme None kept Hostless
no_host None kept = refl
no_host (Some scheme) kept = refl

pub named_hostless : (scheme authority : Option (List ℕ)) (kept : List ℕ) → None ≡ authority → IsNamed scheme authority kept Hostless
named_hostless scheme authority kept a = subst (λ t. IsNamed scheme t kept Hostless) a (no_host scheme kept)

pub named_schemeless : (scheme authority : Option (List ℕ)) (kept text : List ℕ) → None ≡ scheme → Some text ≡ authority → IsNamed scheme authority kept Schemeless
named_schemeless scheme authority kept text s a =
    subst (λ t. IsNamed t authority kept Schemeless) s (subst (λ t. IsNamed None t kept Schemeless) a refl)

at_parts : (scheme authority : Option (List ℕ)) (kept name text : List ℕ) (named : FullUri) → Some name ≡ scheme → Some text ≡ authority →
    IsSchemeNamed (bytes_eq name (codes "https")) (full_at name text kept) (authority_host text) named → IsNamed scheme authority kept named
at_parts scheme authority kept name text named s a h =
    subst (λ t. IsNamed t authority kept named) s (subst (λ t. IsNamed (Some name) t kept named) a h)

pub named_secure : (scheme authority : Option (List ℕ)) (kept name text : List ℕ) (target : Target) → Some name ≡ scheme → Some text ≡ authority →
    target ≡ full_at name text kept → bytes_eq name (codes "https") ≡ true → IsNamed scheme authority kept (Secure target)
named_secure scheme authority kept name text target s a t e =
    at_parts scheme authority kept name text (Secure target) s a
    (subst (λ b. IsSchemeNamed b (full_at name text kept) (authority_host text) (Secure target)) (sym e) (ap Secure t))

pub named_at_host : (scheme authority : Option (List ℕ)) (kept name text host : List ℕ) (target : Target) (named : FullUri) → Some name ≡ scheme → Some text ≡ authority →
    target ≡ full_at name text kept → bytes_eq name (codes "https") ≡ false → host ≡ authority_host text → IsHostNamed target host named → IsNamed scheme authority kept named
named_at_host scheme authority kept name text host target named s a t e h n =
    at_parts scheme authority kept name text named s a
    (subst (λ b. IsSchemeNamed b (full_at name text kept) (authority_host text) named) (sym e)
    (subst (λ g. IsHostNamed g (authority_host text) named) t (subst (λ o. IsHostNamed target o named) h n)))

pub ruleset naming_steps = (named_hostless, named_schemeless, named_secure, named_at_host)
