-- Whether a text is a URI with a scheme and an authority, by the parts that were read.
use Rattle.std.proofs.Common.{◌≡◌, ℕ, List, Bool, true, false, Option, Some, None, sym, subst}
use Rattle.std.specs.Prelude.{is_some, ◌&&◌}
use Rattle.http_uri.specs.Grammar.{IsUriText}
use Rattle.http_uri.specs.Uri.{SpellsNone}
use Rattle.cfg_exchange.proofs.OneUri.{one_uri}
use Rattle.cfg_imds.specs.Endpoints.{HasHost}
use Rattle.cfg_imds.specs.Hosts.{IsHosted}

no_some : (x : List ℕ) → None ≡ Some x → ⊥
no_some x h = absurd cc

by_parts : (text : List ℕ) (scheme authority : Option (List ℕ)) (kept : List ℕ) → IsUriText text scheme authority kept → IsHosted text (is_some scheme && is_some authority)
unfolding IsHosted
by_parts text None authority kept h =
    λ g. let same = one_uri text None authority kept (Some g.scheme) (Some g.authority) g.kept h g.uri in no_some g.scheme same.0
by_parts text (Some scheme) None kept h =
    λ g. let same = one_uri text (Some scheme) None kept (Some g.scheme) (Some g.authority) g.kept h g.uri in no_some g.authority same.1
by_parts text (Some scheme) (Some authority) kept h = record { scheme = scheme; authority = authority; kept = kept; uri = h }

pub hosted_by : (text : List ℕ) (scheme authority : Option (List ℕ)) (kept : List ℕ) (b : Bool) → IsUriText text scheme authority kept → b ≡ (is_some scheme && is_some authority) → IsHosted text b
hosted_by text scheme authority kept b h e = subst (λ t. IsHosted text t) (sym e) (by_parts text scheme authority kept h)

pub not_hosted : (text : List ℕ) → SpellsNone text → IsHosted text false
unfolding IsHosted
not_hosted text n = λ g. n (Some g.scheme) (Some g.authority) g.kept g.uri

pub hosted_at : (text : List ℕ) (b : Bool) → IsHosted text b → b ≡ true → HasHost text
unfolding IsHosted
hosted_at text b h e = subst (λ t. IsHosted text t) e h

pub hostless_at : (text : List ℕ) (b : Bool) → IsHosted text b → b ≡ false → HasHost text → ⊥
unfolding IsHosted
hostless_at text b h e = subst (λ t. IsHosted text t) e h

pub ruleset hosting_steps = (hosted_by, not_hosted, hosted_at, hostless_at)
