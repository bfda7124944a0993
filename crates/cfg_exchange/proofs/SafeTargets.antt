-- A target that a check gives is allowed.
use Rattle.std.proofs.Common.{◌≡◌, ◌⊎◌, inl, inr, ℕ, List, [], ◌∷◌, Bool, true, false, Option, Some, None, refl, ap, subst, ◌∙◌}
use Rattle.std.specs.Prelude.{Ok, Err, IfOk, codes}
use Rattle.std.specs.Str.{bytes_eq}
use Rattle.std.specs.List.{list_all}
use Rattle.std.proofs.lemmas.Slice.Eq.{bytes_eq-Decides}
use Rattle.http_uri.specs.Grammar.{IsUriText, authority_host}
use Rattle.cfg_base.specs.Text.{characters}
use Rattle.cfg_base.specs.declared.address.Address.{Address}
use Rattle.cfg_types.specs.declared.errors.container.InvalidFullUriError.{InvalidFullUriError}
use Rattle.cfg_types.specs.declared.errors.container.InvalidFullUriError.TheVariants as invalid
use Rattle.cfg_world.specs.declared.ask.Question.TheVariants.{LookUp}
use Rattle.cfg_world.specs.declared.ask.Answer.{Answer}
use Rattle.cfg_world.specs.declared.ask.Answer.TheVariants as answer
use Rattle.cfg_world.specs.Fits.{Pair}
use Rattle.cfg_world.specs.Inquiry.{Reads}
use Rattle.cfg_world.specs.Leaves.{looking_up, addresses_of}
use Rattle.cfg_exchange.specs.declared.target.Target.{Target}
use Rattle.cfg_exchange.specs.declared.full_uri.FullUri.{FullUri}
use Rattle.cfg_exchange.specs.declared.full_uri.FullUri.TheVariants.{Unreadable, Hostless, Schemeless, Secure, AtAddress, AtName}
use Rattle.cfg_exchange.specs.Addresses.{is_allowed}
use Rattle.cfg_exchange.specs.FullUris.{full_at, IsBareHost, IsAddressOf, IsSchemeNamed, IsNamed, at_host, IsFullUri}
use Rattle.cfg_exchange.specs.Targets.{Checked, allowed_if, looked_up, at_name, full_target}
use Rattle.cfg_exchange.specs.AllowedTargets.{IsAllowedTarget}

abbrev gave : Target → Checked
gave target = Ok target

same_target : (a b : Target) → gave a ≡ gave b → b ≡ a
same_target a b e = cc

refused_is : (e : InvalidFullUriError) (b : Target) → Err e ≡ gave b → ⊥
refused_is e b h = absurd cc

allowed_is : (b : Bool) (a target : Target) → allowed_if a b ≡ gave target → (b ≡ true) × (target ≡ a)
allowed_is true a target h = (refl, same_target a target h)
allowed_is false a target h = absurd (refused_is invalid.DisallowedIP target h)

-- an answer to a look-up after which the target is given
found_is : (a : Answer) (t target : Target) → looked_up t (addresses_of a) ≡ gave target →
    (addresses : List Address) × (a ≡ answer.Addresses addresses) × (list_all is_allowed addresses ≡ true) × (target ≡ t)
found_is (answer.Addresses addresses) t target h = let p = allowed_is (list_all is_allowed addresses) t target h in (addresses, refl, p.0, p.1)
found_is (answer.Moment m) t target h = absurd (refused_is invalid.DnsLookupFailed target h)
found_is (answer.Jitter n) t target h = absurd (refused_is invalid.DnsLookupFailed target h)
found_is (answer.Contents bytes) t target h = absurd (refused_is invalid.DnsLookupFailed target h)
found_is answer.Written t target h = absurd (refused_is invalid.DnsLookupFailed target h)
found_is (answer.Finished finished) t target h = absurd (refused_is invalid.DnsLookupFailed target h)
found_is (answer.Replied reply) t target h = absurd (refused_is invalid.DnsLookupFailed target h)
found_is (answer.Failed kind) t target h = absurd (refused_is invalid.DnsLookupFailed target h)

module _ (text : List ℕ) (dns : Bool) (target : Target) where
  named_target : (scheme authority kept host : List ℕ) (d : Bool) (part : List Pair) → IsUriText text (Some scheme) (Some authority) kept →
      host ≡ characters (authority_host authority) → Reads (at_name d (full_at scheme authority kept) host) part (Ok target) → IsAllowedTarget text part target
  unfolding looking_up
  named_target scheme authority kept host false [] u e h = absurd (refused_is invalid.NoDnsResolver target h)
  named_target scheme authority kept host false (x ∷ part) u e h = absurd h
  named_target scheme authority kept host true [] u e h = absurd h
  named_target scheme authority kept host true (x ∷ y ∷ part) u e h = absurd h.1
  named_target scheme authority kept host true (x ∷ []) u e h =
      let f = found_is x.1 (full_at scheme authority kept) target h.1 in record {
        scheme = scheme;
        authority = authority;
        kept = kept;
        uri = u;
        is = f.3;
        safe = inr (inr (record {
          addresses = f.0;
          asked = ap (λ q. (q, x.1) ∷ []) (h.0 ∙ ap LookUp e) ∙ ap (λ a. (LookUp (characters (authority_host authority)), a) ∷ []) f.1;
          allowed = f.2;
        }));
      }

  host_target : (scheme authority kept : List ℕ) (address : Option Address) (bare : List ℕ) (part : List Pair) → IsUriText text (Some scheme) (Some authority) kept →
      IsBareHost (authority_host authority) bare → IsAddressOf bare address →
      Reads (full_target dns (at_host (full_at scheme authority kept) (authority_host authority) address)) part (Ok target) → IsAllowedTarget text part target
  unfolding full_target
  host_target scheme authority kept None bare part u b a h = named_target scheme authority kept _ dns part u refl h
  host_target scheme authority kept (Some address) bare (x ∷ part) u b a h = absurd h
  host_target scheme authority kept (Some address) bare [] u b a h =
      let p = allowed_is (is_allowed address) (full_at scheme authority kept) target h in record {
        scheme = scheme;
        authority = authority;
        kept = kept;
        uri = u;
        is = p.1;
        safe = inr (inl (record { bare = bare; address = address; host = b; spells = a; allowed = p.0 }));
      }

  secure_target : (scheme authority kept : List ℕ) (part : List Pair) → IsUriText text (Some scheme) (Some authority) kept → scheme ≡ codes "https" →
      Reads (full_target dns (Secure (full_at scheme authority kept))) part (Ok target) → IsAllowedTarget text part target
  unfolding full_target
  secure_target scheme authority kept (x ∷ part) u s h = absurd h
  secure_target scheme authority kept [] u s h = record {
    scheme = scheme;
    authority = authority;
    kept = kept;
    uri = u;
    is = same_target (full_at scheme authority kept) target h;
    safe = inl s;
  }

  by_scheme : (b : Bool) (scheme authority kept : List ℕ) (named : FullUri) (part : List Pair) → bytes_eq scheme (codes "https") ≡ b →
      IsUriText text (Some scheme) (Some authority) kept → IsSchemeNamed b (full_at scheme authority kept) (authority_host authority) named →
      Reads (full_target dns named) part (Ok target) → IsAllowedTarget text part target
  by_scheme true scheme authority kept named part e u n h =
      secure_target scheme authority kept part u ((bytes_eq-Decides scheme (codes "https")).0 e) (subst (λ m. Reads (full_target dns m) part (Ok target)) n h)
  by_scheme false scheme authority kept named part e u n h =
      host_target scheme authority kept n.address n.bare part u n.is_bare n.spells (subst (λ m. Reads (full_target dns m) part (Ok target)) n.is h)

  refused_target : (named : FullUri) (part : List Pair) → Reads (full_target dns named) part (Ok target) →
      (named ≡ Unreadable) ⊎ ((named ≡ Hostless) ⊎ (named ≡ Schemeless)) → IsAllowedTarget text part target
  unfolding full_target
  refused_target Unreadable [] h s = absurd (refused_is invalid.InvalidUri target h)
  refused_target Unreadable (x ∷ part) h s = absurd h
  refused_target Hostless [] h s = absurd (refused_is invalid.MissingHost target h)
  refused_target Hostless (x ∷ part) h s = absurd h
  refused_target Schemeless [] h s = absurd (refused_is invalid.InvalidUri target h)
  refused_target Schemeless (x ∷ part) h s = absurd h
  refused_target (Secure t) part h (inl s) = absurd cc
  refused_target (Secure t) part h (inr (inl s)) = absurd cc
  refused_target (Secure t) part h (inr (inr s)) = absurd cc
  refused_target (AtAddress t a) part h (inl s) = absurd cc
  refused_target (AtAddress t a) part h (inr (inl s)) = absurd cc
  refused_target (AtAddress t a) part h (inr (inr s)) = absurd cc
  refused_target (AtName t n) part h (inl s) = absurd cc
  refused_target (AtName t n) part h (inr (inl s)) = absurd cc
  refused_target (AtName t n) part h (inr (inr s)) = absurd cc

  by_parts : (scheme authority : Option (List ℕ)) (kept : List ℕ) (named : FullUri) (part : List Pair) → IsUriText text scheme authority kept →
      IsNamed scheme authority kept named → Reads (full_target dns named) part (Ok target) → IsAllowedTarget text part target
  by_parts None None kept named part u n h = refused_target named part h (inr (inl n))
  by_parts (Some scheme) None kept named part u n h = refused_target named part h (inr (inl n))
  by_parts None (Some authority) kept named part u n h = refused_target named part h (inr (inr n))
  by_parts (Some scheme) (Some authority) kept named part u n h = by_scheme (bytes_eq scheme (codes "https")) scheme authority kept named part refl u n h

  pub target_is_allowed : (named : FullUri) (part : List Pair) → IsFullUri text named → Reads (full_target dns named) part (Ok target) → IsAllowedTarget text part target
  target_is_allowed named part (inl n) h = refused_target named part h (inl n.1)
  target_is_allowed named part (inr n) h = by_parts n.scheme n.authority n.kept named part n.uri n.names h

pub given_is_allowed : (text : List ℕ) (dns : Bool) (named : FullUri) (part : List Pair) (out : Checked) → IsFullUri text named → Reads (full_target dns named) part out → IfOk out (IsAllowedTarget text part)
given_is_allowed text dns named part (Ok target) n h = target_is_allowed text dns target named part n h
given_is_allowed text dns named part (Err e) n h = tt
