-- The address of the instance metadata service can be asked.
use Rattle.std.proofs.Common.{◌≡◌, ◌<◌, ℕ, zero, suc, List, [], ◌∷◌, Bool, true, false, length, get_or, take, inl, refl, ap, subst, arith}
use Rattle.std.specs.Prelude.{codes, not, ◌&&◌, ◌||◌, ◌==◌}
use Rattle.std.specs.List.{list_all}
use Rattle.std.proofs.lemmas.List.Sums.{AllPass-from_list_all}
use Rattle.http_uri.specs.ByteClasses.{is_scheme_byte, is_authority_byte}
use Rattle.http_uri.specs.Grammar.{MayFollow, IsAuthority, IsAbsoluteForm}
use Rattle.cfg_imds.specs.declared.endpoint.Endpoint.{Endpoint}
use Rattle.cfg_imds.specs.declared.endpoint.Endpoint.TheVariants.{At, NoUri, NoMode}
use Rattle.cfg_imds.specs.Endpoints.{HasHost, IsEndpointAt}
use Rattle.cfg_endpoint.specs.Made.{service_address}

-- a byte of a name or a number
abbrev pub is_plain : ℕ → Bool
is_plain b = is_authority_byte b && not ((b == 58) || ((b == 91) || (b == 93)))

both : (a b : Bool) → (a && b) ≡ true → (a ≡ true) × (b ≡ true)
both true b h = (refl, h)
both false b h = absurd cc

pub is_at : (p : ℕ → Bool) (text : List ℕ) (i : ℕ) → list_all p text ≡ true → i < length text → p (get_or text i 0) ≡ true
is_at p [] i h lt = absurd (omega (arith, lt))
is_at p (b ∷ text) zero h lt = (both (p b) (list_all p text) h).0
is_at p (b ∷ text) (suc i) h lt = is_at p text i (both (p b) (list_all p text) h).1 (omega (arith, lt))

pub follows : (front : List ℕ) (b : ℕ) → is_plain b ≡ true → MayFollow front b
follows front b h = record {
  byte = (both (is_authority_byte b) (not ((b == 58) || ((b == 91) || (b == 93)))) h).0;
  colons = λ e. absurd (not_plain (subst (λ x. is_plain x ≡ true) e h));
  opening = λ e. absurd (not_plain_2 (subst (λ x. is_plain x ≡ true) e h));
  closing = λ e. absurd (not_plain_3 (subst (λ x. is_plain x ≡ true) e h));
}
  where
    not_plain : is_plain 58 ≡ true → ⊥
    not_plain h = absurd cc

    not_plain_2 : is_plain 91 ≡ true → ⊥
    not_plain_2 h = absurd cc

    not_plain_3 : is_plain 93 ≡ true → ⊥
    not_plain_3 h = absurd cc

service_host : IsAuthority (codes "169.254.169.254")
service_host = record {
  nonempty = omega arith;
  bytes = λ i lt. follows (take i (codes "169.254.169.254")) (get_or (codes "169.254.169.254") i 0) (is_at is_plain (codes "169.254.169.254") i refl lt);
  closed = refl;
  one_colon = omega arith;
  no_percent = refl;
  has_host = λ e. omega (arith, e);
}

service_uri : IsAbsoluteForm service_address (codes "http") (codes "169.254.169.254") (codes "/")
service_uri = record {
  name = codes "http";
  tail = [];
  spelled = refl;
  is_scheme = (AllPass-from_list_all is_scheme_byte (codes "http") refl, omega arith);
  normal = refl;
  is_authority = service_host;
  is_tail = inl (refl, refl);
}

pub service_is_hosted : HasHost service_address
service_is_hosted = record { scheme = codes "http"; authority = codes "169.254.169.254"; kept = codes "/"; uri = (omega arith, service_uri) }

-- so a client that asks there asks at it
pub service_at : (endpoint : Endpoint) → IsEndpointAt service_address endpoint → endpoint ≡ At service_address
service_at (At text) h = ap At h.0
service_at (NoUri text) h = absurd (h.1 service_is_hosted)
service_at (NoMode text) h = absurd h
