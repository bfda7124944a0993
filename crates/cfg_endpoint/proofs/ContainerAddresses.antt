-- The address of a local container's endpoint is allowed.
use Rattle.std.proofs.Common.{◌≡◌, ℕ, List, ◌++◌, get_or, take, Some, None, inl, inr, refl, sym, ap, ◌∙◌, arith}
use Rattle.std.specs.Prelude.{codes}
use Rattle.std.specs.Fmt.{decimal}
use Rattle.std.specs.Str.Parse.{AllDigits, digits_value}
use Rattle.std.proofs.lemmas.Fmt.{decimal_digit, decimal-digits_value}
use Rattle.std.proofs.lemmas.List.Sums.{AllPass-from_list_all}
use Rattle.http_uri.specs.ByteClasses.{is_scheme_byte, is_path_byte}
use Rattle.http_uri.specs.Grammar.{IsAuthority, IsPathAndQuery, IsAbsoluteForm}
use Rattle.cfg_base.specs.Addresses.{IsIpv4Text}
use Rattle.cfg_base.specs.declared.address.Address.TheVariants.{V4}
use Rattle.cfg_exchange.specs.declared.container.ContainerUri.{ContainerUri}
use Rattle.cfg_exchange.specs.declared.container.ContainerUri.TheVariants as uri
use Rattle.cfg_exchange.specs.declared.full_uri.FullUri.TheVariants.{AtAddress}
use Rattle.cfg_exchange.specs.declared.target.Target.{Target}
use Rattle.cfg_exchange.specs.Containers.{IsUriBy}
use Rattle.cfg_exchange.specs.FullUris.{full_at, IsBracketed, IsFullUri}
use Rattle.cfg_exchange.proofs.OnePlace.{one_full}
use Rattle.cfg_endpoint.specs.Calls.{container_address}
use Rattle.cfg_endpoint.proofs.Addresses.{is_plain, is_at, follows}

abbrev local : List ℕ
local = codes "127.0.0.1"

local_host : IsAuthority local
local_host = record {
  nonempty = omega arith;
  bytes = λ i lt. follows (take i local) (get_or local i 0) (is_at is_plain local i refl lt);
  closed = refl;
  one_colon = omega arith;
  no_percent = refl;
  has_host = λ e. omega (arith, e);
}

local_path : IsPathAndQuery (codes "/c")
unfolding lib.Utf8.encode
local_path = record {
  start = inr (inr (inl refl));
  path = AllPass-from_list_all is_path_byte (codes "/c") refl;
  query = tt;
  utf8 = (codes "/c", (refl, refl));
  short = omega arith;
}

local_uri : IsAbsoluteForm container_address (codes "http") local (codes "/c")
local_uri = record {
  name = codes "http";
  tail = codes "/c";
  spelled = refl;
  is_scheme = (AllPass-from_list_all is_scheme_byte (codes "http") refl, omega arith);
  normal = refl;
  is_authority = local_host;
  is_tail = inr (refl, record { start = inr refl; short = omega arith; kept = local_path }, refl);
}

first_number : decimal 127 ≡ codes "127"
first_number = decimal-digits_value {P = AllDigits 10} {v = digits_value 10} (record { to = λ ds h. h; from = λ ds h. h; same = λ ds h. refl }) (codes "127") (omega arith, (omega arith, (omega arith, tt))) (omega arith) (λ e. absurd (omega (arith, e))) (omega arith)

local_number : IsIpv4Text local 2130706433
local_number = record {
  a = 127;
  b = 0;
  c = 0;
  d = 1;
  below = (omega arith, omega arith, omega arith, omega arith);
  spelled = sym (
      ap (λ x. x ++ codes "." ++ decimal 0 ++ codes "." ++ decimal 0 ++ codes "." ++ decimal 1) first_number
      ∙ ap (λ x. codes "127" ++ codes "." ++ x ++ codes "." ++ x ++ codes "." ++ decimal 1) (decimal_digit 0 (omega arith))
      ∙ ap (λ x. codes "127" ++ codes "." ++ codes "0" ++ codes "." ++ codes "0" ++ codes "." ++ x) (decimal_digit 1 (omega arith))
      );
  value = refl;
}

no_brackets : (inside : List ℕ) → IsBracketed local inside → ⊥
no_brackets inside h = let first : get_or local 0 0 ≡ 91 = ap (λ t. get_or t 0 0) h in omega (arith, first)

-- where the container is asked
abbrev pub local_target : Target
local_target = full_at (codes "http") local (codes "/c")

local_named : IsFullUri container_address (AtAddress local_target (V4 2130706433))
local_named = inr (record {
  scheme = Some (codes "http");
  authority = Some local;
  kept = codes "/c";
  uri = (omega arith, local_uri);
  names = record { bare = local; address = Some (V4 2130706433); is_bare = inr (no_brackets, refl); spells = local_number; is = refl };
})

-- so a container that is asked there is asked at it
pub local_at : (named : ContainerUri) → IsUriBy None (Some container_address) named → named ≡ uri.Full container_address (AtAddress local_target (V4 2130706433))
unfolding lib.Utf8.encode
local_at named h = h.2 ∙ ap (uri.Full container_address) (one_full container_address h.0 (AtAddress local_target (V4 2130706433)) h.1 local_named)
