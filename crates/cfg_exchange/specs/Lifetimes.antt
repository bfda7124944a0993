-- The lifetime of a metadata token, as its reply tells it.
use Rattle.std.specs.Prelude.{ℕ, ◌^◌, List, [], ◌∷◌, Bool, false, ◌&&◌, nat_lt, Option, Some, None, option_and_then, codes, if◌then◌else◌}
use Rattle.std.specs.List.{list_all}
use Rattle.std.specs.Char.{is_digit}
use Rattle.std.specs.Str.{encode_utf8_all}
use Rattle.std.specs.Str.Parse.{without_leading_plus, digits_value}
use Rattle.cfg_types.specs.declared.reply.http.HttpReply.{HttpReply}
use Rattle.cfg_types.specs.Headers.{header}

-- one decimal digit or more, and nothing else
abbrev pub are_digits : List ℕ → Bool
are_digits [] = false
are_digits (c ∷ text) = list_all (λ d. is_digit d 10) (c ∷ text)

abbrev pub below_64_bits : List ℕ → Option ℕ
below_64_bits digits = if are_digits digits && nat_lt (digits_value 10 digits) (2 ^ 64) then Some (digits_value 10 digits) else None

-- A whole number of 64 bits without sign, in decimal digits. A plus may stand before them.
abbrev pub number : List ℕ → Option ℕ
number text = below_64_bits (without_leading_plus text)

abbrev pub lifetime_header : List ℕ
lifetime_header = codes "x-aws-ec2-metadata-token-ttl-seconds"

abbrev pub number_in : List ℕ → Option ℕ
number_in value = number (encode_utf8_all value)

-- the seconds that the token of a reply lives, where the reply tells them
unfoldable pub lifetime : HttpReply → Option ℕ
lifetime reply = option_and_then number_in (header reply.headers lifetime_header)
