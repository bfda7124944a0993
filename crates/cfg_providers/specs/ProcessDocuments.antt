-- What the document of a credential process says, as a function of its text.
use Rattle.std.specs.Prelude.{ℕ, ◌^◌, List, Bool, ◌&&◌, nat_lt, ℤ, pos, negsuc, Option, Some, None, option_map, if◌then◌else◌}
use Rattle.std.specs.Str.{encode_utf8_all}
use Rattle.std.specs.Str.Parse.{without_leading_sign, signed_digits_value}
use Rattle.cfg_types.specs.Keys.{Keys}
use Rattle.cfg_types.specs.Field.{field_name}
use Rattle.cfg_types.specs.declared.document.Field.TheVariants as field
use Rattle.cfg_json.specs.declared.member.Member.{Member}
use Rattle.cfg_json.specs.Lookups.{last_number}
use Rattle.cfg_json.specs.Documents.{Read, process_of, said_by}
use Rattle.cfg_exchange.specs.Lifetimes.{are_digits}

-- from -2^31 to 2^31 - 1; `negsuc n` is -(n + 1)
abbrev pub is_of_32_bits : ℤ → Bool
is_of_32_bits (pos n) = nat_lt n (2 ^ 31)
is_of_32_bits (negsuc n) = nat_lt n (2 ^ 31)

-- a whole number of 32 bits, in decimal digits behind a sign or without one
abbrev pub whole_number : List ℕ → Option ℤ
whole_number text = if are_digits (without_leading_sign text) && is_of_32_bits (signed_digits_value 10 text) then Some (signed_digits_value 10 text) else None

abbrev pub version_number : List ℕ → Option ℤ
version_number text = whole_number (encode_utf8_all text)

-- the version that a document names, if it names one, and its number, if it is one
abbrev pub version : List Member → Option (Option ℤ)
version members = option_map version_number (last_number (field_name field.Version) members)

-- what the members of a document say, for this account of a profile
abbrev pub process_table : Option (List ℕ) → List Member → Read Keys
process_table account members = process_of members (version members) account

-- What the document of a process says, for this account of a profile. A law of this crate ties it to
-- the grammar: it is the one answer of `parse_credential_process_json_credentials`.
unfoldable pub process_document : List ℕ → Option (List ℕ) → Read Keys
process_document text account = said_by (process_table account) text
