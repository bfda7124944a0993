-- The text of an address, and the number that it stands for (RFC 4291, section 2.2).
use Rattle.std.specs.Prelude.{◌≡◌, ℕ, ◌+◌, ◌*◌, ◌/◌, ◌%◌, ◌<◌, ◌≤◌, ◌⊎◌, List, [], ◌∷◌, ◌++◌, length, map, fold, replicate, codes, decimal, All}
use Rattle.std.specs.List.{join_with_byte}
use Rattle.std.specs.Str.Parse.{IsNumeral, digits_value}
use Rattle.cfg_base.specs.declared.address.Address.{Address}
use Rattle.cfg_base.specs.declared.address.Address.TheVariants.{V4, V6}

-- `:`
abbrev pub colon : ℕ
colon = 58

-- four numbers below 256, in decimal without leading zeros, joined by `.`; the first counts most
pub record IsIpv4Text (text : List ℕ) (number : ℕ) : Type 0 where
  pub a : ℕ
  pub b : ℕ
  pub c : ℕ
  pub d : ℕ
  pub below : (a < 256) × (b < 256) × (c < 256) × (d < 256)
  pub spelled : text ≡ decimal a ++ codes "." ++ decimal b ++ codes "." ++ decimal c ++ codes "."
      ++ decimal d
  pub value : number ≡ ((a * 256 + b) * 256 + c) * 256 + d

-- a group: one to four hexadecimal digits
abbrev pub IsGroup : List ℕ → Type 0
IsGroup text = IsNumeral 16 text × (length text ≤ 4)

-- the 16 bits that each group stands for
abbrev pub pieces : List (List ℕ) → List ℕ
pieces groups = map (digits_value 16) groups

-- groups joined by `:`, or nothing
pub record AreGroups (text values : List ℕ) : Type 0 where
  pub groups : List (List ℕ)
  pub each : All IsGroup groups
  pub joined : text ≡ join_with_byte colon groups
  pub stand_for : values ≡ pieces groups

-- groups and then an IPv4 text, joined by `:`; the IPv4 text stands for the last 32 bits
pub record EndInIpv4 (text values : List ℕ) : Type 0 where
  pub groups : List (List ℕ)
  pub last : List ℕ
  pub number : ℕ
  pub each : All IsGroup groups
  pub last_is : IsIpv4Text last number
  pub joined : text ≡ join_with_byte colon (groups ++ last ∷ [])
  pub stand_for : values ≡ pieces groups ++ (number / 65536) ∷ (number % 65536) ∷ []

-- groups joined by `:`, of which an IPv4 text may stand for the last two
abbrev pub AreLastGroups : List ℕ → List ℕ → Type 0
AreLastGroups text values = AreGroups text values ⊎ EndInIpv4 text values

-- the groups before `::` and the groups after it, with one group of zeros or more between them
pub record AreCompressed (text values : List ℕ) : Type 0 where
  pub before : List ℕ
  pub after : List ℕ
  pub first : List ℕ
  pub zeros : ℕ
  pub last : List ℕ
  pub spelled : text ≡ before ++ codes "::" ++ after
  pub before_groups : AreGroups before first
  pub after_groups : AreLastGroups after last
  pub some : 1 ≤ zeros
  pub stand_for : values ≡ first ++ replicate zeros 0 ++ last

-- the number of these pieces of 16 bits, of which the first counts most
abbrev pub number_of : List ℕ → ℕ
number_of values = fold (λ number piece. number * 65536 + piece) 0 values

-- eight groups, all written, or with `::` once in place of groups of zeros
pub record IsIpv6Text (text : List ℕ) (number : ℕ) : Type 0 where
  pub values : List ℕ
  pub groups : AreLastGroups text values ⊎ AreCompressed text values
  pub eight : length values ≡ 8
  pub value : number ≡ number_of values

-- the text stands for the address
abbrev pub IsAddress : List ℕ → Address → Type 0
IsAddress text (V4 number) = IsIpv4Text text number
IsAddress text (V6 number) = IsIpv6Text text number
