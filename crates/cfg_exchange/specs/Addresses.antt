-- The addresses to which a container's credentials may be asked for without HTTPS.
use Rattle.std.specs.Prelude.{ℕ, ◌+◌, ◌*◌, ◌/◌, [], ◌∷◌, Bool, ◌||◌, nat_eq}
use Rattle.cfg_base.specs.Addresses.{number_of}
use Rattle.cfg_base.specs.declared.address.Address.{Address}
use Rattle.cfg_base.specs.declared.address.Address.TheVariants.{V4, V6}

-- the number of the address a.b.c.d
abbrev pub dotted : ℕ → ℕ → ℕ → ℕ → ℕ
dotted a b c d = ((a * 256 + b) * 256 + c) * 256 + d

-- 127.0.0.0/8: the first of the four numbers is 127
abbrev pub is_loopback_4 : ℕ → Bool
is_loopback_4 number = nat_eq (number / 16777216) 127

-- 127.0.0.0/8, 169.254.170.2 and 169.254.170.23; ::1 and fd00:ec2::23
abbrev pub is_allowed : Address → Bool
is_allowed (V4 number) = is_loopback_4 number || (nat_eq number (dotted 169 254 170 2) || nat_eq number (dotted 169 254 170 23))
is_allowed (V6 number) =
    nat_eq number (number_of (0 ∷ 0 ∷ 0 ∷ 0 ∷ 0 ∷ 0 ∷ 0 ∷ 1 ∷ []))
    || nat_eq number (number_of (0xfd00 ∷ 0x0ec2 ∷ 0 ∷ 0 ∷ 0 ∷ 0 ∷ 0 ∷ 0x23 ∷ []))
