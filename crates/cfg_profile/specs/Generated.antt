-- A set of any number of profiles, each but the last a role over the next one.
use Rattle.std.specs.Prelude.{ℕ, zero, suc, ◌+◌, ◌-◌, ◌^◌, List, [], ◌∷◌, ◌++◌, false, codes}
use Rattle.std.specs.Fmt.{decimal, padded_integral, format_spec}
use Rattle.cfg_profile.specs.SectionParts.{SectionParts}
use Rattle.cfg_profile.specs.SectionSets.{SectionSets, set_of}

-- a number in at least twelve digits, as `{:012}` writes it
abbrev pub in_twelve_digits : ℕ → List ℕ
in_twelve_digits i = padded_integral (format_spec 32 0 4 12 (2 ^ 64 - 1)) false [] (decimal i)

abbrev pub profile_name : ℕ → List ℕ
profile_name i = codes "p" ++ decimal i

-- the profile of this number, a role over the next one
abbrev pub generated_role : ℕ → SectionParts
generated_role i = record {
  name = profile_name i;
  properties =
      (codes "role_arn", codes "arn:aws:iam::" ++ (in_twelve_digits i ++ (codes ":role/r" ++ decimal i)))
      ∷ (codes "source_profile", profile_name (i + 1))
      ∷ (codes "role_session_name", codes "s" ++ decimal i) ∷ [];
}

-- the profile of this number, with keys
abbrev pub generated_keys : ℕ → SectionParts
generated_keys i = record {
  name = profile_name i;
  properties = (codes "aws_access_key_id", codes "AK") ∷ (codes "aws_secret_access_key", codes "SK") ∷ [];
}

-- the roles of the numbers from 1 to this one
abbrev pub generated_roles : ℕ → List SectionParts
generated_roles zero = []
generated_roles (suc i) = generated_roles i ++ generated_role (suc i) ∷ []

-- The profiles `p1` to `pn`, of which `p1` is selected and `pn` has keys.
abbrev pub generated : ℕ → SectionSets
generated n = set_of (generated_roles (n - 1) ++ generated_keys n ∷ []) [] (codes "p1")
