-- The region that the instance metadata service tells.
use Rattle.std.specs.Prelude.{ℕ, List, Bool, false, Option, Some, None, option_map, Ok, Err, codes, if◌then◌else◌}
use Rattle.std.specs.Str.{encode_utf8_all, str_eq_ignore_ascii_case}
use Rattle.cfg_types.specs.Environment.{Variables, readable}
use Rattle.cfg_world.specs.Inquiry.{Inquiry, Done, after}
use Rattle.cfg_imds.specs.Clients.{ClientRules, get}
use Rattle.cfg_imds.specs.Settles.{Given, Settled}
use Rattle.cfg_imds.specs.Tokens.{Token}

abbrev pub is_true_text : Option (List ℕ) → Bool
is_true_text (Some text) = str_eq_ignore_ascii_case text (codes "true")
is_true_text None = false

-- metadata is switched off: the variable is `true`, ASCII case of letters apart
unfoldable pub is_disabled : Variables → Bool
is_disabled env = is_true_text (option_map encode_utf8_all (readable env (codes "AWS_EC2_METADATA_DISABLED")))

-- a region, and the token that is kept then
abbrev pub Located : Type 0
Located = Option (List ℕ) × Option Token

abbrev pub region_in : Given → Option (List ℕ)
region_in (Ok text) = Some text
region_in (Err e) = None

-- what a get leaves kept, and its text as a region
unfoldable pub located : Settled → Located
located out = (region_in out.0, out.1)

abbrev pub region_path : List ℕ
region_path = codes "/latest/meta-data/placement/region"

-- The region: none where metadata is switched off, and nothing is asked then; else the text at its path,
-- or none after an error.
unfoldable pub region : Bool → ClientRules → Option Token → Inquiry Located
region disabled client kept = if disabled then Done (None, kept) else after (get client kept region_path) (λ out. Done (located out))
