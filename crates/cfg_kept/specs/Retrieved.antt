-- Credentials that were retrieved from the instance metadata service, and the rule by which three
-- receipts give them.
use Rattle.std.specs.Prelude.{◌≡◌, ℕ, ◌+◌, pos, List, [], ◌∷◌, Bool, true, false, not, nat_lt, int_lt, Option, Some, None, IfSome, is_some, unwrap_or, Result, Ok, Err, codes, if◌then◌else◌}
use Rattle.std.specs.Option.{option_to_list}
use Rattle.cfg_base.specs.Instant.{number}
use Rattle.cfg_base.specs.Moment.{Moment}
use Rattle.cfg_types.specs.Keys.{Keys}
use Rattle.cfg_types.specs.declared.errors.CredentialsError.{CredentialsError}
use Rattle.cfg_world.specs.declared.ask.Question.TheVariants.{Now, Jitter}
use Rattle.cfg_world.specs.Fits.{Pair}
use Rattle.cfg_world.specs.Leaves.{moment_of, jitter_of}
use Rattle.cfg_imds.specs.Fetches.{is_get, entry_fault}
use Rattle.cfg_imds.specs.Tokens.{later, in_ok}
use Rattle.cfg_kept.specs.RoleDocuments.{RoleKeys, role_document}

-- keys with the receipts from which they were read
pub record ReceiptedKeys : Type 0 where
  pub keys : Keys
  pub receipts : List Pair

-- its receipts are left aside
abbrev pub keys_of_retrieved : ReceiptedKeys → Keys
keys_of_retrieved r = r.keys

-- an expiry is not after a reading of the clock
abbrev pub is_due : Moment → Moment → Bool
is_due expiry now = not (int_lt (number now) (number expiry))

-- the last moment of all
abbrev pub last_moment : Moment
last_moment = record { seconds = pos 9223372036854775807; nanos = 999999999 }

-- so many seconds later, or the last moment of all
abbrev pub later_or_last : Moment → ℕ → Moment
later_or_last m seconds = unwrap_or (later m seconds) last_moment

-- for how many seconds more the keys of a document serve whose expiry has passed, and how many the
-- jitter may add
abbrev pub extension_seconds : ℕ
extension_seconds = 600

abbrev pub jitter_limit : ℕ
jitter_limit = 300

abbrev pub cut_jitter : ℕ → ℕ
cut_jitter jitter = if nat_lt jitter_limit jitter then jitter_limit else jitter

-- that much after a reading, and the jitter
abbrev pub extended : Moment → ℕ → Moment
extended now jitter = later_or_last now (extension_seconds + cut_jitter jitter)

-- the document's expiry, where no jitter was asked for; else a later one
abbrev pub expiry_by : Moment → Moment → Option Pair → Moment
expiry_by expiry now None = expiry
expiry_by expiry now (Some jitter) = extended now (jitter_of jitter.1)

-- the keys of a role until then, with no account and no features
abbrev pub keys_until : RoleKeys → Moment → Keys
keys_until role end = record {
  access_key_id = role.access_key_id;
  secret_access_key = role.secret_access_key;
  session_token = Some role.session_token;
  expiry = Some end;
  account_id = None;
  provider_name = codes "IMDSv2";
  features = [];
}

-- the keys of a role at a reading of the clock
abbrev pub keys_at : Pair → Option Pair → RoleKeys → Keys
keys_at reading jitter role = keys_until role (expiry_by role.expiry (moment_of reading.1) jitter)

-- the keys that a get, a reading of the clock and a jitter give, or why there are none
unfoldable pub retrieved_keys : Pair → Pair → Option Pair → Result Keys CredentialsError
retrieved_keys get reading jitter = in_ok (keys_at reading jitter) (role_document get)

abbrev pub needs_jitter : Result RoleKeys CredentialsError → Moment → Bool
needs_jitter (Ok role) now = is_due role.expiry now
needs_jitter (Err e) now = false

-- The receipts are those of a get of a path with which nothing is wrong, of a reading of the clock and, exactly
-- where the document's expiry is not after it, of a jitter; and the keys are what the rule reads from
-- them.
pub record IsRetrieved (r : ReceiptedKeys) : Type 0 where
  pub get : Pair
  pub reading : Pair
  pub jitter : Option Pair
  pub receipts : r.receipts ≡ get ∷ reading ∷ option_to_list jitter
  pub gets : is_get get.0 ≡ true
  pub success : entry_fault get ≡ None
  pub reads : reading.0 ≡ Now
  pub asks : IfSome jitter (λ e. e.0 ≡ Jitter)
  pub due : is_some jitter ≡ needs_jitter (role_document get) (moment_of reading.1)
  pub gives : retrieved_keys get reading jitter ≡ Ok r.keys
