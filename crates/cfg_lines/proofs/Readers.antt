-- What a reader finds of a question in a value: of any value something, and of a question's own value the question.
use Rattle.std.proofs.Common.{◌≡◌, ℕ, ℤ, List, [], ◌∷◌, map, Bool, true, false, codes, Option, Some, None, IfSome, option_map, unwrap_or, cond, refl, ap, ◌∙◌}
use Rattle.std.specs.Prelude.{pos, negsuc}
use Rattle.std.specs.Result.{result_unwrap_or}
use Rattle.std.specs.Str.{is_utf8}
use Rattle.hex.specs.Hex.{IsBytes, decode_of, encode_lower}
use Rattle.hex.proofs.HexLemmas.{decode_of-encode_lower}
use Rattle.serde_json.specs.Data.{Data, null, boolean, string, object, Items, no_items, item, no_members, member}
use Rattle.serde_json.specs.Find.{get, as_str, as_array, as_bool, as_number, as_u64, as_integer}
use Rattle.cfg_base.specs.Text.{characters}
use Rattle.cfg_types.specs.Keys.{Keys}
use Rattle.cfg_types.specs.declared.settings.Timeouts.{Timeouts}
use Rattle.cfg_types.specs.declared.settings.CallSettings.{CallSettings}
use Rattle.cfg_types.specs.declared.request.sts.Tag.{Tag}
use Rattle.cfg_lines.specs.Members.{text_value, whole, signed, content_value, list_value, items_of}
use Rattle.cfg_lines.specs.Questions.{timeouts_value, settings_value, signer_value, tag_value, keys_alone}
use Rattle.cfg_lines.proofs.Texts.{text_back}
use Rattle.cfg_lines.proofs.Members.{or_other, get-object_with}

-- what stands at a name
abbrev pub Found : Type 0
Found = List ℕ → Option Data

abbrev pub or_null : Option Data → Data
or_null o = unwrap_or o null

abbrev pub found_in : Data → Found
found_in d = λ name. get name d

-- ---- values

abbrev pub string_in : Data → List ℕ
string_in d = unwrap_or (as_str d) []

unfoldable pub text_from : Data → List ℕ
text_from d = characters (string_in d)

abbrev pub number_from : Data → ℕ
number_from d = unwrap_or (option_map (λ n. unwrap_or (as_u64 n) 0) (as_number d)) 0

abbrev pub signed_from : Data → ℤ
signed_from d = unwrap_or (option_map (λ n. unwrap_or (as_integer n) (pos 0)) (as_number d)) (pos 0)

abbrev pub truth_from : Data → Bool
truth_from d = unwrap_or (as_bool d) false

abbrev pub digits_from : Data → List ℕ
digits_from d = result_unwrap_or (decode_of (string_in (or_null (get (codes "hex") d)))) []

unfoldable pub content_from : Data → List ℕ
content_from d = unwrap_or (as_str d) (digits_from d)

abbrev pub items_from : {A : Type 0} → (Data → A) → Items → List A
items_from back no_items = []
items_from back (item d ds) = back d ∷ items_from back ds

abbrev pub list_from : {A : Type 0} → (Data → A) → Data → List A
list_from back d = items_from back (unwrap_or (as_array d) no_items)

abbrev pub tag_of : List (List ℕ) → Tag
tag_of [] = record { key = []; value = [] }
tag_of (key ∷ []) = record { key = key; value = [] }
tag_of (key ∷ value ∷ rest) = record { key = key; value = value }

unfoldable pub tag_from : Data → Tag
tag_from d = tag_of (list_from text_from d)

abbrev pub timeouts_in : Found → Timeouts
timeouts_in f = record {
  connect_ms = option_map number_from (f (codes "connect_ms"));
  read_ms = option_map number_from (f (codes "read_ms"));
  operation_ms = option_map number_from (f (codes "operation_ms"));
  attempt_ms = option_map number_from (f (codes "attempt_ms"));
}

unfoldable pub timeouts_from : Data → Timeouts
timeouts_from d = timeouts_in (found_in d)

abbrev pub settings_in : Found → CallSettings
settings_in f = record {
  region = option_map text_from (f (codes "region"));
  use_fips = option_map truth_from (f (codes "use_fips"));
  use_dual_stack = option_map truth_from (f (codes "use_dual_stack"));
  max_attempts = number_from (or_null (f (codes "max_attempts")));
  timeouts = timeouts_from (or_null (f (codes "timeouts")));
}

unfoldable pub settings_from : Data → CallSettings
settings_from d = settings_in (found_in d)

abbrev pub signer_in : Found → Keys
signer_in f = record {
  access_key_id = text_from (or_null (f (codes "id")));
  secret_access_key = text_from (or_null (f (codes "secret")));
  session_token = option_map text_from (f (codes "token"));
  expiry = None;
  account_id = None;
  provider_name = [];
  features = [];
}

unfoldable pub signer_from : Data → Keys
signer_from d = signer_in (found_in d)

-- ---- values, read back

pub read_text : (t : List ℕ) → text_from (text_value t) ≡ t
unfolding text_from text_value
read_text t = text_back t

signed_back : (z : ℤ) → signed_from (signed z) ≡ z
signed_back (pos n) = refl
signed_back (negsuc n) = refl

content_at : (b : Bool) (bytes : List ℕ) → IsBytes bytes → content_from (cond b (string bytes) (object (member (codes "hex") (string (encode_lower bytes)) no_members))) ≡ bytes
unfolding content_from
content_at true bytes h = refl
content_at false bytes h = ap (λ r. result_unwrap_or r []) (decode_of-encode_lower bytes h)

pub read_content : (bytes : List ℕ) → IsBytes bytes → content_from (content_value bytes) ≡ bytes
unfolding content_value
read_content bytes h = content_at (is_utf8 bytes) bytes h

-- a member that may be left out
module _ {A : Type 0} (of : A → Data) (back : Data → A) (same : (a : A) → back (of a) ≡ a) where
  pub read_told : (told : Option A) → option_map back (or_other (option_map of told) None) ≡ told
  read_told None = refl
  read_told (Some a) = ap Some (same a)

  read_items : (xs : List A) → items_from back (items_of (map of xs)) ≡ xs
  read_items [] = refl
  read_items (x ∷ xs) = λ i. same x i ∷ read_items xs i

  pub read_list : (xs : List A) → list_from back (list_value of xs) ≡ xs
  read_list xs = read_items xs

pub read_told_text : (told : Option (List ℕ)) → option_map text_from (or_other (option_map text_value told) None) ≡ told
read_told_text = read_told text_value text_from read_text

pub read_told_number : (told : Option ℕ) → option_map number_from (or_other (option_map whole told) None) ≡ told
read_told_number = read_told whole number_from (λ n. refl)

pub read_told_signed : (told : Option ℤ) → option_map signed_from (or_other (option_map signed told) None) ≡ told
read_told_signed = read_told signed signed_from signed_back

read_told_truth : (told : Option Bool) → option_map truth_from (or_other (option_map boolean told) None) ≡ told
read_told_truth = read_told boolean truth_from (λ b. refl)

pub read_told_content : (told : Option (List ℕ)) → IfSome told IsBytes → option_map content_from (or_other (option_map content_value told) None) ≡ told
read_told_content None h = refl
read_told_content (Some bytes) h = ap Some (read_content bytes h)

read_tag : (tag : Tag) → tag_from (tag_value tag) ≡ tag
unfolding tag_from tag_value
read_tag tag = λ i. record { key = read_text tag.key i; value = read_text tag.value i }

pub read_told_texts : (told : Option (List (List ℕ))) → option_map (list_from text_from) (or_other (option_map (list_value text_value) told) None) ≡ told
read_told_texts = read_told (list_value text_value) (list_from text_from) (read_list text_value text_from read_text)

pub read_told_tags : (told : Option (List Tag)) → option_map (list_from tag_from) (or_other (option_map (list_value tag_value) told) None) ≡ told
read_told_tags = read_told (list_value tag_value) (list_from tag_from) (read_list tag_value tag_from read_tag)

pub read_timeouts : (limits : Timeouts) → timeouts_from (timeouts_value limits) ≡ limits
unfolding timeouts_from timeouts_value
read_timeouts limits = ap timeouts_in (get-object_with _) ∙ λ i. record {
  connect_ms = read_told_number limits.connect_ms i;
  read_ms = read_told_number limits.read_ms i;
  operation_ms = read_told_number limits.operation_ms i;
  attempt_ms = read_told_number limits.attempt_ms i;
}

pub read_settings : (settings : CallSettings) → settings_from (settings_value settings) ≡ settings
unfolding settings_from settings_value
read_settings settings = ap settings_in (get-object_with _) ∙ λ i. record {
  region = read_told_text settings.region i;
  use_fips = read_told_truth settings.use_fips i;
  use_dual_stack = read_told_truth settings.use_dual_stack i;
  max_attempts = settings.max_attempts;
  timeouts = read_timeouts settings.timeouts i;
}

pub read_signer : (keys : Keys) → signer_from (signer_value keys) ≡ keys_alone keys
unfolding signer_from signer_value
read_signer keys = ap signer_in (get-object_with _) ∙ λ i. record {
  access_key_id = read_text keys.access_key_id i;
  secret_access_key = read_text keys.secret_access_key i;
  session_token = read_told_text keys.session_token i;
  expiry = None;
  account_id = None;
  provider_name = [];
  features = [];
}
