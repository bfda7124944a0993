-- The values of outcomes are shallow, and have no floats.
use Rattle.std.proofs.Common.{◌≡◌, ℕ, suc, ◌≤◌, List, [], ◌∷◌, map, false, codes, ℤ, pos, negsuc, Ok, Err, lit≤, refl, le_trans, arith}
use Rattle.std.specs.Str.{encode_utf8_all}
use Rattle.serde_json.specs.Data.{Data, string, Items, depth, items_depth}
use Rattle.serde_json.specs.Read.{max_depth}
use Rattle.serde_json.specs.Written.{has_float, items_have_float}
use Rattle.cfg_base.specs.Moment.{Moment}
use Rattle.cfg_types.specs.Classes.{class_of, class_name}
use Rattle.cfg_types.specs.Keys.{Keys}
use Rattle.cfg_types.specs.declared.errors.CredentialsError.{CredentialsError}
use Rattle.cfg_providers.specs.CustomSources.{Answer}
use Rattle.cfg_chain.specs.Members.{name_of}
use Rattle.cfg_chain.specs.Settings.{ChainSetting}
use Rattle.cfg_explain.specs.Reasons.{reasons_of}
use Rattle.cfg_explain.specs.declared.reasons.PassedOver.{PassedOver}
use Rattle.cfg_error_report.specs.CredentialsCauses.{causes_of}
use Rattle.cfg_error_report.specs.Lines.{Line, one_line}
use Rattle.cfg_lines.specs.Members.{text_value, whole, signed, list_value, items_of}
use Rattle.cfg_lines.proofs.Members.{IsPlain, neither, object_plain, may_within}
use Rattle.cfg_drive.specs.Outcomes.{moment_value, cause_value, causes_value, passed_over_value, credentials_value, error_value, answer_value, outcome_value, broken_value}

word_within : (n : ℕ) (word : List ℕ) → IsPlain n (string word)
word_within n word = (omega arith, refl)

text_within : (n : ℕ) (text : List ℕ) → IsPlain n (text_value text)
unfolding text_value
text_within n text = (omega arith, refl)

signed_within : (n : ℕ) (z : ℤ) → IsPlain n (signed z)
signed_within n (pos k) = (omega arith, refl)
signed_within n (negsuc k) = (omega arith, refl)

abbrev AreWithin : ℕ → Items → Type 0
AreWithin n ds = (items_depth ds ≤ n) × (items_have_float ds ≡ false)

items_within : {A : Type 0} (of : A → Data) (n : ℕ) → ((a : A) → IsPlain n (of a)) → (xs : List A) → AreWithin n (items_of (map of xs))
items_within of n h [] = (omega arith, refl)
items_within of n h (x ∷ xs) =
    let rest = items_within of n h xs in
    let first : depth (of x) ≤ n = (h x).0 in
    let later : items_depth (items_of (map of xs)) ≤ n = rest.0 in
    (omega arith, neither (has_float (of x)) (items_have_float (items_of (map of xs))) (h x).1 rest.1)

list_within : {A : Type 0} (of : A → Data) (n : ℕ) → ((a : A) → IsPlain n (of a)) → (xs : List A) → IsPlain (suc n) (list_value of xs)
list_within of n h xs =
    let all = items_within of n h xs in
    let below : items_depth (items_of (map of xs)) ≤ n = all.0 in
    (omega arith, all.1)

moment_at : (z : ℤ) (nanos : ℕ) → IsPlain 1 (list_value (λ d. d) (signed z ∷ whole nanos ∷ []))
moment_at (pos k) nanos = (omega arith, refl)
moment_at (negsuc k) nanos = (omega arith, refl)

moment_within : (m : Moment) → IsPlain 1 (moment_value m)
unfolding moment_value
moment_within m = moment_at m.seconds m.nanos

cause_within : (cause : Line) → IsPlain 1 (cause_value cause)
unfolding cause_value
cause_within cause = (omega arith, refl)

causes_within : (e : CredentialsError) → IsPlain 2 (causes_value e)
unfolding causes_value
causes_within e = list_within cause_value 1 cause_within (causes_of e)

-- what is shallow is no deeper than more
deeper : (m n : ℕ) (d : Data) → m ≤ n → IsPlain m d → IsPlain n d
deeper m n d le h = (le_trans h.0 le, h.1)

passed_within : (p : PassedOver) → IsPlain 3 (passed_over_value p)
unfolding passed_over_value
passed_within p = object_plain 2 _ (word_within 2 (encode_utf8_all (name_of p.member)), (causes_within p.error, tt))

credentials_within : (passed : List PassedOver) (keys : Keys) (line : List ℕ) → IsPlain 5 (credentials_value passed keys line)
unfolding credentials_value
credentials_within passed keys line =
    object_plain 4 _ (
      word_within 4 (codes "credentials"),
      (
        text_within 4 keys.provider_name,
        (
          text_within 4 keys.access_key_id,
          (
            text_within 4 keys.secret_access_key,
            (
              may_within text_value 4 (text_within 4) keys.session_token,
              (
                may_within text_value 4 (text_within 4) keys.account_id,
                (
                  may_within moment_value 4 (λ m. deeper 1 4 (moment_value m) (lit≤ tt) (moment_within m)) keys.expiry,
                  (list_within passed_over_value 3 passed_within passed, (word_within 4 line, tt)),
                ),
              ),
            ),
          ),
        ),
      ),
    )

error_within : (passed : List PassedOver) (e : CredentialsError) (line : List ℕ) → IsPlain 5 (error_value passed e line)
unfolding error_value
error_within passed e line =
    object_plain 4 _ (
      word_within 4 (codes "error"),
      (
        word_within 4 (class_name (class_of e)),
        (
          word_within 4 (one_line (causes_of e)),
          (
            deeper 2 4 (causes_value e) (lit≤ tt) (causes_within e),
            (list_within passed_over_value 3 passed_within passed, (word_within 4 line, tt)),
          ),
        ),
      ),
    )

answer_within : (passed : List PassedOver) (out : Answer) (line : List ℕ) → IsPlain 5 (answer_value passed out line)
answer_within passed (Ok keys) line = credentials_within passed keys line
answer_within passed (Err e) line = error_within passed e line

pub outcome_plain : (over : ChainSetting) (out : Answer) (line : List ℕ) → IsPlain max_depth (outcome_value over out line)
outcome_plain over out line = deeper 5 max_depth (outcome_value over out line) (lit≤ tt) (answer_within (reasons_of over out).passed_over out line)

broken_within : (reason : List ℕ) → IsPlain 1 (broken_value reason)
unfolding broken_value
broken_within reason = object_plain 0 _ (word_within 0 (codes "broken"), (word_within 0 reason, tt))

pub broken_plain : (reason : List ℕ) → IsPlain max_depth (broken_value reason)
broken_plain reason = deeper 1 max_depth (broken_value reason) (lit≤ tt) (broken_within reason)
