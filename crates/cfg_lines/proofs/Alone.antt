-- Lists with one item of what is asked are that item alone.
use Rattle.std.proofs.Common.{◌≡◌, ◌↔◌, ℕ, zero, suc, List, [], ◌∷◌, length, Bool, true, false, ◌||◌, bytes_eq, IsTrue, inl, inr, refl, sym, ap, ◌∙◌, eqb-true, arith}
use Rattle.std.specs.List.{list_any}
use Rattle.std.proofs.lemmas.Bool.{and_parts, or_cases}
use Rattle.std.proofs.lemmas.Slice.Eq.{bytes_eq-Decides}
use Rattle.cfg_types.specs.declared.request.Request.{Request}
use Rattle.cfg_types.specs.declared.request.Request.TheVariants as request
use Rattle.cfg_world.specs.declared.ask.Question.{Question}
use Rattle.cfg_world.specs.declared.ask.Question.TheVariants as question
use Rattle.cfg_world.specs.declared.script.DeviceLists.{DeviceLists}
use Rattle.cfg_world.specs.Script.{no_answers}
use Rattle.cfg_lines.specs.declared.items.Counts.{Counts}
use Rattle.cfg_lines.specs.Items.{none, has_reply_counts, has_counts, one_reply, has_one_item}
use Rattle.cfg_lines.specs.Alone.{Sent, reply_alone, IsOneItem}

-- ---- from counts to lists

-- so many items
record HasLengths (counts : Counts) (lists : DeviceLists) : Type 0 where
  files : length lists.files ≡ counts.files
  unwritable : length lists.unwritable ≡ counts.unwritable
  clock : length lists.clock ≡ counts.clock
  jitter : length lists.jitter ≡ counts.jitter
  commands : length lists.commands ≡ counts.commands
  lookups : length lists.lookups ≡ counts.lookups
  http : length lists.http ≡ counts.http
  imds_token : length lists.imds_token ≡ counts.imds_token
  imds_get : length lists.imds_get ≡ counts.imds_get
  assume_role : length lists.assume_role ≡ counts.assume_role
  web_identity : length lists.web_identity ≡ counts.web_identity
  role_credentials : length lists.role_credentials ≡ counts.role_credentials
  create_token : length lists.create_token ≡ counts.create_token
  sign_in : length lists.sign_in ≡ counts.sign_in

lengths : (counts : Counts) (lists : DeviceLists) → has_counts counts lists ≡ true → HasLengths counts lists
unfolding has_counts has_reply_counts
lengths counts lists h =
    let a6 = and_parts _ _ h in
    let a5 = and_parts _ _ a6.0 in
    let a4 = and_parts _ _ a5.0 in
    let a3 = and_parts _ _ a4.0 in
    let a2 = and_parts _ _ a3.0 in
    let a1 = and_parts _ _ a2.0 in
    let b7 = and_parts _ _ a6.1 in
    let b6 = and_parts _ _ b7.0 in
    let b5 = and_parts _ _ b6.0 in
    let b4 = and_parts _ _ b5.0 in
    let b3 = and_parts _ _ b4.0 in
    let b2 = and_parts _ _ b3.0 in
    let b1 = and_parts _ _ b2.0 in
    record {
      files = eqb-true (length lists.files) counts.files a1.0;
      unwritable = eqb-true (length lists.unwritable) counts.unwritable a1.1;
      clock = eqb-true (length lists.clock) counts.clock a2.1;
      jitter = eqb-true (length lists.jitter) counts.jitter a3.1;
      commands = eqb-true (length lists.commands) counts.commands a4.1;
      lookups = eqb-true (length lists.lookups) counts.lookups a5.1;
      http = eqb-true (length lists.http) counts.http b1.0;
      imds_token = eqb-true (length lists.imds_token) counts.imds_token b1.1;
      imds_get = eqb-true (length lists.imds_get) counts.imds_get b2.1;
      assume_role = eqb-true (length lists.assume_role) counts.assume_role b3.1;
      web_identity = eqb-true (length lists.web_identity) counts.web_identity b4.1;
      role_credentials = eqb-true (length lists.role_credentials) counts.role_credentials b5.1;
      create_token = eqb-true (length lists.create_token) counts.create_token b6.1;
      sign_in = eqb-true (length lists.sign_in) counts.sign_in b7.1;
    }

-- a list of so many items, where none are no list
abbrev kept : {A : Type 0} → ℕ → List A → List A
kept zero xs = []
kept (suc n) xs = xs

is_kept : {A : Type 0} (n : ℕ) (xs : List A) → length xs ≡ n → xs ≡ kept n xs
is_kept zero [] e = refl
is_kept zero (x ∷ xs) e = absurd (omega arith)
is_kept (suc n) xs e = refl

-- the lists with items, and the others empty
abbrev only : Counts → DeviceLists → DeviceLists
only counts lists = record {
  files = kept counts.files lists.files;
  unwritable = kept counts.unwritable lists.unwritable;
  clock = kept counts.clock lists.clock;
  jitter = kept counts.jitter lists.jitter;
  commands = kept counts.commands lists.commands;
  lookups = kept counts.lookups lists.lookups;
  http = kept counts.http lists.http;
  imds_token = kept counts.imds_token lists.imds_token;
  imds_get = kept counts.imds_get lists.imds_get;
  assume_role = kept counts.assume_role lists.assume_role;
  web_identity = kept counts.web_identity lists.web_identity;
  role_credentials = kept counts.role_credentials lists.role_credentials;
  create_token = kept counts.create_token lists.create_token;
  sign_in = kept counts.sign_in lists.sign_in;
}

is_only : (counts : Counts) (lists : DeviceLists) → HasLengths counts lists → lists ≡ only counts lists
is_only counts lists h = λ i. record {
  files = is_kept counts.files lists.files h.files i;
  unwritable = is_kept counts.unwritable lists.unwritable h.unwritable i;
  clock = is_kept counts.clock lists.clock h.clock i;
  jitter = is_kept counts.jitter lists.jitter h.jitter i;
  commands = is_kept counts.commands lists.commands h.commands i;
  lookups = is_kept counts.lookups lists.lookups h.lookups i;
  http = is_kept counts.http lists.http h.http i;
  imds_token = is_kept counts.imds_token lists.imds_token h.imds_token i;
  imds_get = is_kept counts.imds_get lists.imds_get h.imds_get i;
  assume_role = is_kept counts.assume_role lists.assume_role h.assume_role i;
  web_identity = is_kept counts.web_identity lists.web_identity h.web_identity i;
  role_credentials = is_kept counts.role_credentials lists.role_credentials h.role_credentials i;
  create_token = is_kept counts.create_token lists.create_token h.create_token i;
  sign_in = is_kept counts.sign_in lists.sign_in h.sign_in i;
}

single : {A : Type 0} (xs : List A) → length xs ≡ 1 → (x : A) × (xs ≡ x ∷ [])
single [] e = absurd (omega arith)
single (x ∷ []) e = (x, refl)
single (x ∷ y ∷ xs) e = absurd (omega arith)

-- one list with one item, and the others empty
one_of : {A : Type 0} (counts : Counts) (lists : DeviceLists) (xs : List A) (alone : List A → DeviceLists) → has_counts counts lists ≡ true
    → length xs ≡ 1 → only counts lists ≡ alone xs → (x : A) × (lists ≡ alone (x ∷ []))
one_of counts lists xs alone h one is =
    let x = single xs one in
    (x.0, is_only counts lists (lengths counts lists h) ∙ is ∙ ap alone x.1)

-- ---- one item

reply_is_alone : (r : Request) (lists : DeviceLists) → has_counts (one_reply r) lists ≡ true → (sent : Sent) × (lists ≡ reply_alone r sent)
reply_is_alone (request.Http call) lists h = let n = lengths _ lists h in one_of _ lists lists.http (λ xs. record no_answers { http = xs }) h n.http refl
reply_is_alone (request.MetadataToken call) lists h = let n = lengths _ lists h in one_of _ lists lists.imds_token (λ xs. record no_answers { imds_token = xs }) h n.imds_token refl
reply_is_alone (request.MetadataGet call) lists h = let n = lengths _ lists h in one_of _ lists lists.imds_get (λ xs. record no_answers { imds_get = xs }) h n.imds_get refl
reply_is_alone (request.AssumeRole call) lists h = let n = lengths _ lists h in one_of _ lists lists.assume_role (λ xs. record no_answers { assume_role = xs }) h n.assume_role refl
reply_is_alone (request.AssumeRoleWithWebIdentity call) lists h = let n = lengths _ lists h in one_of _ lists lists.web_identity (λ xs. record no_answers { web_identity = xs }) h n.web_identity refl
reply_is_alone (request.GetRoleCredentials call) lists h = let n = lengths _ lists h in one_of _ lists lists.role_credentials (λ xs. record no_answers { role_credentials = xs }) h n.role_credentials refl
reply_is_alone (request.CreateToken call) lists h = let n = lengths _ lists h in one_of _ lists lists.create_token (λ xs. record no_answers { create_token = xs }) h n.create_token refl
reply_is_alone (request.CreateOAuth2Token call) lists h = let n = lengths _ lists h in one_of _ lists lists.sign_in (λ xs. record no_answers { sign_in = xs }) h n.sign_in refl

-- the one that passes a test of names
first_named : (b : Bool) → (b || false) ≡ true → b ≡ true
first_named true e = refl
first_named false e = e

named : (one other : List ℕ) → (bytes_eq one other || false) ≡ true → one ≡ other
named one other e = (bytes_eq-Decides one other).0 (first_named (bytes_eq one other) e)

is_alone : (asked : Question) (lists : DeviceLists) → IsTrue (has_one_item asked lists) → IsOneItem asked lists
unfolding has_one_item
is_alone question.Now lists h = let n = lengths _ lists h in one_of _ lists lists.clock (λ xs. record no_answers { clock = xs }) h n.clock refl
is_alone question.Jitter lists h = let n = lengths _ lists h in one_of _ lists lists.jitter (λ xs. record no_answers { jitter = xs }) h n.jitter refl
is_alone (question.Read path) lists h =
    let parts = and_parts _ _ h in
    let n = lengths (record none { files = 1 }) lists parts.0 in
    let file = one_of (record none { files = 1 }) lists lists.files (λ xs. record no_answers { files = xs }) parts.0 n.files refl in
    let same : file.0.0 ≡ path = named file.0.0 path (sym (ap (λ (l : DeviceLists). list_any (λ f. bytes_eq f.0 path) l.files) file.1) ∙ parts.1) in
    (file.0.1, file.1 ∙ ap (λ p. record no_answers { files = (p, file.0.1) ∷ [] }) same)
is_alone (question.Write path bytes) lists h = elim (or_cases _ _ h) [
  | inl granted ↦ inl (is_only none lists (lengths none lists granted))
  | inr refused ↦
      let parts = and_parts _ _ refused in
      let n = lengths (record none { unwritable = 1 }) lists parts.0 in
      let item = one_of (record none { unwritable = 1 }) lists lists.unwritable (λ xs. record no_answers { unwritable = xs }) parts.0 n.unwritable refl in
      let same : item.0 ≡ path = named item.0 path (sym (ap (λ (l : DeviceLists). list_any (λ p. bytes_eq p path) l.unwritable) item.1) ∙ parts.1) in
      inr (item.1 ∙ ap (λ p. record no_answers { unwritable = p ∷ [] }) same)
]
is_alone (question.Run command) lists h = let n = lengths _ lists h in one_of _ lists lists.commands (λ xs. record no_answers { commands = xs }) h n.commands refl
is_alone (question.LookUp host) lists h = let n = lengths _ lists h in one_of _ lists lists.lookups (λ xs. record no_answers { lookups = xs }) h n.lookups refl
is_alone (question.Send r) lists h = reply_is_alone r lists h

-- ---- and back

itself : (path : List ℕ) → (bytes_eq path path || false) ≡ true
itself path = ap (λ b. b || false) ((bytes_eq-Decides path path).1 refl)

reply_counts : (r : Request) (sent : Sent) → has_counts (one_reply r) (reply_alone r sent) ≡ true
unfolding has_counts has_reply_counts
reply_counts (request.Http call) sent = refl
reply_counts (request.MetadataToken call) sent = refl
reply_counts (request.MetadataGet call) sent = refl
reply_counts (request.AssumeRole call) sent = refl
reply_counts (request.AssumeRoleWithWebIdentity call) sent = refl
reply_counts (request.GetRoleCredentials call) sent = refl
reply_counts (request.CreateToken call) sent = refl
reply_counts (request.CreateOAuth2Token call) sent = refl

has_one : (asked : Question) (lists : DeviceLists) → IsOneItem asked lists → IsTrue (has_one_item asked lists)
unfolding has_one_item has_counts has_reply_counts
has_one question.Now lists h = ap (has_one_item question.Now) h.1
has_one question.Jitter lists h = ap (has_one_item question.Jitter) h.1
has_one (question.Read path) lists h = ap (has_one_item (question.Read path)) h.1 ∙ itself path
has_one (question.Write path bytes) lists (inl granted) = ap (has_one_item (question.Write path bytes)) granted
has_one (question.Write path bytes) lists (inr refused) = ap (has_one_item (question.Write path bytes)) refused ∙ itself path
has_one (question.Run command) lists h = ap (has_one_item (question.Run command)) h.1
has_one (question.LookUp host) lists h = ap (has_one_item (question.LookUp host)) h.1
has_one (question.Send r) lists h = ap (has_one_item (question.Send r)) h.1 ∙ reply_counts r h.0

pub one_item_alone : (asked : Question) (lists : DeviceLists) → IsTrue (has_one_item asked lists) ↔ IsOneItem asked lists
one_item_alone asked lists = (is_alone asked lists, has_one asked lists)
