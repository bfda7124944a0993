-- What every outcome of a load satisfies.
use Rattle.std.proofs.Common.{◌≡◌, ℕ, zero, suc, Bool, true, false, not, ◌&&◌, cond, List, [], ◌∷◌, ◌++◌, Option, Some, None, IfSome, Result, Ok, Err, slice_get, append-nil, refl, sym, ◌∙◌, ap, subst, arith}
use Rattle.cfg_world.specs.declared.ask.Answer.{Answer}
use Rattle.cfg_world.specs.declared.ask.Answer.TheVariants as answer
use Rattle.cfg_world.specs.Fits.{Pair}
use Rattle.cfg_world.specs.Inquiry.{Inquiry, Done, Ask, Reads, after}
use Rattle.cfg_token.specs.declared.token_key.TokenKey.{TokenKey}
use Rattle.cfg_types.specs.Environment.{Variables}
use Rattle.cfg_base.specs.Moment.{Moment}
use Rattle.cfg_types.specs.declared.settings.CallSettings.{CallSettings}
use Rattle.cfg_token.specs.declared.file_token.Renewal.{Renewal}
use Rattle.cfg_token.specs.declared.file_token.Renewal.TheVariants.{Granted, Passed, Refused}
use Rattle.cfg_token.specs.declared.file_token.Unsaved.{Unsaved}
use Rattle.cfg_token.specs.declared.file_token.Unsaved.TheVariants.{NoText, NotWritten}
use Rattle.cfg_token.specs.declared.decision.Decision.{Decision}
use Rattle.cfg_token.specs.declared.decision.Decision.TheVariants.{Use, Refresh, Refuse}
use Rattle.cfg_token.specs.declared.loading.Loaded.{Loaded}
use Rattle.cfg_token.specs.declared.sections.Sectioned.{Sectioned}
use Rattle.cfg_token.specs.declared.sections.Sectioned.TheVariants.{Hit, Load}
use Rattle.cfg_token.specs.Rules.{Rules, Tells}
use Rattle.cfg_token.specs.Moments.{is_before, buffer_seconds, seconds_between_attempts, may_attempt}
use Rattle.cfg_token.specs.Decisions.{is_expired, outlasts_buffer, ends_soon, decision}
use Rattle.cfg_token.specs.Sections
use Rattle.cfg_token.specs.Sections.{ok_of}
use Rattle.cfg_world.specs.Leaves.{clock, moment_of}
use Rattle.cfg_token.specs.Spacing.{EndsAfterReading, second_reading, attempts, Spaced, NotedAtReading}
use Rattle.cfg_token.specs.Histories.{FinishedLoad, IsLoad, Machine}
use Rattle.cfg_token.specs.SectionCalls.{is_memory}
use Rattle.std.specs.Option.{option_to_list, option_or}
use Rattle.std.specs.Prelude.{ℤ, ◌+ℤ◌, ◌≤ℤ◌, int_lt, IfOk}
use Rattle.cfg_base.specs.Instant.{number, nanos_in}
use Rattle.std.proofs.lemmas.Int.{ints}
use Rattle.cfg_world.specs.declared.ask.Question.TheVariants as question

-- Whatever is answered, the part and the outcome satisfy P.
abbrev pub Gives : {R : Type 0} → Inquiry R → (List Pair → R → Type 0) → Type 0
Gives (Done r) P = P [] r
Gives (Ask q next) P = (a : Answer) → Gives (next a) (λ J out. P ((q, a) ∷ J) out)

pub gives_reads : {R : Type 0} (p : Inquiry R) (P : List Pair → R → Type 0) (J : List Pair) (out : R) → Gives p P → Reads p J out → P J out
gives_reads (Done r) P [] out g h = subst (λ x. P [] x) h g
gives_reads (Done r) P (e ∷ J) out g h = absurd h
gives_reads (Ask q next) P [] out g h = absurd h
gives_reads (Ask q next) P (e ∷ J) out g h =
    subst (λ x. P ((x, e.1) ∷ J) out) (sym h.0) (gives_reads (next e.1) (λ K o. P ((q, e.1) ∷ K) o) J out (g e.1) h.1)

pub gives_after : {A B : Type 0} (p : Inquiry A) (f : A → Inquiry B) (Q : List Pair → A → Type 0) (P : List Pair → B → Type 0) →
    Gives p Q → ((J : List Pair) (x : A) → Q J x → Gives (f x) (λ K out. P (J ++ K) out)) → Gives (after p f) P
gives_after (Done x) f Q P g h = h [] x g
gives_after (Ask q next) f Q P g h = λ a. gives_after (next a) f (λ J x. Q ((q, a) ∷ J) x) (λ J out. P ((q, a) ∷ J) out) (g a) (λ J x k. h ((q, a) ∷ J) x k)

-- not that memory ran out
abbrev pub NoMemory : {T E : Type 0} → Rules T E → Result T E → Type 0
NoMemory t (Ok token) = Unit {0}
NoMemory t (Err e) = t.is_memory e ≡ false

-- a load that notes at most this reading, and whose token ends after it
pub record Sound {T E : Type 0} (t : Rules T E) (now : Moment) (l : Loaded T E) : Type 0 where
  pub noted : IfSome l.noted (λ n. now ≡ n)
  pub tells : NoMemory t l.outcome
  pub lasts : IfOk l.outcome (λ token. is_before now (t.expiry token) ≡ true)

module _ {T E : Type 0} (t : Rules T E) (tells : Tells t) where
  unsaved_sound : (fault : Unsaved) (now : Moment) (token : T) (e : Option E) → is_before now (t.expiry token) ≡ true → t.unsaved fault ≡ e → Sound t now (Sections.or_unsaved t now token e)
  unsaved_sound fault now token None later is = record { noted = refl; tells = tt; lasts = later }
  unsaved_sound fault now token (Some e) later is = record { noted = tt; tells = tells.unsaved fault e is; lasts = tt }

  written_sound : (path : List ℕ) (now : Moment) (token : T) (a : Answer) → is_before now (t.expiry token) ≡ true → Sound t now (Sections.written t path now token a)
  written_sound path now token answer.Written later = record { noted = refl; tells = tt; lasts = later }
  written_sound path now token (answer.Moment m) later = unsaved_sound (NotWritten path) now token _ later refl
  written_sound path now token (answer.Jitter n) later = unsaved_sound (NotWritten path) now token _ later refl
  written_sound path now token (answer.Contents bytes) later = unsaved_sound (NotWritten path) now token _ later refl
  written_sound path now token (answer.Finished finished) later = unsaved_sound (NotWritten path) now token _ later refl
  written_sound path now token (answer.Addresses addresses) later = unsaved_sound (NotWritten path) now token _ later refl
  written_sound path now token (answer.Replied reply) later = unsaved_sound (NotWritten path) now token _ later refl
  written_sound path now token (answer.Failed kind) later = unsaved_sound (NotWritten path) now token _ later refl

  saves_sound : (path : List ℕ) (now : Moment) (token : T) → is_before now (t.expiry token) ≡ true → Gives (Sections.saves t path now token) (λ J l. Sound t now l)
  unfolding Sections.saves
  saves_sound path now token later = by_text (t.text token)
    where
      by_text : (text : Option (List ℕ)) → Gives (Sections.saves_text t path now token text) (λ J l. Sound t now l)
      by_text None = unsaved_sound NoText now token _ later refl
      by_text (Some text) = λ a. written_sound path now token a later

  lasting_tells : (file : T) (now : Moment) → NoMemory t (Sections.while_it_lasts t file now)
  lasting_tells file now = either_way (is_expired t file now)
    where
      either_way : (b : Bool) → NoMemory t (cond b (Err t.expired) (Ok file))
      either_way true = tells.expired
      either_way false = tt

  lasting_lasts : (file : T) (now : Moment) → IfOk (Sections.while_it_lasts t file now) (λ token. is_before now (t.expiry token) ≡ true)
  lasting_lasts file now = either_way (is_before now (t.expiry file)) refl
    where
      either_way : (b : Bool) → is_before now (t.expiry file) ≡ b → IfOk (cond (not b) (Err t.expired) (Ok file)) (λ token. is_before now (t.expiry token) ≡ true)
      either_way true e = e
      either_way false e = tt

  renews_sound : (key : TokenKey) (path : List ℕ) (file : T) (now : Moment) (a : Answer) (r : Renewal T E) → t.renewal key file now a ≡ r → Gives (Sections.renews t path file now r) (λ J l. Sound t now l)
  renews_sound key path file now a (Granted token) is = saves_sound path now token (tells.granted key file now a token is)
  renews_sound key path file now a Passed is = record { noted = refl; tells = lasting_tells file now; lasts = lasting_lasts file now }
  renews_sound key path file now a (Refused e noted) is = record { noted = either_way noted; tells = tells.renewal key file now a e noted is; lasts = tt }
    where
      either_way : (b : Bool) → IfSome (cond b (Some now) None) (λ n. now ≡ n)
      either_way true = refl
      either_way false = tt

  refreshes_sound : (key : TokenKey) (settings : CallSettings) (path : List ℕ) (file : T) (now : Moment) → Gives (Sections.refreshes t key settings path file now) (λ J l. Sound t now l)
  unfolding Sections.refreshes Sections.asks_renewal
  refreshes_sound key settings path file now = λ a. renews_sound key path file now a _ refl

pub gives_more : {R : Type 0} (p : Inquiry R) (P Q : List Pair → R → Type 0) → ((J : List Pair) (x : R) → P J x → Q J x) → Gives p P → Gives p Q
gives_more (Done r) P Q f g = f [] r g
gives_more (Ask q next) P Q f g = λ a. gives_more (next a) (λ J x. P ((q, a) ∷ J) x) (λ J x. Q ((q, a) ∷ J) x) (λ J x. f ((q, a) ∷ J) x) (g a)

-- What is refreshed is long enough after the last attempt.
refreshed : (expired soon can passed : Bool) → cond (expired && not (can && passed)) Refuse (cond (soon && (can && passed)) Refresh Use) ≡ Refresh → passed ≡ true
refreshed expired soon can true h = refl
refreshed true soon true false h = cc
refreshed true soon false false h = cc
refreshed false true true false h = cc
refreshed false true false false h = cc
refreshed false false can false h = cc

-- What is used has not expired.
used : (expired soon can : Bool) → (expired ≡ true → soon ≡ true) → cond (expired && not can) Refuse (cond (soon && can) Refresh Use) ≡ Use → expired ≡ false
used false soon can s h = refl
used true soon false s h = cc
used true true true s h = cc
used true false true s h = absurd (no (s refl))
  where
    no : false ≡ true → ⊥
    no e = cc

soon_too : (now end : ℤ) → not (int_lt now end) ≡ true → not (int_lt (now +ℤ nanos_in buffer_seconds) end) ≡ true
soon_too now end h = by (int_lt now end) (int_lt (now +ℤ nanos_in buffer_seconds) end) refl refl h
  where
    by : (a b : Bool) → int_lt now end ≡ a → int_lt (now +ℤ nanos_in buffer_seconds) end ≡ b → not a ≡ true → not b ≡ true
    by true b e f k = cc
    by false true e f k = absurd (omega (arith, ints, e, f))
    by false false e f k = refl

not_not : (b : Bool) → not b ≡ false → b ≡ true
not_not true h = refl
not_not false h = cc

-- a load that notes its second reading, and only where the last attempt is long enough ago
pub record Fair {T E : Type 0} (t : Rules T E) (last : Option Moment) (part : List Pair) (l : Loaded T E) : Type 0 where
  pub tells : NoMemory t l.outcome
  pub passed : IfSome l.noted (λ now. may_attempt last now ≡ true)
  pub reading : (first : Pair) → IfSome l.noted (λ now. second_reading (first ∷ part) ≡ now)
  pub lasts : (first : Pair) → IfOk l.outcome (λ token. is_before (second_reading (first ∷ part)) (t.expiry token) ≡ true)

module _ {T E : Type 0} (t : Rules T E) (tells : Tells t) where
  fair_error : (last : Option Moment) (part : List Pair) (e : E) → t.is_memory e ≡ false → Fair t last part (Sections.gives (Err e) None)
  fair_error last part e h = record { tells = h; passed = tt; reading = λ first. tt; lasts = λ first. tt }

  -- a refresh at this reading
  fair_refresh : (last : Option Moment) (file : Pair) (second : Pair) (rest : List Pair) (l : Loaded T E) → may_attempt last (moment_of second.1) ≡ true →
      Sound t (moment_of second.1) l → Fair t last (file ∷ second ∷ rest) l
  fair_refresh last file second rest l h s = record { tells = s.tells; passed = noted_passed l.noted s.noted; reading = λ first. s.noted; lasts = λ first. s.lasts }
    where
      noted_passed : (o : Option Moment) → IfSome o (λ n. moment_of second.1 ≡ n) → IfSome o (λ now. may_attempt last now ≡ true)
      noted_passed None k = tt
      noted_passed (Some n) k = ap (may_attempt last) (sym k) ∙ h

  decides_fair : (key : TokenKey) (settings : CallSettings) (last : Option Moment) (path : List ℕ) (file : T) (read second : Pair) (d : Decision) →
      decision t file last (moment_of second.1) ≡ d →
      Gives (Sections.decides t key settings path file (moment_of second.1) d) (λ J l. Fair t last (read ∷ second ∷ J) l)
  decides_fair key settings last path file read second Refuse is = fair_error last (read ∷ second ∷ []) t.expired tells.expired
  decides_fair key settings last path file read second Use is =
      let now = moment_of second.1 in
      let fresh : is_expired t file now ≡ false = used (is_expired t file now) (ends_soon t file now) (t.refreshable file now && may_attempt last now) (λ e. soon_too (number now) (number (t.expiry file)) e) is in
      record { tells = tt; passed = tt; reading = λ first. tt; lasts = λ first. not_not (is_before now (t.expiry file)) fresh }
  decides_fair key settings last path file read second Refresh is =
      let now = moment_of second.1 in
      let h = refreshed (is_expired t file now) (ends_soon t file now) (t.refreshable file now) (may_attempt last now) is in
      gives_more (Sections.refreshes t key settings path file now) (λ J l. Sound t now l) (λ J l. Fair t last (read ∷ second ∷ J) l) (λ J l s. fair_refresh last read second J l h s) (refreshes_sound t tells key settings path file now)

  unread_tells : (path : List ℕ) (e : E) → (let r : Result T E = Err (t.unread path) in r) ≡ Err e → t.is_memory e ≡ false
  unread_tells path e h = rw (err_is h) (tells.unread path)
    where
      err_is : (let r : Result T E = Err (t.unread path) in r) ≡ Err e → e ≡ t.unread path
      err_is h = cc

  read_tells : (path : List ℕ) (a : Answer) (e : E) → Sections.read_as t path a ≡ Err e → t.is_memory e ≡ false
  read_tells path (answer.Contents bytes) e h = tells.reading bytes e h
  read_tells path answer.Written e h = unread_tells path e h
  read_tells path (answer.Moment m) e h = unread_tells path e h
  read_tells path (answer.Jitter n) e h = unread_tells path e h
  read_tells path (answer.Finished finished) e h = unread_tells path e h
  read_tells path (answer.Addresses addresses) e h = unread_tells path e h
  read_tells path (answer.Replied reply) e h = unread_tells path e h
  read_tells path (answer.Failed kind) e h = unread_tells path e h

  pub load_fair : (key : TokenKey) (env : Variables) (settings : CallSettings) (last : Option Moment) → Gives (Sections.load t key env settings last) (λ J l. Fair t last J l)
  unfolding Sections.load Sections.file Sections.judges clock
  load_fair key env settings last = by_path (t.path key env) refl
    where
      by_file : (path : List ℕ) (read : Pair) (r : Result T E) → ((e : E) → r ≡ Err e → t.is_memory e ≡ false) →
          Gives (Sections.judges_file t key settings last path r) (λ J l. Fair t last (read ∷ J) l)
      by_file path read (Err e) h = fair_error last (read ∷ []) e (h e refl)
      by_file path read (Ok file) h = λ a. decides_fair key settings last path file read (question.Now, a) _ refl

      by_path : (p : Result (List ℕ) E) → t.path key env ≡ p → Gives (Sections.loads_from t key settings last p) (λ J l. Fair t last J l)
      by_path (Err e) is = fair_error last [] e (tells.path key env e is)
      by_path (Ok path) is = λ a. by_file path (question.Read path, a) _ (λ e h. read_tells path a e h)

-- each attempt is long enough after the one before
abbrev pub Chain : Option Moment → List Moment → Type 0
Chain last [] = Unit {0}
Chain last (n ∷ ns) = (may_attempt last n ≡ true) × Chain (Some n) ns

chain_note : (last noted : Option Moment) (ns : List Moment) → IfSome noted (λ n. may_attempt last n ≡ true) → Chain (option_or noted last) ns → Chain last (option_to_list noted ++ ns)
chain_note last None ns h k = k
chain_note last (Some n) ns h k = (h, k)

not_below : (x y : ℤ) → not (int_lt x y) ≡ true → y ≤ℤ x
not_below x y h = by (int_lt x y) refl h
  where
    by : (t : Bool) → int_lt x y ≡ t → not t ≡ true → y ≤ℤ x
    by true e k = cc
    by false e k = omega (arith, ints)

further : (x y z : ℤ) → x ≤ℤ y → (y +ℤ nanos_in seconds_between_attempts) ≤ℤ z → x ≤ℤ z
further x y z h k = omega (arith, ints)

-- the last attempt and a later one
passed_after : (l n a : Moment) → may_attempt (Some l) n ≡ true → n ≡ a → (number l +ℤ nanos_in seconds_between_attempts) ≤ℤ number a
passed_after l n a h e = subst (λ x. (number l +ℤ nanos_in seconds_between_attempts) ≤ℤ number x) e (not_below (number n) (number l +ℤ nanos_in seconds_between_attempts) h)

later : (l n a : Moment) → may_attempt (Some l) n ≡ true → (number n +ℤ nanos_in seconds_between_attempts) ≤ℤ number a → (number l +ℤ nanos_in seconds_between_attempts) ≤ℤ number a
later l n a h k = further (number l +ℤ nanos_in seconds_between_attempts) (number n) (number a) (not_below (number n) (number l +ℤ nanos_in seconds_between_attempts) h) k

chain_after : (l : Moment) (ns : List Moment) → Chain (Some l) ns → (i : ℕ) (a : Moment) → slice_get ns i ≡ Some a → (number l +ℤ nanos_in seconds_between_attempts) ≤ℤ number a
chain_after l [] h i a at = cc
chain_after l (n ∷ ns) h zero a at = passed_after l n a h.0 (some_is at)
  where
    some_is : Some n ≡ Some a → n ≡ a
    some_is e = cc
chain_after l (n ∷ ns) h (suc i) a at = later l n a h.0 (chain_after n ns h.1 i a at)

chain_spaced : (last : Option Moment) (ns : List Moment) → Chain last ns → Spaced ns
chain_spaced last [] h i j a b lt x y = cc
chain_spaced last (n ∷ ns) h i zero a b lt x y = absurd (omega (arith, lt))
chain_spaced last (n ∷ ns) h zero (suc j) a b lt x y = some_first x (chain_after n ns h.1 j b y)
  where
    some_first : Some n ≡ Some a → (number n +ℤ nanos_in seconds_between_attempts) ≤ℤ number b → (number a +ℤ nanos_in seconds_between_attempts) ≤ℤ number b
    some_first e k = let same : n ≡ a = cc in subst (λ z. (number z +ℤ nanos_in seconds_between_attempts) ≤ℤ number b) same k
chain_spaced last (n ∷ ns) h (suc i) (suc j) a b lt x y = chain_spaced (Some n) ns h.1 i j a b (omega (arith, lt)) x y

all_spaced : (last : Option Moment) (ns : List Moment) → Chain last ns → Spaced (option_to_list last ++ ns)
all_spaced None ns h = chain_spaced None ns h
all_spaced (Some l) ns h = chain_spaced None (l ∷ ns) (refl, h)

-- the same of a section that made a load
abbrev pub FairSection : {T E : Type 0} → Rules T E → Option Moment → List Pair → Sectioned T E → Type 0
FairSection t last [] s = ⊥
FairSection t last (first ∷ J) (Hit token) = Unit {0}
FairSection t last (first ∷ J) (Load l) = Fair t last J l

module _ {T E : Type 0} (t : Rules T E) (tells : Tells t) where
  loaded_fair : (key : TokenKey) (env : Variables) (settings : CallSettings) (last : Option Moment) (first : Pair) →
      Gives (after (Sections.load t key env settings last) (λ l. Done (Load l))) (λ J s. FairSection t last (first ∷ J) s)
  loaded_fair key env settings last first =
      gives_after (Sections.load t key env settings last) (λ l. Done (Load l)) (λ J l. Fair t last J l) (λ J s. FairSection t last (first ∷ J) s) (load_fair t tells key env settings last)
      (λ J l h. subst (λ K. Fair t last K l) (sym (append-nil J)) h)

  pub section_fair : (key : TokenKey) (env : Variables) (settings : CallSettings) (kept : Option T) (last : Option Moment) → Gives (Sections.section t key env settings kept last) (λ J s. FairSection t last J s)
  unfolding Sections.section clock Sections.by_reading
  section_fair key env settings None last = λ a. loaded_fair key env settings last (question.Now, a)
  section_fair key env settings (Some token) last = λ a. either_way (question.Now, a) (outlasts_buffer t token (moment_of a))
    where
      either_way : (first : Pair) (fresh : Bool) → Gives (cond fresh (Done (Hit token)) (after (Sections.load t key env settings last) (λ l. Done (Load l)))) (λ J s. FairSection t last (first ∷ J) s)
      either_way first true = tt
      either_way first false = loaded_fair key env settings last first

  -- a record that is a load
  record_fair : (kept : Option T) (last : Option Moment) (r : FinishedLoad T E) → IsLoad t kept last r → FairSection t last r.receipts (Load (Sections.gives r.outcome r.noted))
  record_fair kept last r i =
      gives_reads (Sections.section t i.key i.env i.settings kept last) (λ J s. FairSection t last J s) r.receipts _ (section_fair i.key i.env i.settings kept last) i.reads

  record_passed : (last : Option Moment) (receipts : List Pair) (l : Loaded T E) → FairSection t last receipts (Load l) → IfSome l.noted (λ now. may_attempt last now ≡ true)
  record_passed last [] l h = absurd h
  record_passed last (e ∷ receipts) l h = h.passed

  record_reading : (last : Option Moment) (receipts : List Pair) (l : Loaded T E) → FairSection t last receipts (Load l) → IfSome l.noted (λ now. second_reading receipts ≡ now)
  record_reading last [] l h = absurd h
  record_reading last (e ∷ receipts) l h = h.reading e

  record_lasts : (last : Option Moment) (receipts : List Pair) (l : Loaded T E) → FairSection t last receipts (Load l) → IfOk l.outcome (λ token. is_before (second_reading receipts) (t.expiry token) ≡ true)
  record_lasts last [] l h = absurd h
  record_lasts last (e ∷ receipts) l h = h.lasts e

  chain_of : (kept : Option T) (last : Option Moment) (records : List (FinishedLoad T E)) → Machine t kept last records → Chain last (attempts records)
  chain_of kept last [] m = tt
  chain_of kept last (r ∷ records) m = chain_note last r.noted (attempts records) (record_passed last r.receipts _ (record_fair kept last r m.0)) (chain_of (ok_of r.outcome) (option_or r.noted last) records m.1)

  pub spaced : (kept : Option T) (last : Option Moment) (records : List (FinishedLoad T E)) → Machine t kept last records → Spaced (option_to_list last ++ attempts records)
  spaced kept last records m = all_spaced last (attempts records) (chain_of kept last records m)

  pub noted_at_reading : (kept : Option T) (last : Option Moment) (records : List (FinishedLoad T E)) → Machine t kept last records → (i : ℕ) (r : FinishedLoad T E) → slice_get records i ≡ Some r → NotedAtReading r
  noted_at_reading kept last [] m i r at = cc
  noted_at_reading kept last (x ∷ records) m zero r at = subst NotedAtReading (first_is at) (record_reading last x.receipts _ (record_fair kept last x m.0))
    where
      first_is : Some x ≡ Some r → x ≡ r
      first_is e = cc
  noted_at_reading kept last (x ∷ records) m (suc i) r at = noted_at_reading (ok_of x.outcome) (option_or x.noted last) records m.1 i r at

  pub ends_after_reading : (kept : Option T) (last : Option Moment) (records : List (FinishedLoad T E)) → Machine t kept last records → (i : ℕ) (r : FinishedLoad T E) → slice_get records i ≡ Some r → EndsAfterReading t r
  ends_after_reading kept last [] m i r at = cc
  ends_after_reading kept last (x ∷ records) m zero r at = subst (λ (x : FinishedLoad T E). EndsAfterReading t x) (first_is at) (record_lasts last x.receipts _ (record_fair kept last x m.0))
    where
      first_is : Some x ≡ Some r → x ≡ r
      first_is e = cc
  ends_after_reading kept last (x ∷ records) m (suc i) r at = ends_after_reading (ok_of x.outcome) (option_or x.noted last) records m.1 i r at

-- no section answers by its rules that memory ran out
pub section_tells : {T E : Type 0} (t : Rules T E) → Tells t → (key : TokenKey) (env : Variables) (settings : CallSettings) (kept : Option T) (last : Option Moment) (J : List Pair) (s : Sectioned T E) →
    Reads (Sections.section t key env settings kept last) J s → is_memory t (Sections.answer_of s) ≡ false
section_tells {T} {E} t tells key env settings kept last J s h = told J s (gives_reads (Sections.section t key env settings kept last) (λ J s. FairSection t last J s) J s (section_fair t tells key env settings kept last) h)
  where
    no_memory : (r : Result T E) → NoMemory t r → is_memory t r ≡ false
    no_memory (Ok token) h = refl
    no_memory (Err e) h = h

    told : (J : List Pair) (s : Sectioned T E) → FairSection t last J s → is_memory t (Sections.answer_of s) ≡ false
    told [] s h = absurd h
    told (e ∷ J) (Hit token) h = refl
    told (e ∷ J) (Load l) h = no_memory l.outcome h.tells
