-- The tree of a section reads exactly its rows.
use Rattle.std.proofs.Common.{◌≡◌, ℕ, Bool, true, false, cond, List, [], ◌∷◌, Option, Some, None, Result, Ok, Err, refl, sym, ◌∙◌, ap, subst, append-nil}
use Rattle.cfg_base.specs.Instant.{is_later_by}
use Rattle.cfg_base.specs.Moment.{Moment}
use Rattle.cfg_types.specs.Environment.{Variables}
use Rattle.cfg_types.specs.declared.reply.FailKind.{FailKind}
use Rattle.cfg_types.specs.declared.settings.CallSettings.{CallSettings}
use Rattle.cfg_world.specs.declared.ask.Question.TheVariants as question
use Rattle.cfg_world.specs.declared.ask.Answer.{Answer as Given}
use Rattle.cfg_world.specs.declared.ask.Answer.TheVariants as answer
use Rattle.cfg_world.specs.Fits.{Pair}
use Rattle.cfg_world.specs.Inquiry.{Done, Reads, after}
use Rattle.cfg_world.specs.Leaves.{clock, moment_of, contents_of, written_of}
use Rattle.cfg_world.proofs.Inquiries.{reads_after}
use Rattle.cfg_token.specs.declared.token_key.TokenKey.{TokenKey}
use Rattle.cfg_token.specs.declared.file_token.Renewal.{Renewal}
use Rattle.cfg_token.specs.declared.file_token.Renewal.TheVariants.{Granted, Passed, Refused}
use Rattle.cfg_token.specs.declared.file_token.Unsaved.TheVariants.{NoText, NotWritten}
use Rattle.cfg_token.specs.declared.decision.Decision.{Decision}
use Rattle.cfg_token.specs.declared.decision.Decision.TheVariants.{Use, Refresh, Refuse}
use Rattle.cfg_token.specs.declared.loading.Loaded.{Loaded}
use Rattle.cfg_token.specs.declared.sections.Sectioned.{Sectioned}
use Rattle.cfg_token.specs.declared.sections.Sectioned.TheVariants.{Hit, Load}
use Rattle.cfg_token.specs.Rules.{Rules}
use Rattle.cfg_token.specs.Decisions.{is_expired}
use Rattle.cfg_token.specs.Sections
use Rattle.cfg_token.specs.SectionRows
use Rattle.cfg_token.specs.SectionRows.{IsJudged, GivesRenewal, LoadRow, IsUsedUp, SectionRow}
use Rattle.cfg_token.proofs.Outcomes.{Gives, gives_reads, gives_after}

module _ {T E : Type 0} (t : Rules T E) (key : TokenKey) (env : Variables) (settings : CallSettings) (last : Option Moment) where
  abbrev Row : List Pair → Loaded T E → Type 0
  Row = LoadRow t key env settings last

  -- ---- from the tree to the rows

  abbrev read_of : List ℕ → List ℕ → Pair
  read_of path bytes = (question.Read path, answer.Contents bytes)

  abbrev sent_for : T → Given → Pair
  sent_for file reply = (question.Send (t.request key settings file), reply)

  unwritten_row : (path bytes text : List ℕ) (file new : T) (now reply write : Given) (kind : FailKind) → GivesRenewal t key env settings last path bytes file now reply (Granted new) →
      t.text new ≡ Some text → written_of write ≡ Err kind → (o : Option E) → t.unsaved (NotWritten path) ≡ o →
      Row (read_of path bytes ∷ (question.Now, now) ∷ sent_for file reply ∷ (question.Write path text, write) ∷ []) (Sections.or_unsaved t (moment_of now) new o)
  unwritten_row path bytes text file new now reply write kind a x w None u = SectionRows.not_written a x w u
  unwritten_row path bytes text file new now reply write kind a x w (Some e) u = SectionRows.not_written_error a x w u

  written_row : (path bytes text : List ℕ) (file new : T) (now reply : Given) → GivesRenewal t key env settings last path bytes file now reply (Granted new) → t.text new ≡ Some text → (write : Given) →
      Row (read_of path bytes ∷ (question.Now, now) ∷ sent_for file reply ∷ (question.Write path text, write) ∷ []) (Sections.written t path (moment_of now) new write)
  written_row path bytes text file new now reply a x answer.Written = SectionRows.written a x
  written_row path bytes text file new now reply a x write = unwritten_row path bytes text file new now reply write _ a x refl _ refl

  saves_row : (path bytes : List ℕ) (file new : T) (now reply : Given) → GivesRenewal t key env settings last path bytes file now reply (Granted new) →
      Gives (Sections.saves t path (moment_of now) new) (λ rest l. Row (read_of path bytes ∷ (question.Now, now) ∷ sent_for file reply ∷ rest) l)
  unfolding Sections.saves
  saves_row path bytes file new now reply a = by_text (t.text new) refl
    where
      unsaved_row : (o : Option E) → t.text new ≡ None → t.unsaved NoText ≡ o → Row (read_of path bytes ∷ (question.Now, now) ∷ sent_for file reply ∷ []) (Sections.or_unsaved t (moment_of now) new o)
      unsaved_row None x u = SectionRows.no_text a x u
      unsaved_row (Some e) x u = SectionRows.no_text_error a x u

      by_text : (text : Option (List ℕ)) → t.text new ≡ text →
          Gives (Sections.saves_text t path (moment_of now) new text) (λ rest l. Row (read_of path bytes ∷ (question.Now, now) ∷ sent_for file reply ∷ rest) l)
      by_text None x = unsaved_row (t.unsaved NoText) x refl
      by_text (Some text) x = λ write. written_row path bytes text file new now reply a x write

  renews_row : (path bytes : List ℕ) (file : T) (now reply : Given) (given : Renewal T E) → GivesRenewal t key env settings last path bytes file now reply given →
      Gives (Sections.renews t path file (moment_of now) given) (λ rest l. Row (read_of path bytes ∷ (question.Now, now) ∷ sent_for file reply ∷ rest) l)
  renews_row path bytes file now reply (Granted new) a = saves_row path bytes file new now reply a
  renews_row path bytes file now reply Passed a = by_expiry (is_expired t file (moment_of now)) refl
    where
      by_expiry : (gone : Bool) → is_expired t file (moment_of now) ≡ gone →
          Row (read_of path bytes ∷ (question.Now, now) ∷ sent_for file reply ∷ []) (Sections.gives (cond gone (Err t.expired) (Ok file)) (Some (moment_of now)))
      by_expiry true x = SectionRows.passed_over_expired a x
      by_expiry false x = SectionRows.passed_over a x
  renews_row path bytes file now reply (Refused e true) a = SectionRows.failed_noted a
  renews_row path bytes file now reply (Refused e false) a = SectionRows.failed a

  decides_row : (path bytes : List ℕ) (file : T) (now : Given) (decided : Decision) → IsJudged t key env settings last path bytes file now decided →
      Gives (Sections.decides t key settings path file (moment_of now) decided) (λ rest l. Row (read_of path bytes ∷ (question.Now, now) ∷ rest) l)
  unfolding Sections.refreshes Sections.asks_renewal
  decides_row path bytes file now Refuse j = SectionRows.refused j
  decides_row path bytes file now Use j = SectionRows.used j
  decides_row path bytes file now Refresh j = λ reply. renews_row path bytes file now reply _ (record { is_due = j; gives = refl })

  judges_row : (path bytes : List ℕ) → t.path key env ≡ Ok path → (r : Result T E) → t.reading bytes ≡ r →
      Gives (Sections.judges_file t key settings last path r) (λ rest l. Row (read_of path bytes ∷ rest) l)
  unfolding Sections.judges clock
  judges_row path bytes p (Err e) h = SectionRows.no_token p h
  judges_row path bytes p (Ok file) h = λ now. decides_row path bytes file now _ (record { is_path = p; holds = h; decides = refl })

  unread_row : (path : List ℕ) (read : Given) (kind : FailKind) → t.path key env ≡ Ok path → contents_of read ≡ Err kind → Row ((question.Read path, read) ∷ []) (Sections.gives (Err (t.unread path)) None)
  unread_row path read kind p h = SectionRows.not_read p h

  file_row : (path : List ℕ) → t.path key env ≡ Ok path → (read : Given) →
      Gives (Sections.judges_file t key settings last path (Sections.read_as t path read)) (λ rest l. Row ((question.Read path, read) ∷ rest) l)
  file_row path p (answer.Contents bytes) = judges_row path bytes p _ refl
  file_row path p read = unread_row path read _ p refl

  load_row : Gives (Sections.load t key env settings last) Row
  unfolding Sections.load Sections.file
  load_row = by_path (t.path key env) refl
    where
      by_path : (p : Result (List ℕ) E) → t.path key env ≡ p → Gives (Sections.loads_from t key settings last p) Row
      by_path (Err e) h = SectionRows.no_path h
      by_path (Ok path) h = λ read. file_row path h read

  loaded_row : (kept : Option T) (now : Given) → IsUsedUp t kept (moment_of now) →
      Gives (after (Sections.load t key env settings last) (λ l. Done (Load l))) (λ part made. SectionRow t key env settings kept last ((question.Now, now) ∷ part) made)
  loaded_row kept now due =
      gives_after (Sections.load t key env settings last) (λ l. Done (Load l)) Row (λ part made. SectionRow t key env settings kept last ((question.Now, now) ∷ part) made) load_row
      (λ part l h. subst (λ (J : List Pair). SectionRow t key env settings kept last ((question.Now, now) ∷ J) (Load l)) (sym (append-nil part)) (SectionRows.load due h))

  section_row : (kept : Option T) → Gives (Sections.section t key env settings kept last) (SectionRow t key env settings kept last)
  unfolding Sections.section Sections.by_reading clock
  section_row None = λ now. loaded_row None now tt
  section_row (Some token) = λ now. by_time now (is_later_by (t.expiry token) (moment_of now) 300) refl
    where
      by_time : (now : Given) (long : Bool) → is_later_by (t.expiry token) (moment_of now) 300 ≡ long →
          Gives (cond long (Done (Hit token)) (after (Sections.load t key env settings last) (λ l. Done (Load l)))) (λ part made. SectionRow t key env settings (Some token) last ((question.Now, now) ∷ part) made)
      by_time now true h = SectionRows.hit refl h
      by_time now false h = loaded_row (Some token) now h

  pub rows_of_section : (kept : Option T) (part : List Pair) (made : Sectioned T E) → Reads (Sections.section t key env settings kept last) part made → SectionRow t key env settings kept last part made
  rows_of_section kept part made h = gives_reads (Sections.section t key env settings kept last) (SectionRow t key env settings kept last) part made (section_row kept) h

  -- ---- and back

  -- behind the file
  behind_file : (path bytes : List ℕ) (r : Result T E) (rest : List Pair) (l : Loaded T E) → t.path key env ≡ Ok path → t.reading bytes ≡ r →
      Reads (Sections.judges_file t key settings last path r) rest l → Reads (Sections.load t key env settings last) (read_of path bytes ∷ rest) l
  unfolding Sections.load Sections.file
  behind_file path bytes r rest l p h k =
      subst (λ x. Reads (Sections.loads_from t key settings last x) (read_of path bytes ∷ rest) l) (sym p)
      (refl, subst (λ x. Reads (Sections.judges_file t key settings last path x) rest l) (sym h) k)

  -- behind the second reading
  behind_reading : (path bytes : List ℕ) (file : T) (now : Given) (decided : Decision) (rest : List Pair) (l : Loaded T E) → IsJudged t key env settings last path bytes file now decided →
      Reads (Sections.decides t key settings path file (moment_of now) decided) rest l → Reads (Sections.load t key env settings last) (read_of path bytes ∷ (question.Now, now) ∷ rest) l
  unfolding Sections.judges clock
  behind_reading path bytes file now decided rest l j k =
      behind_file path bytes (Ok file) ((question.Now, now) ∷ rest) l j.is_path j.holds
      (refl, subst (λ d. Reads (Sections.decides t key settings path file (moment_of now) d) rest l) (sym j.decides) k)

  -- behind the request
  behind_reply : (path bytes : List ℕ) (file : T) (now reply : Given) (given : Renewal T E) (rest : List Pair) (l : Loaded T E) → GivesRenewal t key env settings last path bytes file now reply given →
      Reads (Sections.renews t path file (moment_of now) given) rest l → Reads (Sections.load t key env settings last) (read_of path bytes ∷ (question.Now, now) ∷ sent_for file reply ∷ rest) l
  unfolding Sections.refreshes Sections.asks_renewal
  behind_reply path bytes file now reply given rest l a k =
      behind_reading path bytes file now Refresh (sent_for file reply ∷ rest) l a.is_due
      (refl, subst (λ g. Reads (Sections.renews t path file (moment_of now) g) rest l) (sym a.gives) k)

  -- behind the new token's text
  behind_text : (path bytes : List ℕ) (file new : T) (now reply : Given) (text : Option (List ℕ)) (rest : List Pair) (l : Loaded T E) →
      GivesRenewal t key env settings last path bytes file now reply (Granted new) → t.text new ≡ text → Reads (Sections.saves_text t path (moment_of now) new text) rest l →
      Reads (Sections.load t key env settings last) (read_of path bytes ∷ (question.Now, now) ∷ sent_for file reply ∷ rest) l
  unfolding Sections.saves
  behind_text path bytes file new now reply text rest l a x k =
      behind_reply path bytes file now reply (Granted new) rest l a (subst (λ o. Reads (Sections.saves_text t path (moment_of now) new o) rest l) (sym x) k)

  unread : (path : List ℕ) (read : Given) (kind : FailKind) → contents_of read ≡ Err kind → Sections.read_as t path read ≡ Err (t.unread path)
  unread path (answer.Contents bytes) kind h = cc
  unread path _ kind h = refl

  unwritten : (path : List ℕ) (now : Moment) (new : T) (write : Given) (kind : FailKind) → written_of write ≡ Err kind →
      Sections.written t path now new write ≡ Sections.or_unsaved t now new (t.unsaved (NotWritten path))
  unwritten path now new answer.Written kind h = cc
  unwritten path now new _ kind h = refl

  reads_row : (part : List Pair) (l : Loaded T E) → Row part l → Reads (Sections.load t key env settings last) part l
  unfolding Sections.load Sections.file
  reads_row part l (SectionRows.no_path {e = e} p) = subst (λ x. Reads (Sections.loads_from t key settings last x) [] (Sections.gives (Err e) None)) (sym p) refl
  reads_row part l (SectionRows.not_read {path = path} {read = read} {kind = kind} p h) =
      subst (λ x. Reads (Sections.loads_from t key settings last x) ((question.Read path, read) ∷ []) (Sections.gives (Err (t.unread path)) None)) (sym p)
      (refl, subst (λ x. Reads (Sections.judges_file t key settings last path x) [] (Sections.gives (Err (t.unread path)) None)) (sym (unread path read kind h)) refl)
  reads_row part l (SectionRows.no_token {path = path} {bytes = bytes} {e = e} p h) = behind_file path bytes (Err e) [] _ p h refl
  reads_row part l (SectionRows.refused {path = path} {bytes = bytes} {file = file} {clock = now} j) = behind_reading path bytes file now Refuse [] _ j refl
  reads_row part l (SectionRows.used {path = path} {bytes = bytes} {file = file} {clock = now} j) = behind_reading path bytes file now Use [] _ j refl
  reads_row part l (SectionRows.passed_over {path = path} {bytes = bytes} {file = file} {clock = now} {reply = reply} a x) =
      behind_reply path bytes file now reply Passed [] _ a (ap (λ (gone : Bool). Sections.gives (cond gone (Err t.expired) (Ok file)) (Some (moment_of now))) x)
  reads_row part l (SectionRows.passed_over_expired {path = path} {bytes = bytes} {file = file} {clock = now} {reply = reply} a x) =
      behind_reply path bytes file now reply Passed [] _ a (ap (λ (gone : Bool). Sections.gives (cond gone (Err t.expired) (Ok file)) (Some (moment_of now))) x)
  reads_row part l (SectionRows.failed_noted {path = path} {bytes = bytes} {file = file} {clock = now} {reply = reply} {e = e} a) = behind_reply path bytes file now reply (Refused e true) [] _ a refl
  reads_row part l (SectionRows.failed {path = path} {bytes = bytes} {file = file} {clock = now} {reply = reply} {e = e} a) = behind_reply path bytes file now reply (Refused e false) [] _ a refl
  reads_row part l (SectionRows.no_text {path = path} {bytes = bytes} {file = file} {new = new} {clock = now} {reply = reply} a x u) =
      behind_text path bytes file new now reply None [] _ a x (ap (λ (o : Option E). Sections.or_unsaved t (moment_of now) new o) u)
  reads_row part l (SectionRows.no_text_error {path = path} {bytes = bytes} {file = file} {new = new} {clock = now} {reply = reply} a x u) =
      behind_text path bytes file new now reply None [] _ a x (ap (λ (o : Option E). Sections.or_unsaved t (moment_of now) new o) u)
  reads_row part l (SectionRows.not_written {path = path} {bytes = bytes} {text = text} {file = file} {new = new} {clock = now} {reply = reply} {write = write} {kind = kind} a x w u) =
      behind_text path bytes file new now reply (Some text) ((question.Write path text, write) ∷ []) _ a x
      (refl, unwritten path (moment_of now) new write kind w ∙ ap (λ (o : Option E). Sections.or_unsaved t (moment_of now) new o) u)
  reads_row part l (SectionRows.not_written_error {path = path} {bytes = bytes} {text = text} {file = file} {new = new} {clock = now} {reply = reply} {write = write} {kind = kind} a x w u) =
      behind_text path bytes file new now reply (Some text) ((question.Write path text, write) ∷ []) _ a x
      (refl, unwritten path (moment_of now) new write kind w ∙ ap (λ (o : Option E). Sections.or_unsaved t (moment_of now) new o) u)
  reads_row part l (SectionRows.written {path = path} {bytes = bytes} {text = text} {file = file} {new = new} {clock = now} {reply = reply} a x) =
      behind_text path bytes file new now reply (Some text) ((question.Write path text, answer.Written) ∷ []) _ a x (refl, refl)

  reads_loaded : (part : List Pair) (l : Loaded T E) → Row part l → Reads (after (Sections.load t key env settings last) (λ l. Done (Load l))) part (Load l)
  reads_loaded part l h =
      subst (λ (J : List Pair). Reads (after (Sections.load t key env settings last) (λ l. Done (Load l))) J (Load l)) (append-nil part)
      (reads_after (Sections.load t key env settings last) (λ l. Done (Load l)) part [] l (Load l) (reads_row part l h) refl)

  reads_due : (kept : Option T) (now : Moment) (part : List Pair) (l : Loaded T E) → IsUsedUp t kept now → Row part l →
      Reads (Sections.by_reading t key env settings kept last now) part (Load l)
  unfolding Sections.by_reading
  reads_due None now part l due h = reads_loaded part l h
  reads_due (Some token) now part l due h =
      subst (λ long. Reads (cond long (Done (Hit token)) (after (Sections.load t key env settings last) (λ l. Done (Load l)))) part (Load l)) (sym due) (reads_loaded part l h)

  reads_hit : (kept : Option T) (token : T) (now : Moment) → kept ≡ Some token → is_later_by (t.expiry token) now 300 ≡ true → Reads (Sections.by_reading t key env settings kept last now) [] (Hit token)
  unfolding Sections.by_reading
  reads_hit kept token now k long =
      subst (λ x. Reads (Sections.by_reading t key env settings x last now) [] (Hit token)) (sym k)
      (subst (λ long. Reads (cond long (Done (Hit token)) (after (Sections.load t key env settings last) (λ l. Done (Load l)))) [] (Hit token)) (sym long) refl)

  pub section_of_rows : (kept : Option T) (part : List Pair) (made : Sectioned T E) → SectionRow t key env settings kept last part made → Reads (Sections.section t key env settings kept last) part made
  unfolding Sections.section clock
  section_of_rows kept part made (SectionRows.hit {token = token} {clock = now} k long) = (refl, reads_hit kept token (moment_of now) k long)
  section_of_rows kept part made (SectionRows.load {clock = now} {part = rest} {loaded = l} due h) = (refl, reads_due kept (moment_of now) rest l due h)
