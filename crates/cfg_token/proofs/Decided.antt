-- The token of a load is the decision on its own receipts.
use Rattle.std.proofs.Common.{◌≡◌, ℕ, zero, suc, Bool, true, false, not, cond, List, [], ◌∷◌, Option, Some, None, Result, Ok, Err, slice_get, take, append-nil, refl, sym, subst}
use Rattle.std.specs.Prelude.{IfOk}
use Rattle.cfg_base.specs.Moment.{Moment}
use Rattle.cfg_types.specs.Environment.{Variables}
use Rattle.cfg_types.specs.declared.settings.CallSettings.{CallSettings}
use Rattle.cfg_world.specs.declared.ask.Answer.{Answer}
use Rattle.cfg_world.specs.declared.ask.Answer.TheVariants as answer
use Rattle.cfg_world.specs.declared.ask.Question.TheVariants as question
use Rattle.cfg_world.specs.Fits.{Pair}
use Rattle.cfg_world.specs.Inquiry.{Done, after}
use Rattle.cfg_world.specs.Leaves.{clock, moment_of}
use Rattle.cfg_token.specs.declared.decision.Decision.{Decision}
use Rattle.cfg_token.specs.declared.decision.Decision.TheVariants.{Use, Refresh, Refuse}
use Rattle.cfg_token.specs.declared.file_token.Renewal.{Renewal}
use Rattle.cfg_token.specs.declared.file_token.Renewal.TheVariants.{Granted, Passed, Refused}
use Rattle.cfg_token.specs.declared.file_token.Unsaved.TheVariants.{NoText, NotWritten}
use Rattle.cfg_token.specs.declared.sections.Sectioned.{Sectioned}
use Rattle.cfg_token.specs.declared.sections.Sectioned.TheVariants.{Hit, Load}
use Rattle.cfg_token.specs.declared.token_key.TokenKey.{TokenKey}
use Rattle.cfg_token.specs.Rules.{Rules}
use Rattle.cfg_token.specs.Moments.{is_before}
use Rattle.cfg_token.specs.Decisions.{outlasts_buffer, decision}
use Rattle.cfg_token.specs.Sections
use Rattle.cfg_token.specs.Sections.{ok_of, noted_or}
use Rattle.cfg_token.specs.LoadParts.{AsksForFile, RefreshesFile, IsRenewed, IsDecided, HandsOut}
use Rattle.cfg_token.specs.Histories.{FinishedLoad, IsLoad, Machine, noted_by}
use Rattle.cfg_token.proofs.Outcomes.{Gives, gives_reads, gives_after}

-- what a load says by these receipts
pub record Says {T E : Type 0} (t : Rules T E) (last : Option Moment) (receipts : List Pair) (outcome : Result T E) : Type 0 where
  pub handed : IfOk outcome (HandsOut t last receipts)
  pub asked : RefreshesFile t last receipts

module _ {T E : Type 0} (t : Rules T E) where
  -- Whatever comes of a token that was not saved: it is handed out, or it is not.
  abbrev IfToken : T → Result T E → Type 0
  IfToken new outcome = IfOk outcome (λ token. token ≡ new)

  unsaved_token : (now : Moment) (new : T) (e : Option E) → IfToken new (Sections.or_unsaved t now new e).outcome
  unsaved_token now new None = refl
  unsaved_token now new (Some e) = tt

  written_token : (path : List ℕ) (now : Moment) (new : T) (a : Answer) → IfToken new (Sections.written t path now new a).outcome
  written_token path now new answer.Written = refl
  written_token path now new (answer.Moment m) = unsaved_token now new (t.unsaved (NotWritten path))
  written_token path now new (answer.Jitter n) = unsaved_token now new (t.unsaved (NotWritten path))
  written_token path now new (answer.Contents bytes) = unsaved_token now new (t.unsaved (NotWritten path))
  written_token path now new (answer.Finished finished) = unsaved_token now new (t.unsaved (NotWritten path))
  written_token path now new (answer.Addresses addresses) = unsaved_token now new (t.unsaved (NotWritten path))
  written_token path now new (answer.Replied reply) = unsaved_token now new (t.unsaved (NotWritten path))
  written_token path now new (answer.Failed kind) = unsaved_token now new (t.unsaved (NotWritten path))

  -- the file's token is handed out only while it lasts
  lasting_token : (file : T) (now : Moment) → IfOk (Sections.while_it_lasts t file now) (IsRenewed t file now (let p : Renewal T E = Passed in p))
  lasting_token file now = either_way (is_before now (t.expiry file)) refl
    where
      either_way : (b : Bool) → is_before now (t.expiry file) ≡ b → IfOk (cond (not b) (Err t.expired) (Ok file)) (IsRenewed t file now (let p : Renewal T E = Passed in p))
      either_way true is = (refl, is)
      either_way false is = tt

  module _ (key : TokenKey) (settings : CallSettings) (last : Option Moment) (path bytes : List ℕ) (file : T) (read : t.reading bytes ≡ Ok file) (first second : Answer) where
    abbrev now : Moment
    now = moment_of second

    abbrev begun : List Pair → List Pair
    begun rest = (question.Now, first) ∷ (question.Read path, answer.Contents bytes) ∷ (question.Now, second) ∷ rest

    asks : decision t file last now ≡ Refresh → (rest : List Pair) → AsksForFile t last (begun rest) (t.request key settings file)
    asks due rest = record { key = key; settings = settings; path = path; bytes = bytes; file = file; read = refl; token = read; due = due; is = refl }

    hands : (rest : List Pair) (token : T) → IsDecided t key settings file now rest token (decision t file last now) → HandsOut t last (begun rest) token
    hands rest token d = record { key = key; settings = settings; path = path; bytes = bytes; file = file; first = first; second = second; rest = rest; are = refl; read = read; decided = d }

    -- a refresh, whose answer gave this renewal
    refreshed : decision t file last now ≡ Refresh → (a : Answer) (rest : List Pair) (outcome : Result T E) → IfOk outcome (IsRenewed t file now (t.renewal key file now a)) →
        IfOk outcome (HandsOut t last (begun ((question.Send (t.request key settings file), a) ∷ rest)))
    refreshed due a rest (Err e) h = tt
    refreshed due a rest (Ok token) h = hands ((question.Send (t.request key settings file), a) ∷ rest) token
        (subst (λ d. IsDecided t key settings file now ((question.Send (t.request key settings file), a) ∷ rest) token d) (sym due) (refl, h))

    renews_says : decision t file last now ≡ Refresh → (a : Answer) (r : Renewal T E) → t.renewal key file now a ≡ r →
        Gives (Sections.renews t path file now r) (λ J l. Says t last (begun ((question.Send (t.request key settings file), a) ∷ J)) l.outcome)
    unfolding Sections.saves
    renews_says due a (Granted new) is = by_text (t.text new)
      where
        given : (outcome : Result T E) → IfToken new outcome → IfOk outcome (IsRenewed t file now (t.renewal key file now a))
        given (Ok token) h = subst (λ r. IsRenewed t file now r token) (sym is) h
        given (Err e) h = tt

        by_text : (text : Option (List ℕ)) → Gives (Sections.saves_text t path now new text) (λ J l. Says t last (begun ((question.Send (t.request key settings file), a) ∷ J)) l.outcome)
        by_text None = record {
          handed = refreshed due a [] _ (given _ (unsaved_token now new (t.unsaved NoText)));
          asked = (tt, (tt, (tt, (asks due ((question.Send (t.request key settings file), a) ∷ []), tt))));
        }
        by_text (Some text) = λ w. record {
          handed = refreshed due a ((question.Write path text, w) ∷ []) _ (given _ (written_token path now new w));
          asked = (tt, (tt, (tt, (asks due ((question.Send (t.request key settings file), a) ∷ (question.Write path text, w) ∷ []), (tt, tt)))));
        }
    renews_says due a Passed is = record {
      handed = refreshed due a [] (Sections.while_it_lasts t file now) (subst (λ r. IfOk (Sections.while_it_lasts t file now) (IsRenewed t file now r)) (sym is) (lasting_token file now));
      asked = (tt, (tt, (tt, (asks due ((question.Send (t.request key settings file), a) ∷ []), tt))));
    }
    renews_says due a (Refused e noted) is = record { handed = tt; asked = (tt, (tt, (tt, (asks due ((question.Send (t.request key settings file), a) ∷ []), tt)))) }

    decides_says : (d : Decision) → decision t file last now ≡ d → Gives (Sections.decides t key settings path file now d) (λ J l. Says t last (begun J) l.outcome)
    unfolding Sections.refreshes Sections.asks_renewal
    decides_says Refuse is = record { handed = tt; asked = (tt, (tt, (tt, tt))) }
    decides_says Use is = record { handed = hands [] file (subst (λ d. IsDecided t key settings file now [] file d) (sym is) (refl, refl)); asked = (tt, (tt, (tt, tt))) }
    decides_says Refresh is = λ a. renews_says is a (t.renewal key file now a) refl

  -- a load whose file gave no token
  error_says : (last : Option Moment) (first : Answer) (path : List ℕ) (a : Answer) (e : E) → Says t last ((question.Now, first) ∷ (question.Read path, a) ∷ []) (let r : Result T E = Err e in r)
  error_says last first path a e = record { handed = tt; asked = (tt, (tt, tt)) }

  file_says : (key : TokenKey) (settings : CallSettings) (last : Option Moment) (path : List ℕ) (first a : Answer) →
      Gives (Sections.judges_file t key settings last path (Sections.read_as t path a)) (λ J l. Says t last ((question.Now, first) ∷ (question.Read path, a) ∷ J) l.outcome)
  unfolding Sections.judges clock
  file_says key settings last path first (answer.Contents bytes) = by_token (t.reading bytes) refl
    where
      by_token : (r : Result T E) → t.reading bytes ≡ r → Gives (Sections.judges_file t key settings last path r) (λ J l. Says t last ((question.Now, first) ∷ (question.Read path, answer.Contents bytes) ∷ J) l.outcome)
      by_token (Err e) is = error_says last first path (answer.Contents bytes) e
      by_token (Ok file) is = λ second. decides_says key settings last path bytes file is first second (decision t file last (moment_of second)) refl
  file_says key settings last path first answer.Written = error_says last first path answer.Written (t.unread path)
  file_says key settings last path first (answer.Moment m) = error_says last first path (answer.Moment m) (t.unread path)
  file_says key settings last path first (answer.Jitter n) = error_says last first path (answer.Jitter n) (t.unread path)
  file_says key settings last path first (answer.Finished finished) = error_says last first path (answer.Finished finished) (t.unread path)
  file_says key settings last path first (answer.Addresses addresses) = error_says last first path (answer.Addresses addresses) (t.unread path)
  file_says key settings last path first (answer.Replied reply) = error_says last first path (answer.Replied reply) (t.unread path)
  file_says key settings last path first (answer.Failed kind) = error_says last first path (answer.Failed kind) (t.unread path)

  load_says : (key : TokenKey) (env : Variables) (settings : CallSettings) (last : Option Moment) (first : Answer) →
      Gives (Sections.load t key env settings last) (λ J l. Says t last ((question.Now, first) ∷ J) l.outcome)
  unfolding Sections.load Sections.file
  load_says key env settings last first = by_path (t.path key env)
    where
      by_path : (p : Result (List ℕ) E) → Gives (Sections.loads_from t key settings last p) (λ J l. Says t last ((question.Now, first) ∷ J) l.outcome)
      by_path (Err e) = record { handed = tt; asked = (tt, tt) }
      by_path (Ok path) = λ a. file_says key settings last path first a

  -- the same of a section that made a load
  abbrev SectionSays : Option Moment → List Pair → Sectioned T E → Type 0
  SectionSays last part (Hit token) = Unit {0}
  SectionSays last part (Load l) = Says t last part l.outcome

  section_says : (key : TokenKey) (env : Variables) (settings : CallSettings) (kept : Option T) (last : Option Moment) → Gives (Sections.section t key env settings kept last) (SectionSays last)
  unfolding Sections.section Sections.by_reading clock
  section_says key env settings kept last = by_kept kept
    where
      loaded : (first : Answer) → Gives (after (Sections.load t key env settings last) (λ l. Done (Load l))) (λ J s. SectionSays last ((question.Now, first) ∷ J) s)
      loaded first =
          gives_after (Sections.load t key env settings last) (λ l. Done (Load l)) (λ J l. Says t last ((question.Now, first) ∷ J) l.outcome) (λ J s. SectionSays last ((question.Now, first) ∷ J) s)
          (load_says key env settings last first) (λ J l h. subst (λ (K : List Pair). Says t last ((question.Now, first) ∷ K) l.outcome) (sym (append-nil J)) h)

      either_way : (token : T) (first : Answer) (fresh : Bool) →
          Gives (cond fresh (Done (Hit token)) (after (Sections.load t key env settings last) (λ l. Done (Load l)))) (λ J s. SectionSays last ((question.Now, first) ∷ J) s)
      either_way token first true = tt
      either_way token first false = loaded first

      by_kept : (kept : Option T) → Gives (Sections.section t key env settings kept last) (SectionSays last)
      by_kept None = λ a. loaded a
      by_kept (Some token) = λ a. either_way token a (outlasts_buffer t token (moment_of a))

  load_record_says : (kept : Option T) (last : Option Moment) (r : FinishedLoad T E) → IsLoad t kept last r → Says t last r.receipts r.outcome
  load_record_says kept last r i = gives_reads (Sections.section t i.key i.env i.settings kept last) (SectionSays last) r.receipts _ (section_says i.key i.env i.settings kept last) i.reads

  -- each record says so of the attempt before it
  pub records_say : (kept : Option T) (last : Option Moment) (records : List (FinishedLoad T E)) → Machine t kept last records → (i : ℕ) (r : FinishedLoad T E) → slice_get records i ≡ Some r →
      Says t (noted_by last (take i records)) r.receipts r.outcome
  records_say kept last [] m i r at = cc
  records_say kept last (x ∷ records) m zero r at = subst (λ (x : FinishedLoad T E). Says t last x.receipts x.outcome) (first_is at) (load_record_says kept last x m.0)
    where
      first_is : Some x ≡ Some r → x ≡ r
      first_is e = cc
  records_say kept last (x ∷ records) m (suc i) r at = records_say (ok_of x.outcome) (noted_or x.noted last) records m.1 i r at
