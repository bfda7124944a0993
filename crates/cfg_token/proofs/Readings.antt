-- By which readings of the clock a section gives its token.
use Rattle.std.proofs.Common.{◌≡◌, ℕ, Bool, true, false, cond, List, [], ◌∷◌, Option, Some, Result, Ok, Err, refl, sym, ◌∙◌, subst, append-nil, arith}
use Rattle.std.specs.Prelude.{ℤ, ◌+ℤ◌, int_lt, IfOk, IsOk, None}
use Rattle.std.proofs.lemmas.Int.{ints}
use Rattle.cfg_base.specs.Instant.{number, nanos_in}
use Rattle.cfg_base.specs.Moment.{Moment}
use Rattle.cfg_types.specs.Environment.{Variables}
use Rattle.cfg_types.specs.declared.settings.CallSettings.{CallSettings}
use Rattle.cfg_world.specs.declared.ask.Answer.{Answer as Given}
use Rattle.cfg_world.specs.declared.ask.Question.TheVariants as question
use Rattle.cfg_world.specs.Fits.{Pair}
use Rattle.cfg_world.specs.Inquiry.{Inquiry, Done, Ask, Reads, after}
use Rattle.cfg_world.specs.LastReadings.{last_reading_from, last_reading}
use Rattle.cfg_world.specs.Leaves.{clock, moment_of}
use Rattle.cfg_token.specs.declared.decision.Decision.{Decision}
use Rattle.cfg_token.specs.declared.decision.Decision.TheVariants.{Use, Refresh, Refuse}
use Rattle.cfg_token.specs.declared.file_token.Renewal.{Renewal}
use Rattle.cfg_token.specs.declared.file_token.Renewal.TheVariants.{Granted, Passed, Refused}
use Rattle.cfg_token.specs.declared.loading.Loaded.{Loaded}
use Rattle.cfg_token.specs.declared.sections.Sectioned.{Sectioned}
use Rattle.cfg_token.specs.declared.sections.Sectioned.TheVariants.{Hit, Load}
use Rattle.cfg_token.specs.declared.token_key.TokenKey.{TokenKey}
use Rattle.cfg_token.specs.Decisions.{decision, outlasts_buffer}
use Rattle.cfg_token.specs.Moments.{is_before, buffer_seconds}
use Rattle.cfg_token.specs.Readings.{EndsAfter, IsHit}
use Rattle.cfg_token.specs.Rules.{Rules, Tells}
use Rattle.cfg_token.specs.Sections
use Rattle.cfg_token.specs.Spacing.{second_reading}
use Rattle.cfg_token.proofs.Outcomes.{Gives, gives_reads, gives_after, gives_more, FairSection, section_fair}

whatever : {T E P : Type 0} (r : Result T E) → P → IfOk r (λ x. P)
whatever (Ok x) p = p
whatever (Err e) p = tt

-- what outlasts the buffer ends later
ends_later : (now end : ℤ) → int_lt (now +ℤ nanos_in buffer_seconds) end ≡ true → int_lt now end ≡ true
ends_later now end h = by (int_lt (now +ℤ nanos_in buffer_seconds) end) (int_lt now end) refl refl h
  where
    by : (a b : Bool) → int_lt (now +ℤ nanos_in buffer_seconds) end ≡ a → int_lt now end ≡ b → a ≡ true → b ≡ true
    by true true e f k = refl
    by true false e f k = absurd (omega (arith, ints, e, f))
    by false b e f k = cc

-- ---- a section of any kind of token

module _ {T E : Type 0} (t : Rules T E) where
  -- behind this reading the clock is not read again
  abbrev IsRest : Moment → List Pair → Type 0
  IsRest now part = last_reading_from (Some now) part ≡ Some now

  text_rest : (path : List ℕ) (now reading : Moment) (token : T) (text : Option (List ℕ)) → Gives (Sections.saves_text t path now token text) (λ part l. IsRest reading part)
  text_rest path now reading token None = refl
  text_rest path now reading token (Some text) = λ a. refl

  renews_rest : (path : List ℕ) (file : T) (now : Moment) (r : Renewal T E) → Gives (Sections.renews t path file now r) (λ part l. IsRest now part)
  unfolding Sections.saves
  renews_rest path file now (Granted token) = text_rest path now now token (t.text token)
  renews_rest path file now Passed = refl
  renews_rest path file now (Refused e noted) = refl

  decides_rest : (key : TokenKey) (settings : CallSettings) (path : List ℕ) (file : T) (now : Moment) (d : Decision) → Gives (Sections.decides t key settings path file now d) (λ part l. IsRest now part)
  unfolding Sections.refreshes Sections.asks_renewal
  decides_rest key settings path file now Refuse = refl
  decides_rest key settings path file now Use = refl
  decides_rest key settings path file now Refresh = λ a. renews_rest path file now (t.renewal key file now a)

  -- Where a load gives a token, its second reading is the last.
  abbrev IsLoadPart : List Pair → Loaded T E → Type 0
  IsLoadPart part l = (first : Pair) (before : Option Moment) → IfOk l.outcome (λ token. last_reading_from before part ≡ Some (second_reading (first ∷ part)))

  judges_part : (key : TokenKey) (settings : CallSettings) (last : Option Moment) (path : List ℕ) (read : Given) (r : Result T E) →
      Gives (Sections.judges_file t key settings last path r) (λ part l. IsLoadPart ((question.Read path, read) ∷ part) l)
  unfolding Sections.judges clock
  judges_part key settings last path read (Err e) = λ first before. tt
  judges_part key settings last path read (Ok file) = λ a.
      let now = moment_of a in
      let d = decision t file last now in
      gives_more (Sections.decides t key settings path file now d) (λ part l. IsRest now part) (λ part l. IsLoadPart ((question.Read path, read) ∷ (question.Now, a) ∷ part) l)
      (λ part l h first before. whatever l.outcome h) (decides_rest key settings path file now d)

  loads_part : (key : TokenKey) (settings : CallSettings) (last : Option Moment) (path : Result (List ℕ) E) → Gives (Sections.loads_from t key settings last path) IsLoadPart
  unfolding Sections.file
  loads_part key settings last (Err e) = λ first before. tt
  loads_part key settings last (Ok path) = λ a. judges_part key settings last path a (Sections.read_as t path a)

  load_part : (key : TokenKey) (env : Variables) (settings : CallSettings) (last : Option Moment) → Gives (Sections.load t key env settings last) IsLoadPart
  unfolding Sections.load
  load_part key env settings last = loads_part key settings last (t.path key env)

  -- The same of a section. A kept token that is handed out ends after its only reading.
  abbrev LastsBy : List Pair → Sectioned T E → Type 0
  LastsBy part (Hit token) = EndsAfter (last_reading part) (t.expiry token)
  LastsBy part (Load l) = IfOk l.outcome (λ token. last_reading part ≡ Some (second_reading part))

  loaded_lasts : (key : TokenKey) (env : Variables) (settings : CallSettings) (last : Option Moment) (a : Given) →
      Gives (after (Sections.load t key env settings last) (λ l. Done (Load l))) (λ part made. LastsBy ((question.Now, a) ∷ part) made)
  loaded_lasts key env settings last a =
      gives_after (Sections.load t key env settings last) (λ l. Done (Load l)) IsLoadPart (λ part made. LastsBy ((question.Now, a) ∷ part) made) (load_part key env settings last)
      (λ part l h. subst (λ (J : List Pair). LastsBy ((question.Now, a) ∷ J) (Load l)) (sym (append-nil part)) (h (question.Now, a) (Some (moment_of a))))

  section_readings : (key : TokenKey) (env : Variables) (settings : CallSettings) (kept : Option T) (last : Option Moment) → Gives (Sections.section t key env settings kept last) LastsBy
  unfolding Sections.section Sections.by_reading clock
  section_readings key env settings None last = λ a. loaded_lasts key env settings last a
  section_readings key env settings (Some token) last = λ a. either_way a (outlasts_buffer t token (moment_of a)) refl
    where
      either_way : (a : Given) (fresh : Bool) → outlasts_buffer t token (moment_of a) ≡ fresh →
          Gives (cond fresh (Done (Hit token)) (after (Sections.load t key env settings last) (λ l. Done (Load l)))) (λ part made. LastsBy ((question.Now, a) ∷ part) made)
      either_way a true is = ends_later (number (moment_of a)) (number (t.expiry token)) is
      either_way a false is = loaded_lasts key env settings last a

  load_lasts : (part : List Pair) (r : Result T E) → IfOk r (λ token. last_reading part ≡ Some (second_reading part)) →
      IfOk r (λ token. is_before (second_reading part) (t.expiry token) ≡ true) → IfOk r (λ token. EndsAfter (last_reading part) (t.expiry token))
  load_lasts part (Ok token) is lasts = subst (λ o. EndsAfter o (t.expiry token)) (sym is) lasts
  load_lasts part (Err e) is lasts = tt

  made_lasts : (last : Option Moment) (part : List Pair) (made : Sectioned T E) → LastsBy part made → FairSection t last part made → IfOk (Sections.answer_of made) (λ token. EndsAfter (last_reading part) (t.expiry token))
  made_lasts last [] made w f = absurd f
  made_lasts last (first ∷ part) (Hit token) w f = w
  made_lasts last (first ∷ part) (Load l) w f = load_lasts (first ∷ part) l.outcome w (f.lasts first)

  -- a token that a section gives ends after its last reading
  pub section_lasts : Tells t → (key : TokenKey) (env : Variables) (settings : CallSettings) (kept : Option T) (last : Option Moment) (part : List Pair) (made : Sectioned T E) →
      Reads (Sections.section t key env settings kept last) part made → IfOk (Sections.answer_of made) (λ token. EndsAfter (last_reading part) (t.expiry token))
  section_lasts tells key env settings kept last part made h =
      let p = Sections.section t key env settings kept last in
      made_lasts last part made (gives_reads p LastsBy part made (section_readings key env settings kept last) h)
      (gives_reads p (λ J s. FairSection t last J s) part made (section_fair t tells key env settings kept last) h)

-- ---- a kept token that is handed out

-- whatever a tree does, where the same holds of all that it may do
pub gives_all : {R : Type 0} (p : Inquiry R) (P : List Pair → R → Type 0) → ((part : List Pair) (out : R) → P part out) → Gives p P
gives_all (Done r) P f = f [] r
gives_all (Ask q n) P f = λ a. gives_all (n a) (λ part out. P ((q, a) ∷ part) out) (λ part out. f ((q, a) ∷ part) out)

module _ {T E : Type 0} (t : Rules T E) where
  abbrev IfHit : Option T → List Pair → Sectioned T E → Type 0
  IfHit kept part made = IsHit t kept part → IsOk (Sections.answer_of made)

  hit_gives : (key : TokenKey) (env : Variables) (settings : CallSettings) (kept : Option T) (last : Option Moment) → Gives (Sections.section t key env settings kept last) (IfHit kept)
  unfolding Sections.section Sections.by_reading clock
  hit_gives key env settings None last = λ a. gives_all (after (Sections.load t key env settings last) (λ l. Done (Load l))) (λ part made. IfHit None ((question.Now, a) ∷ part) made) (λ part made h. absurd h)
  hit_gives key env settings (Some token) last = λ a. either_way a (outlasts_buffer t token (moment_of a)) refl
    where
      never : false ≡ true → ⊥
      never h = cc

      either_way : (a : Given) (fresh : Bool) → outlasts_buffer t token (moment_of a) ≡ fresh →
          Gives (cond fresh (Done (Hit token)) (after (Sections.load t key env settings last) (λ l. Done (Load l)))) (λ part made. IfHit (Some token) ((question.Now, a) ∷ part) made)
      either_way a true is = λ h. refl
      either_way a false is =
          gives_all (after (Sections.load t key env settings last) (λ l. Done (Load l))) (λ part made. IfHit (Some token) ((question.Now, a) ∷ part) made) (λ part made h. absurd (never (sym is ∙ h)))

  -- a section hands a token out, where a kept one is
  pub section_hits : (key : TokenKey) (env : Variables) (settings : CallSettings) (kept : Option T) (last : Option Moment) (part : List Pair) (made : Sectioned T E) →
      Reads (Sections.section t key env settings kept last) part made → IsHit t kept part → IsOk (Sections.answer_of made)
  section_hits key env settings kept last part made h hit = gives_reads (Sections.section t key env settings kept last) (IfHit kept) part made (hit_gives key env settings kept last) h hit
