-- What a section of a token asks: nothing for a role, where no request for a new token does.
use Rattle.std.proofs.Common.{◌≡◌, Bool, true, false, cond, List, ◌∷◌, Option, Some, None, Result, Ok, Err, refl, sym, subst, append-nil}
use Rattle.std.specs.Prelude.{ℕ}
use Rattle.cfg_base.specs.Moment.{Moment}
use Rattle.cfg_types.specs.Environment.{Variables}
use Rattle.cfg_types.specs.declared.settings.CallSettings.{CallSettings}
use Rattle.cfg_world.specs.declared.ask.Answer.{Answer as Given}
use Rattle.cfg_world.specs.declared.ask.Question.TheVariants as question
use Rattle.cfg_world.specs.Fits.{Pair}
use Rattle.cfg_world.specs.Inquiry.{Done, Reads, after}
use Rattle.cfg_world.specs.Leaves.{clock, moment_of}
use Rattle.cfg_token.specs.declared.decision.Decision.{Decision}
use Rattle.cfg_token.specs.declared.decision.Decision.TheVariants.{Use, Refresh, Refuse}
use Rattle.cfg_token.specs.declared.file_token.Renewal.{Renewal}
use Rattle.cfg_token.specs.declared.file_token.Renewal.TheVariants.{Granted, Passed, Refused}
use Rattle.cfg_token.specs.declared.sections.Sectioned.{Sectioned}
use Rattle.cfg_token.specs.declared.sections.Sectioned.TheVariants.{Hit, Load}
use Rattle.cfg_token.specs.declared.token_key.TokenKey.{TokenKey}
use Rattle.cfg_token.specs.Decisions.{decision, outlasts_buffer}
use Rattle.cfg_token.specs.Sections
use Rattle.cfg_token.specs.Rules.{Rules}
use Rattle.cfg_token.proofs.Outcomes.{Gives, gives_reads, gives_after, gives_more}
use Rattle.cfg_sso.specs.RoleRequests.{is_role_request, AsksNoRole}

module _ {T E : Type 0} (t : Rules T E) (sends : (key : TokenKey) (settings : CallSettings) (file : T) → is_role_request (question.Send (t.request key settings file)) ≡ false) where
  text_asks_none : (path : List ℕ) (now : Moment) (token : T) (text : Option (List ℕ)) → Gives (Sections.saves_text t path now token text) (λ part l. AsksNoRole part)
  text_asks_none path now token None = tt
  text_asks_none path now token (Some text) = λ a. (refl, tt)

  renews_asks_none : (path : List ℕ) (file : T) (now : Moment) (r : Renewal T E) → Gives (Sections.renews t path file now r) (λ part l. AsksNoRole part)
  unfolding Sections.saves
  renews_asks_none path file now (Granted token) = text_asks_none path now token (t.text token)
  renews_asks_none path file now Passed = tt
  renews_asks_none path file now (Refused e noted) = tt

  decides_asks_none : (key : TokenKey) (settings : CallSettings) (path : List ℕ) (file : T) (now : Moment) (d : Decision) → Gives (Sections.decides t key settings path file now d) (λ part l. AsksNoRole part)
  unfolding Sections.refreshes Sections.asks_renewal
  decides_asks_none key settings path file now Refuse = tt
  decides_asks_none key settings path file now Use = tt
  decides_asks_none key settings path file now Refresh = λ a.
      let r = t.renewal key file now a in
      gives_more (Sections.renews t path file now r) (λ part l. AsksNoRole part) (λ part l. AsksNoRole ((question.Send (t.request key settings file), a) ∷ part)) (λ part l h. (sends key settings file, h)) (renews_asks_none path file now r)

  judges_asks_none : (key : TokenKey) (settings : CallSettings) (last : Option Moment) (path : List ℕ) (read : Given) (r : Result T E) →
      Gives (Sections.judges_file t key settings last path r) (λ part l. AsksNoRole ((question.Read path, read) ∷ part))
  unfolding Sections.judges clock
  judges_asks_none key settings last path read (Err e) = (refl, tt)
  judges_asks_none key settings last path read (Ok file) = λ a.
      let d = decision t file last (moment_of a) in
      gives_more (Sections.decides t key settings path file (moment_of a) d) (λ part l. AsksNoRole part) (λ part l. AsksNoRole ((question.Read path, read) ∷ (question.Now, a) ∷ part))
      (λ part l h. (refl, (refl, h))) (decides_asks_none key settings path file (moment_of a) d)

  loads_ask_none : (key : TokenKey) (settings : CallSettings) (last : Option Moment) (path : Result (List ℕ) E) → Gives (Sections.loads_from t key settings last path) (λ part l. AsksNoRole part)
  unfolding Sections.file
  loads_ask_none key settings last (Err e) = tt
  loads_ask_none key settings last (Ok path) = λ a. judges_asks_none key settings last path a (Sections.read_as t path a)

  load_asks_none : (key : TokenKey) (env : Variables) (settings : CallSettings) (last : Option Moment) (a : Given) →
      Gives (after (Sections.load t key env settings last) (λ l. Done (Load l))) (λ part made. AsksNoRole ((question.Now, a) ∷ part))
  unfolding Sections.load
  load_asks_none key env settings last a =
      gives_after (Sections.loads_from t key settings last (t.path key env)) (λ l. Done (Load l)) (λ part l. AsksNoRole part) (λ part made. AsksNoRole ((question.Now, a) ∷ part))
      (loads_ask_none key settings last (t.path key env)) (λ part l h. subst (λ (J : List Pair). AsksNoRole ((question.Now, a) ∷ J)) (sym (append-nil part)) (refl, h))

  pub section_asks_none : (key : TokenKey) (env : Variables) (settings : CallSettings) (kept : Option T) (last : Option Moment) → Gives (Sections.section t key env settings kept last) (λ part made. AsksNoRole part)
  unfolding Sections.section Sections.by_reading clock
  section_asks_none key env settings None last = λ a. load_asks_none key env settings last a
  section_asks_none key env settings (Some token) last = λ a. either_way a (outlasts_buffer t token (moment_of a))
    where
      either_way : (a : Given) (fresh : Bool) → Gives (cond fresh (Done (Hit token)) (after (Sections.load t key env settings last) (λ l. Done (Load l)))) (λ part made. AsksNoRole ((question.Now, a) ∷ part))
      either_way a true = (refl, tt)
      either_way a false = load_asks_none key env settings last a

  -- a section asks nothing for a role
  pub section_asks_no_role : (key : TokenKey) (env : Variables) (settings : CallSettings) (kept : Option T) (last : Option Moment) (part : List Pair) (made : Sectioned T E) →
      Reads (Sections.section t key env settings kept last) part made → AsksNoRole part
  section_asks_no_role key env settings kept last part made h = gives_reads (Sections.section t key env settings kept last) (λ part made. AsksNoRole part) part made (section_asks_none key env settings kept last) h
