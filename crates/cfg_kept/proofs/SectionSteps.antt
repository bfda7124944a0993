-- A holding of a token of any kind, by the section that it makes.
use Rattle.std.proofs.Common.{◌≡◌, true, false, List, [], ◌∷◌, ◌++◌, Option, Some, None, IfSome, Result, Ok, Err, refl, sym, ◌∙◌, ap, subst, append-nil}
use Rattle.std.specs.Prelude.{option_map}
use Rattle.cfg_types.specs.Environment.{Variables}
use Rattle.cfg_types.specs.declared.settings.CallSettings.{CallSettings}
use Rattle.cfg_world.specs.declared.asking.Asking.{Ghosts}
use Rattle.cfg_world.specs.declared.asking.Stop.{Stop}
use Rattle.cfg_world.specs.declared.asking.Stop.TheVariants.{OutOfMemory, Open}
use Rattle.cfg_world.specs.Fits.{Pair}
use Rattle.cfg_world.specs.Inquiry.{Inquiry, Reads, after}
use Rattle.cfg_world.specs.Follows.{Ends, Halts}
use Rattle.cfg_world.proofs.Inquiries.{reads_after, waits_first, breaks_first}
use Rattle.cfg_login_token.specs.declared.login_token.LoginToken.{LoginToken}
use Rattle.cfg_token.specs.declared.sso_token.CachedSsoToken.{CachedSsoToken}
use Rattle.cfg_token.specs.declared.state.TokenState.{TokenState}
use Rattle.cfg_token.specs.declared.token_key.TokenKey.{TokenKey}
use Rattle.cfg_token.specs.declared.sections.Sectioned.{Sectioned}
use Rattle.cfg_token.specs.declared.sections.Sectioned.TheVariants.{Hit, Load}
use Rattle.cfg_token.specs.Rules.{Rules, Tells}
use Rattle.cfg_token.specs.Sections.{answer_of, ok_of}
use Rattle.cfg_token.specs.Histories.{FinishedLoad, TokenLoad, History, token_in, kept_in, last_in, load_in, kept_by, trimmed, with_section}
use Rattle.cfg_token.specs.SectionCalls.{section_on, is_memory, SectionEnds}
use Rattle.cfg_token.proofs.HistorySteps.{noted_by-more, token_of_load}
use Rattle.cfg_token.proofs.Outcomes.{section_tells}
use Rattle.cfg_kept.specs.declared.keyed.EitherState.{EitherState}
use Rattle.cfg_kept.specs.declared.keyed.EitherState.TheVariants as either
use Rattle.cfg_kept.specs.Kinds.{Value, KeptToken, States, with_value}
use Rattle.cfg_kept.specs.KeyedStates.{key_of, sso_kept, login_kept, StateAnswers, trimmed_state, HasNoRecords}
use Rattle.cfg_kept.specs.Holds.{Holdings, HoldsFollows, HoldsOne}
use Rattle.cfg_kept.specs.SectionHoldings.{kept_of, section_leaves, settled, TokenSpot, IsSpot, kept_section, section_holding}
use Rattle.cfg_kept.specs.SsoHoldings.{sso_at}
use Rattle.cfg_kept.specs.LoginHoldings.{login_at}
use Rattle.cfg_kept.proofs.OneHolding.{holding_ended, holding_halted}

kept_by-more : {T E : Type 0} (kept : Option T) (records : List (FinishedLoad T E)) (r : FinishedLoad T E) → kept_by kept (records ++ r ∷ []) ≡ ok_of r.outcome
kept_by-more kept [] r = refl
kept_by-more kept (x ∷ records) r = kept_by-more (ok_of x.outcome) records r

-- a history with a section's record keeps what the section leaves
pub history_keeps : {T E : Type 0} (h : History T E) (receipts : List Pair) (made : Sectioned T E) → kept_of (with_section h receipts made) ≡ section_leaves (kept_of h) made
history_keeps {T} {E} h receipts (Hit token) = ap (λ (records : List (FinishedLoad T E)). kept_of (let now : History T E = record h { records = records } in now)) (append-nil h.records)
history_keeps {T} {E} h receipts (Load l) =
    let r : FinishedLoad T E = record { receipts = receipts; outcome = l.outcome; noted = l.noted } in
    rw (kept_by-more (token_in h.load) h.records r, noted_by-more h.last h.records r) refl

-- the load that was found has the token that is kept
pub found_value : {T E : Type 0} (h : History T E) (load : Option (TokenLoad T E)) → load ≡ load_in h → token_in load ≡ kept_in h
found_value h load is = ap token_in is ∙ token_of_load h.load h.last h.records

-- a trimmed history keeps the same
pub trimmed_keeps : {T E : Type 0} (h : History T E) → kept_of (trimmed h) ≡ kept_of h
trimmed_keeps {T} {E} h = ap (λ (token : Option T). let kept : KeptToken T = record { token = token; last = last_in h } in kept) (token_of_load h.load h.last h.records)

pub trimmed_sso : (state : Option EitherState) → sso_kept (option_map trimmed_state state) ≡ sso_kept state
trimmed_sso None = refl
trimmed_sso (Some (either.Sso state)) = trimmed_keeps state.loads
trimmed_sso (Some (either.Login state)) = refl

pub trimmed_login : (state : Option EitherState) → login_kept (option_map trimmed_state state) ≡ login_kept state
trimmed_login None = refl
trimmed_login (Some (either.Sso state)) = refl
trimmed_login (Some (either.Login state)) = trimmed_keeps state.loads

pub trimmed_key : (state : Option EitherState) → key_of (option_map trimmed_state state) ≡ key_of state
trimmed_key None = refl
trimmed_key (Some (either.Sso state)) = refl
trimmed_key (Some (either.Login state)) = refl

pub trimmed_records : (state : Option EitherState) → IfSome (option_map trimmed_state state) HasNoRecords
trimmed_records None = tt
trimmed_records (Some (either.Sso state)) = refl
trimmed_records (Some (either.Login state)) = refl

-- a section that answered did not want memory
pub answered_stays : {A T E : Type 0} (t : Rules T E) → Tells t → (a : Ghosts A) (env : Variables) (settings : CallSettings) (old : A) (before : Option (TokenState T E)) (new : A) (later : Option (TokenState T E)) (answer : Result T E) →
    StateAnswers t a env settings old before new later answer → is_memory t answer ≡ true → later ≡ before
answered_stays t tells a env settings old None new None answer h memory = refl
answered_stays t tells a env settings old None new (Some later) answer h memory = absurd h
answered_stays t tells a env settings old (Some before) new None answer h memory = absurd h
answered_stays t tells a env settings old (Some before) new (Some later) answer h memory =
    absurd (no (sym memory ∙ ap (is_memory t) h.answers ∙ section_tells t tells before.key env settings (kept_in before.loads) (last_in before.loads) h.ends.part h.made h.ends.reads))
  where
    no : true ≡ false → ⊥
    no e = cc

module _ {W : Type 0} (w : Ghosts W) where
  halts_first : {A B : Type 0} (p : Inquiry A) (f : A → Inquiry B) (old new : W) (stop : Stop) → Halts w p old new stop → Halts w (after p f) old new stop
  halts_first p f old new Open h = waits_first f h
  halts_first p f old new OutOfMemory h = breaks_first f h

module _ {T E W : Type 0} (t : Rules T E) (s : TokenSpot T) (is_spot : IsSpot s) (w : Ghosts W) (key : TokenKey) (env : Variables) (settings : CallSettings) where
  section_settled : (old new : W) (before later : History T E) (made : Sectioned T E) → SectionEnds t w key env settings old before new later made →
      Ends w (kept_section t key env settings (kept_of before)) old new (answer_of made, section_leaves (kept_of before) made)
  section_settled old new before later made m =
      let out : Result T E × KeptToken T = (answer_of made, section_leaves (kept_of before) made) in
      record {
        part = m.part;
        grows = m.grows;
        fits = m.fits;
        made = m.made_of;
        same = m.same;
        counted = m.counted;
        stands = m.stands;
        reads = subst (λ journal. Reads (kept_section t key env settings (kept_of before)) journal out) (append-nil m.part)
            (reads_after (section_on t key before env settings) (settled (kept_of before)) m.part [] made out m.reads refl);
      }

  -- what is found is a section's own
  on_found : (P : Inquiry (Result T E × KeptToken T) → Type 0) (was : KeptToken T) → P (kept_section t key env settings was) → P (kept_section t key env settings (s.token_in (s.at was)))
  on_found P was h = subst (λ k. P (kept_section t key env settings k)) (sym (is_spot.is_in was)) h

  -- a section that answered: what it left is kept
  pub section_held : (old new : W) (found more : List Value) (before later : History T E) (made : Sectioned T E) (answer : Result T E) → answer ≡ answer_of made → more ≡ found ++ s.at (kept_of before) ∷ [] →
      SectionEnds t w key env settings old before new later made →
      HoldsOne w (section_holding t s key env settings) old new found more (s.at (kept_of before)) (s.at (kept_of later)) (Ok answer)
  unfolding section_holding
  section_held old new found more before later made answer is e m =
      let leaves = ap (λ h. s.at (kept_of h)) m.history ∙ ap s.at (history_keeps before m.part made) in
      let left = section_leaves (kept_of before) made in
      subst (λ a. HoldsOne w (section_holding t s key env settings) old new found more (s.at (kept_of before)) (s.at (kept_of later)) (Ok a)) (sym is)
      (subst (λ v. HoldsOne w (section_holding t s key env settings) old new found more (s.at (kept_of before)) v (Ok (answer_of made))) (sym leaves)
      (holding_ended w s.spot s.at (λ f. kept_section t key env settings (s.token_in f)) old new found more (s.at (kept_of before)) (answer_of made) left (is_spot.at_spot (kept_of before)) e
      (on_found (λ p. Ends w p old new (answer_of made, left)) (kept_of before) (section_settled old new before later made m))))

  -- one that was stopped: what is kept is as it was
  pub section_halted : (old new : W) (found more : List Value) (before later : History T E) (stop : Stop) (result : Result (Result T E) Stop) → result ≡ Err stop → later ≡ before → more ≡ found ++ s.at (kept_of before) ∷ [] →
      Halts w (section_on t key before env settings) old new stop →
      HoldsOne w (section_holding t s key env settings) old new found more (s.at (kept_of before)) (s.at (kept_of later)) result
  unfolding section_holding
  section_halted old new found more before later stop result out same e h =
      subst (λ r. HoldsOne w (section_holding t s key env settings) old new found more (s.at (kept_of before)) (s.at (kept_of later)) r) (sym out)
      (holding_halted w s.spot s.at (λ f. kept_section t key env settings (s.token_in f)) old new found more (s.at (kept_of before)) (s.at (kept_of later)) stop (is_spot.at_spot (kept_of before)) (ap (λ k. s.at (kept_of k)) same) e
      (on_found (λ p. Halts w p old new stop) (kept_of before) (halts_first w (section_on t key before env settings) (settled (kept_of before)) old new stop h)))

-- the states after a section: the token of the other kind stays
pub sso_left : (states : States) (sso : KeptToken CachedSsoToken) (login : KeptToken LoginToken) → login ≡ states.login → record states { sso = sso; login = login } ≡ with_value states (sso_at sso)
sso_left states sso login stays = ap (λ (l : KeptToken LoginToken). record states { sso = sso; login = l }) stays

pub login_left : (states : States) (login : KeptToken LoginToken) (sso : KeptToken CachedSsoToken) → sso ≡ states.sso → record states { sso = sso; login = login } ≡ with_value states (login_at login)
login_left states login sso stays = ap (λ (s : KeptToken CachedSsoToken). record states { sso = s; login = login }) stays

-- a section by settings that are told
pub section_told : {T E W : Type 0} (t : Rules T E) (s : TokenSpot T) (w : Ghosts W) (key : Option TokenKey) (env known : Variables) (settings set : CallSettings) (old new : W) (before later : Holdings) (result : Result (Result T E) Stop) →
    env ≡ known → settings ≡ set → IfSome key (λ k. HoldsFollows w (section_holding t s k env settings) old before new later result) →
    IfSome key (λ k. HoldsFollows w (section_holding t s k known set) old before new later result)
section_told t s w key env known settings set old new before later result same told h =
    subst (λ e. IfSome key (λ k. HoldsFollows w (section_holding t s k e set) old before new later result)) same
    (subst (λ x. IfSome key (λ k. HoldsFollows w (section_holding t s k env x) old before new later result)) told h)
