-- What a section leaves, by its steps.
use Rattle.std.proofs.Common.{◌≡◌, true, List, [], ◌∷◌, ◌++◌, Option, Some, None, Result, Ok, Err, refl, sym, ◌∙◌, ap, subst, append-nil, append_assoc}
use Rattle.cfg_base.specs.Moment.{Moment}
use Rattle.cfg_types.specs.Environment.{Variables}
use Rattle.cfg_types.specs.declared.settings.CallSettings.{CallSettings}
use Rattle.cfg_world.specs.declared.ask.Question.TheVariants.{Now}
use Rattle.cfg_world.specs.declared.asking.Asking.{Ghosts}
use Rattle.cfg_world.specs.declared.asking.Stop.{Stop}
use Rattle.cfg_world.specs.declared.asking.Stop.TheVariants.{OutOfMemory, Open}
use Rattle.cfg_world.specs.Asked.{StandsOn}
use Rattle.cfg_world.specs.Faults.{Counted}
use Rattle.cfg_world.specs.Fits.{Pair, EachFits}
use Rattle.cfg_world.specs.Follows.{Waits, Breaks, Halts}
use Rattle.cfg_world.specs.Inquiry.{Inquiry, Done, Ask, Reads, Begun}
use Rattle.cfg_world.specs.Leaves.{clock, moment_of}
use Rattle.cfg_world.proofs.Counts.{Same-trans, StandsOn-then, Counted-then}
use Rattle.cfg_world.proofs.Inquiries.{waits_after, waits_first, breaks_after, breaks_first, breaks_here}
use Rattle.cfg_token.specs.declared.loading.Loaded.{Loaded}
use Rattle.cfg_token.specs.declared.sections.Sectioned.{Sectioned}
use Rattle.cfg_token.specs.declared.sections.Sectioned.TheVariants.{Hit, Load}
use Rattle.cfg_token.specs.declared.token_key.TokenKey.{TokenKey}
use Rattle.cfg_token.specs.Rules.{Rules}
use Rattle.cfg_token.specs.Sections.{section, load, hit, by_reading, ok_of, noted_or}
use Rattle.cfg_token.specs.Notes.{NotedEnds, ReadsClock}
use Rattle.cfg_token.specs.Histories.{FinishedLoad, TokenLoad, History, trimmed, IsHistory, IsStored, Machine, token_in, kept_by, noted_by, kept_in, last_in, finished_by, with_section}
use Rattle.cfg_token.specs.SectionCalls.{section_on, after_reading, SectionEnds, SectionHalts, SectionFollows, SectionEndsAfter, SectionFollowsAfter}
use Rattle.cfg_token.proofs.HistorySteps.{machine_more, kept_by-more, noted_by-more, front_is, token_of_load}
use Rattle.cfg_token.proofs.ReadingSteps.{noted_hit, noted_load, waits_load, breaks_load}

-- A whole reading is a beginning.
pub read_is_begun : {R : Type 0} (p : Inquiry R) (J : List Pair) (out : R) → Reads p J out → Begun p J
read_is_begun (Done r) [] out h = tt
read_is_begun (Done r) (e ∷ J) out h = absurd h
read_is_begun (Ask q next) [] out h = absurd h
read_is_begun (Ask q next) (e ∷ J) out h = (h.0, read_is_begun (next e.1) J out h.1)

module _ {W : Type 0} {w : Ghosts W} where
  -- memory ran out after the last answer
  pub breaks_ended : {R : Type 0} {p : Inquiry R} {old new : W} (r s : List Pair) {out : R} → NotedEnds w p old r new s out → Breaks w p old new
  breaks_ended {p = p} r s {out = out} a = record { part = a.part; grows = a.grows; fits = a.fits; made = a.made; same = a.same; counted = a.counted; begun = read_is_begun p a.part out a.reads }

-- ---- a section whose first reading was asked for before

module _ {T E : Type 0} (t : Rules T E) {W : Type 0} (w : Ghosts W) (key : TokenKey) (env : Variables) (settings : CallSettings) where
  reads_first : (kept : Option T) (last : Option Moment) (first : Pair) (part : List Pair) (made : Sectioned T E) →
      first.0 ≡ Now → Reads (by_reading t key env settings kept last (moment_of first.1)) part made → Reads (section t key env settings kept last) (first ∷ part) made
  unfolding section clock
  reads_first kept last first part made is h = (is, h)

  -- the kept token is handed out
  pub ended_hit : (before : History T E) (first : Pair) (old : W) (token : T) → first.0 ≡ Now → Some token ≡ hit t (kept_in before) (moment_of first.1) →
      SectionEndsAfter t w key env settings first old before old before (Hit token)
  ended_hit before first old token is h =
      let a : NotedEnds w (after_reading t key before env settings first) old [] old [] (Hit token) = noted_hit t key env settings (kept_in before) (last_in before) (moment_of first.1) old [] token h in
      record {
        part = a.part;
        grows = a.grows;
        history = ap (λ (r : List (FinishedLoad T E)). record before { records = r }) (sym (append-nil before.records));
        fits = a.fits;
        made_of = a.made;
        same = a.same;
        counted = a.counted;
        stands = a.stands;
        reads = reads_first (kept_in before) (last_in before) first a.part (Hit token) is a.reads;
      }

  module _ (before : History T E) (first : Pair) (old new : W) (attempt : Option Moment) (missed : None ≡ hit t (kept_in before) (moment_of first.1)) (last_is : attempt ≡ last_in before) where
    -- what a load leaves, as what follows the first reading
    pub load_follows : (held receipts : List Pair) (l : Loaded T E) → NotedEnds w (load t key env settings attempt) old held new receipts l → NotedEnds w (after_reading t key before env settings first) old held new receipts (Load l)
    load_follows held receipts l a = noted_load t key env settings (kept_in before) (last_in before) (moment_of first.1) missed (subst (λ x. NotedEnds w (load t key env settings x) old held new receipts l) last_is a)

    pub load_halts : (stop : Stop) → Halts w (load t key env settings attempt) old new stop → Halts w (after_reading t key before env settings first) old new stop
    load_halts Open a = waits_load t key env settings (kept_in before) (last_in before) (moment_of first.1) missed (subst (λ x. Waits w (load t key env settings x) old new) last_is a)
    load_halts OutOfMemory a = breaks_load t key env settings (kept_in before) (last_in before) (moment_of first.1) missed (subst (λ x. Breaks w (load t key env settings x) old new) last_is a)

    pub load_breaks : (held receipts : List Pair) (l : Loaded T E) → NotedEnds w (load t key env settings attempt) old held new receipts l → Breaks w (after_reading t key before env settings first) old new
    load_breaks held receipts l a = breaks_ended held receipts (load_follows held receipts l a)

    -- the receipts of a load are a section's part
    pub load_reads : (held receipts : List Pair) (l : Loaded T E) → first.0 ≡ Now → held ≡ first ∷ [] → NotedEnds w (load t key env settings attempt) old held new receipts l → Reads (section_on t key before env settings) receipts (Load l)
    load_reads held receipts l is e a =
        let b = load_follows held receipts l a in
        subst (λ x. Reads (section_on t key before env settings) x (Load l)) (sym (b.receipts ∙ ap (λ x. x ++ b.part) e)) (reads_first (kept_in before) (last_in before) first b.part (Load l) is b.reads)

    pub ended_load : (later : History T E) (held receipts : List Pair) (l : Loaded T E) → first.0 ≡ Now → held ≡ first ∷ [] → NotedEnds w (load t key env settings attempt) old held new receipts l →
        later ≡ with_section before receipts (Load l) → SectionEndsAfter t w key env settings first old before new later (Load l)
    ended_load later held receipts l is e a history =
        let b = load_follows held receipts l a in
        record {
          part = b.part;
          grows = b.grows;
          history = history ∙ ap (λ x. with_section before x (Load l)) (b.receipts ∙ ap (λ x. x ++ b.part) e);
          fits = b.fits;
          made_of = b.made;
          same = b.same;
          counted = b.counted;
          stands = b.stands;
          reads = reads_first (kept_in before) (last_in before) first b.part (Load l) is b.reads;
        }

-- ---- a whole section

module _ {T E : Type 0} (t : Rules T E) {W : Type 0} (w : Ghosts W) (key : TokenKey) (env : Variables) (settings : CallSettings) (before : History T E) where
  -- the first reading stopped
  pub halted_first : (old new : W) (stop : Stop) → Halts w clock old new stop → SectionHalts t w key env settings old before new before stop
  unfolding section
  halted_first old new Open a = record { halts = waits_first (λ r. by_reading t key env settings (kept_in before) (last_in before) r) a; history = refl }
  halted_first old new OutOfMemory a = record { halts = breaks_first (λ r. by_reading t key env settings (kept_in before) (last_in before) r) a; history = refl }

  module _ (old mid new : W) (first : Pair) (c : ReadsClock w old mid first) where
    section_halts : (stop : Stop) → Halts w (after_reading t key before env settings first) mid new stop → Halts w (section_on t key before env settings) old new stop
    unfolding section
    section_halts Open a = waits_after (λ r. by_reading t key env settings (kept_in before) (last_in before) r) c.ends a
    section_halts OutOfMemory a = breaks_after (λ r. by_reading t key env settings (kept_in before) (last_in before) r) c.ends a

    section_ends : (later : History T E) (made : Sectioned T E) → SectionEndsAfter t w key env settings first mid before new later made → SectionEnds t w key env settings old before new later made
    section_ends later made a = record {
      part = first ∷ a.part;
      grows = a.grows ∙ ap (λ x. x ++ a.part) (c.ends.grows ∙ ap (λ x. w.journal old ++ x) c.part_is) ∙ append_assoc (w.journal old) (first ∷ []) a.part;
      history = a.history;
      fits = ((subst (λ x. EachFits x) c.part_is c.ends.fits).0, a.fits);
      made_of = a.made_of ∙ c.ends.made;
      same = Same-trans c.ends.same a.same;
      counted = Counted-then (subst (λ x. Counted x (w.faults old) (w.faults mid)) c.part_is c.ends.counted) a.counted;
      stands = StandsOn-then (w.stands old) (w.stands mid) (w.stands new) (first ∷ []) a.part (subst (λ x. StandsOn (w.stands old) (w.stands mid) x) c.part_is c.ends.stands) a.stands;
      reads = a.reads;
    }

    -- a section, by its first reading and what follows that
    pub section_follows : (later : History T E) (result : Result (Sectioned T E) Stop) → SectionFollowsAfter t w key env settings first mid before new later result → SectionFollows t w key env settings old before new later result
    section_follows later (Ok made) a = section_ends later made a
    section_follows later (Err stop) a = record { halts = section_halts stop a.halts; history = a.history }

pub ruleset after_steps = (breaks_here, breaks_ended, waits_load, breaks_load)

-- ---- what is stored

-- The history with the record of a load, and what is stored beside it.
pub stored_load : {T E : Type 0} (t : Rules T E) (h : History T E) (key : TokenKey) (env : Variables) (settings : CallSettings) (receipts : List Pair) (l : Loaded T E)
    {attempt now_attempt before : Option Moment} {kept : Option T} {records : List (FinishedLoad T E)} →
    IsHistory t h → t.is_kind key ≡ true → attempt ≡ last_in h → Reads (section_on t key h env settings) receipts (Load l) →
    records ≡ h.records ++ finished_by receipts l ∷ [] → kept ≡ ok_of l.outcome → now_attempt ≡ noted_or l.noted attempt → before ≡ attempt →
    IsStored t (record h { records = records }) kept now_attempt before
stored_load {T} {E} t h key env settings receipts l is k a reads all same_kept same_now same_before =
    let r : FinishedLoad T E = finished_by receipts l in
    record {
      history = subst (λ x. Machine t (token_in h.load) h.last x) (sym all) (machine_more (token_in h.load) h.last h.records r is (record { key = key; env = env; settings = settings; of_kind = k; reads = reads }));
      kept_is = same_kept ∙ sym (kept_by-more (token_in h.load) h.records r) ∙ ap (kept_by (token_in h.load)) (sym all);
      attempt_is = same_now ∙ ap (noted_or l.noted) a ∙ sym (noted_by-more h.last h.records r) ∙ ap (noted_by h.last) (sym all);
      before_is = λ front x e. same_before ∙ a ∙ ap (noted_by h.last) (front_is h.records front r x (sym all ∙ e));
    }

no_record : {A : Type 0} (front : List A) (x : A) → (let none : List A = [] in none) ≡ front ++ x ∷ [] → ⊥
no_record [] x e = cc
no_record (a ∷ front) x e = cc

-- where there are no records
pub stored_nothing : {T E : Type 0} (t : Rules T E) (load : Option (TokenLoad T E)) (last before : Option Moment) (kept : Option T) → kept ≡ token_in load →
    IsStored t (record { load = load; last = last; records = [] }) kept last before
stored_nothing t load last before kept is = record { history = tt; kept_is = is; attempt_is = refl; before_is = λ front x e. absurd (no_record front x e) }

-- What is stored stays where the present becomes the origin.
pub stored_trimmed : {T E : Type 0} (t : Rules T E) (h : History T E) (kept : Option T) (attempt before : Option Moment) → IsStored t h kept attempt before → IsStored t (trimmed h) kept attempt before
stored_trimmed t h kept attempt before s = record {
  history = tt;
  kept_is = s.kept_is ∙ sym (token_of_load h.load h.last h.records);
  attempt_is = s.attempt_is;
  before_is = λ front x e. absurd (no_record front x e);
}
