-- What a section leaves of the journal and of the state.
use Rattle.std.specs.Prelude.{◌≡◌, Bool, false, List, [], ◌∷◌, ◌++◌, Result, Ok, Err}
use Rattle.cfg_types.specs.Environment.{Variables}
use Rattle.cfg_types.specs.declared.settings.CallSettings.{CallSettings}
use Rattle.cfg_world.specs.declared.ask.Question.TheVariants.{Now}
use Rattle.cfg_world.specs.declared.asking.Asking.{Ghosts}
use Rattle.cfg_world.specs.declared.asking.Stop.{Stop}
use Rattle.cfg_world.specs.Fits.{Pair, EachFits}
use Rattle.cfg_world.specs.Faults.{Counted}
use Rattle.cfg_world.specs.Asked.{Same, StandsOn}
use Rattle.cfg_world.specs.Inquiry.{Inquiry, Reads}
use Rattle.cfg_world.specs.Follows.{Halts, Breaks}
use Rattle.cfg_world.specs.Leaves.{moment_of}
use Rattle.cfg_token.specs.declared.token_key.TokenKey.{TokenKey}
use Rattle.cfg_token.specs.declared.sections.Sectioned.{Sectioned}
use Rattle.cfg_token.specs.Rules.{Rules}
use Rattle.cfg_token.specs.Sections.{section, by_reading, answer_of}
use Rattle.cfg_token.specs.Histories.{History, kept_in, last_in, with_section}

-- a section on what a state keeps
abbrev pub section_on : {T E : Type 0} → Rules T E → TokenKey → History T E → Variables → CallSettings → Inquiry (Sectioned T E)
section_on t key h env settings = section t key env settings (kept_in h) (last_in h)

-- The journal grew by the section's part. The state gained the record of a finished load, whose
-- receipts are this part; a hit left it as it was.
pub record SectionEnds {A T E : Type 0} (t : Rules T E) (a : Ghosts A) (key : TokenKey) (env : Variables) (settings : CallSettings) (old : A) (before : History T E) (new : A) (later : History T E) (made : Sectioned T E) : Type 0 where
  pub part : List Pair
  pub grows : a.journal new ≡ a.journal old ++ part
  pub history : later ≡ with_section before part made
  pub fits : EachFits part
  pub made_of : a.made_of new ≡ a.made_of old
  pub same : Same (a.allows old) (a.allows new)
  pub counted : Counted part (a.faults old) (a.faults new)
  pub stands : StandsOn (a.stands old) (a.stands new) part
  pub reads : Reads (section_on t key before env settings) part made

-- A section that was stopped left the state as it was.
pub record SectionHalts {A T E : Type 0} (t : Rules T E) (a : Ghosts A) (key : TokenKey) (env : Variables) (settings : CallSettings) (old : A) (before : History T E) (new : A) (later : History T E) (stop : Stop) : Type 0 where
  pub halts : Halts a (section_on t key before env settings) old new stop
  pub history : later ≡ before

abbrev pub SectionFollows : {A T E : Type 0} → Rules T E → Ghosts A → TokenKey → Variables → CallSettings → A → History T E → A → History T E → Result (Sectioned T E) Stop → Type 0
SectionFollows t a key env settings old before new later (Ok made) = SectionEnds t a key env settings old before new later made
SectionFollows t a key env settings old before new later (Err stop) = SectionHalts t a key env settings old before new later stop

-- what follows the first reading of a section
abbrev pub after_reading : {T E : Type 0} → Rules T E → TokenKey → History T E → Variables → CallSettings → Pair → Inquiry (Sectioned T E)
after_reading t key h env settings first = by_reading t key env settings (kept_in h) (last_in h) (moment_of first.1)

-- A section whose first reading was asked for before: its part is this entry, and then what the journal gained.
pub record SectionEndsAfter {A T E : Type 0} (t : Rules T E) (a : Ghosts A) (key : TokenKey) (env : Variables) (settings : CallSettings) (first : Pair) (old : A) (before : History T E) (new : A) (later : History T E) (made : Sectioned T E) : Type 0 where
  pub part : List Pair
  pub grows : a.journal new ≡ a.journal old ++ part
  pub history : later ≡ with_section before (first ∷ part) made
  pub fits : EachFits part
  pub made_of : a.made_of new ≡ a.made_of old
  pub same : Same (a.allows old) (a.allows new)
  pub counted : Counted part (a.faults old) (a.faults new)
  pub stands : StandsOn (a.stands old) (a.stands new) part
  pub reads : Reads (section_on t key before env settings) (first ∷ part) made

-- Such a section that was stopped left the state as it was.
pub record SectionHaltsAfter {A T E : Type 0} (t : Rules T E) (a : Ghosts A) (key : TokenKey) (env : Variables) (settings : CallSettings) (first : Pair) (old : A) (before : History T E) (new : A) (later : History T E) (stop : Stop) : Type 0 where
  pub halts : Halts a (after_reading t key before env settings first) old new stop
  pub history : later ≡ before

abbrev pub SectionFollowsAfter : {A T E : Type 0} → Rules T E → Ghosts A → TokenKey → Variables → CallSettings → Pair → A → History T E → A → History T E → Result (Sectioned T E) Stop → Type 0
SectionFollowsAfter t a key env settings first old before new later (Ok made) = SectionEndsAfter t a key env settings first old before new later made
SectionFollowsAfter t a key env settings first old before new later (Err stop) = SectionHaltsAfter t a key env settings first old before new later stop

-- the answer is that memory ran out
abbrev pub is_memory : {T E : Type 0} → Rules T E → Result T E → Bool
is_memory t (Ok token) = false
is_memory t (Err e) = t.is_memory e

-- A section that gave this answer.
pub record Answers {A T E : Type 0} (t : Rules T E) (a : Ghosts A) (key : TokenKey) (env : Variables) (settings : CallSettings) (old : A) (before : History T E) (new : A) (later : History T E) (answer : Result T E) : Type 0 where
  pub made : Sectioned T E
  pub answers : answer ≡ answer_of made
  pub ends : SectionEnds t a key env settings old before new later made

-- A section for which memory ran out. The journal gained the beginning of its part.
pub record Interrupted {A T E : Type 0} (t : Rules T E) (a : Ghosts A) (key : TokenKey) (env : Variables) (settings : CallSettings) (old : A) (before : History T E) (new : A) (later : History T E) : Type 0 where
  pub breaks : Breaks a (section_on t key before env settings) old new
  pub history : later ≡ before

-- what a section answers, or why it was stopped
abbrev pub SectionAnswers : {A T E : Type 0} → Rules T E → Ghosts A → TokenKey → Variables → CallSettings → A → History T E → A → History T E → Result (Result T E) Stop → Type 0
SectionAnswers t a key env settings old before new later (Ok answer) = Answers t a key env settings old before new later answer
SectionAnswers t a key env settings old before new later (Err stop) = SectionHalts t a key env settings old before new later stop

-- A section whose first reading was asked for before, that gave this answer.
pub record AnswersAfter {A T E : Type 0} (t : Rules T E) (a : Ghosts A) (key : TokenKey) (env : Variables) (settings : CallSettings) (first : Pair) (old : A) (before : History T E) (new : A) (later : History T E) (answer : Result T E) : Type 0 where
  pub made : Sectioned T E
  pub answers : answer ≡ answer_of made
  pub ends : SectionEndsAfter t a key env settings first old before new later made

-- One for which memory ran out. The journal gained the beginning of what follows the reading.
pub record InterruptedAfter {A T E : Type 0} (t : Rules T E) (a : Ghosts A) (key : TokenKey) (env : Variables) (settings : CallSettings) (first : Pair) (old : A) (before : History T E) (new : A) (later : History T E) : Type 0 where
  pub breaks : Breaks a (after_reading t key before env settings first) old new
  pub history : later ≡ before

abbrev pub SectionAnswersAfter : {A T E : Type 0} → Rules T E → Ghosts A → TokenKey → Variables → CallSettings → Pair → A → History T E → A → History T E → Result (Result T E) Stop → Type 0
SectionAnswersAfter t a key env settings first old before new later (Ok answer) = AnswersAfter t a key env settings first old before new later answer
SectionAnswersAfter t a key env settings first old before new later (Err stop) = SectionHaltsAfter t a key env settings first old before new later stop

-- The entry is the last of the journal, and a reading of the clock.
pub record EndsWithReading (journal : List Pair) (first : Pair) : Type 0 where
  pub earlier : List Pair
  pub last : journal ≡ earlier ++ first ∷ []
  pub asked : first.0 ≡ Now
