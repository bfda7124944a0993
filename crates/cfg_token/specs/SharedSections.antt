-- What a section of a token that callers share finds, and what it makes of that.
use Rattle.std.specs.Prelude.{◌≡◌, [], ◌⊎◌, Option, None, Result, Ok, Err}
use Rattle.cfg_base.specs.Moment.{Moment}
use Rattle.cfg_types.specs.Environment.{Variables}
use Rattle.cfg_types.specs.declared.settings.CallSettings.{CallSettings}
use Rattle.cfg_world.specs.declared.asking.Asking.{Ghosts}
use Rattle.cfg_world.specs.declared.asking.Stop.{Stop}
use Rattle.cfg_world.specs.Fits.{Pair}
use Rattle.cfg_world.specs.Follows.{Ends, Halts, Breaks}
use Rattle.cfg_world.specs.Inquiry.{Inquiry}
use Rattle.cfg_token.specs.declared.token_key.TokenKey.{TokenKey}
use Rattle.cfg_token.specs.declared.sections.Sectioned.{Sectioned}
use Rattle.cfg_token.specs.Rules.{Rules}
use Rattle.cfg_token.specs.Sections.{section, answer_of}
use Rattle.cfg_token.specs.Histories.{TokenLoad, History, token_in, load_in}
use Rattle.cfg_token.specs.SectionCalls.{SectionFollows, SectionFollowsAfter}

-- a section on this load, which gave the kept token, and on this last attempt
abbrev pub found_section : {T E : Type 0} → Rules T E → TokenKey → Variables → CallSettings → Option (TokenLoad T E) → Option Moment → Inquiry (Sectioned T E)
found_section t key env settings load last = section t key env settings (token_in load) last

-- A section found this load and this last attempt, wherever they stood, and gave this answer. The journal grew by
-- its part.
pub record FindsAnswers {A T E : Type 0} (t : Rules T E) (a : Ghosts A) (key : TokenKey) (env : Variables) (settings : CallSettings) (old new : A) (load : Option (TokenLoad T E)) (last : Option Moment) (answer : Result T E) : Type 0 where
  pub made : Sectioned T E
  pub answers : answer ≡ answer_of made
  pub ends : Ends a (found_section t key env settings load last) old new made

-- Memory ran out over such a section. The journal grew by the beginning of its part.
abbrev pub FindsInterrupted : {A T E : Type 0} → Rules T E → Ghosts A → TokenKey → Variables → CallSettings → A → A → Option (TokenLoad T E) → Option Moment → Type 0
FindsInterrupted t a key env settings old new load last = Breaks a (found_section t key env settings load last) old new

-- what such a section answers, or why it was stopped
abbrev pub FindsFollows : {A T E : Type 0} → Rules T E → Ghosts A → TokenKey → Variables → CallSettings → A → A → Option (TokenLoad T E) → Option Moment → Result (Result T E) Stop → Type 0
FindsFollows t a key env settings old new load last (Ok answer) = FindsAnswers t a key env settings old new load last answer
FindsFollows t a key env settings old new load last (Err stop) = Halts a (found_section t key env settings load last) old new stop

-- what was found, as a history that begins with it
abbrev pub found_history : {T E : Type 0} → Option (TokenLoad T E) → Option Moment → History T E
found_history load last = record { load = load; last = last; records = [] }

-- A section found this load and this last attempt, and this was made of them. What it left in their place is not told.
abbrev pub FindsMade : {A T E : Type 0} → Rules T E → Ghosts A → TokenKey → Variables → CallSettings → A → A → Option (TokenLoad T E) → Option Moment → Result (Sectioned T E) Stop → Type 0
FindsMade {A} {T} {E} t a key env settings old new load last result =
    (later : History T E) × SectionFollows t a key env settings old (found_history load last) new later result

-- The same of a section whose first reading was asked for before.
abbrev pub FindsMadeAfter : {A T E : Type 0} → Rules T E → Ghosts A → TokenKey → Variables → CallSettings → Pair → A → A → Option (TokenLoad T E) → Option Moment → Result (Sectioned T E) Stop → Type 0
FindsMadeAfter {A} {T} {E} t a key env settings first old new load last result =
    (later : History T E) × SectionFollowsAfter t a key env settings first old (found_history load last) new later result

-- The load that gave the kept token, or nothing where there was no memory for a copy.
abbrev pub IsPublishedLoad : {T E : Type 0} → History T E → Option (TokenLoad T E) → Type 0
IsPublishedLoad h load = (load ≡ load_in h) ⊎ (load ≡ None)
