-- A section on what was found behind locks, by its steps.
use Rattle.std.proofs.Common.{◌≡◌, ◌∷◌, Option, Some, Result, Ok, Err, refl, sym, subst}
use Rattle.cfg_base.specs.Moment.{Moment}
use Rattle.cfg_types.specs.Environment.{Variables}
use Rattle.cfg_types.specs.declared.settings.CallSettings.{CallSettings}
use Rattle.cfg_world.specs.declared.ask.Question.TheVariants.{Now}
use Rattle.cfg_world.specs.declared.asking.Asking.{Ghosts}
use Rattle.cfg_world.specs.declared.asking.Stop.{Stop}
use Rattle.cfg_world.specs.declared.asking.Stop.TheVariants.{OutOfMemory}
use Rattle.cfg_world.specs.Fits.{Pair}
use Rattle.cfg_world.specs.Follows.{Halts}
use Rattle.cfg_world.specs.Inquiry.{Reads}
use Rattle.cfg_world.specs.Leaves.{clock, moment_of}
use Rattle.cfg_world.proofs.Inquiries.{breaks_here}
use Rattle.cfg_token.specs.declared.sections.Sectioned.{Sectioned}
use Rattle.cfg_token.specs.declared.sections.Sectioned.TheVariants.{Hit}
use Rattle.cfg_token.specs.declared.token_key.TokenKey.{TokenKey}
use Rattle.cfg_token.specs.Rules.{Rules}
use Rattle.cfg_token.specs.Sections.{section, hit, by_reading, answer_of}
use Rattle.cfg_token.specs.Notes.{ReadsClock}
use Rattle.cfg_token.specs.Histories.{TokenLoad, History, token_in, load_in, last_in, kept_in, with_section}
use Rattle.cfg_token.specs.SectionCalls.{SectionEnds, SectionEndsAfter, SectionHaltsAfter}
use Rattle.cfg_token.specs.SharedSections.{found_history, FindsAnswers, FindsFollows, FindsMade, FindsMadeAfter}
use Rattle.cfg_token.proofs.HistorySteps.{token_loaded}
use Rattle.cfg_token.proofs.SectionSteps.{ended_hit, halted_first, section_follows}

module _ {T E : Type 0} (t : Rules T E) {W : Type 0} (w : Ghosts W) (key : TokenKey) (env : Variables) (settings : CallSettings) where
  -- what was made is the answer
  pub finds_answers : (old new : W) (load : Option (TokenLoad T E)) (last : Option Moment) (made : Sectioned T E) (answer : Result T E) →
      answer ≡ answer_of made → FindsMade t w key env settings old new load last (Ok made) → FindsAnswers t w key env settings old new load last answer
  finds_answers old new load last made answer is m =
      let e = m.1 in
      record { made = made; answers = is; ends = record { part = e.part; grows = e.grows; fits = e.fits; made = e.made_of; same = e.same; counted = e.counted; stands = e.stands; reads = e.reads } }

  pub finds_stops : (old new : W) (load : Option (TokenLoad T E)) (last : Option Moment) (stop : Stop) (result : Result (Result T E) Stop) → result ≡ Err stop →
      FindsMade t w key env settings old new load last (Err stop) → FindsFollows t w key env settings old new load last result
  finds_stops old new load last stop result is m = subst (λ r. FindsFollows t w key env settings old new load last r) (sym is) m.1.halts

  -- an answer, as a section on a history that begins with what was found
  pub answers_found : (old new : W) (load : Option (TokenLoad T E)) (last : Option Moment) (answer : Result T E) (a : FindsAnswers t w key env settings old new load last answer) →
      SectionEnds t w key env settings old (found_history load last) new (with_section (found_history load last) a.ends.part a.made) a.made
  answers_found old new load last answer a =
      let e = a.ends in
      record { part = e.part; grows = e.grows; history = refl; fits = e.fits; made_of = e.made; same = e.same; counted = e.counted; stands = e.stands; reads = e.reads }

  -- the first reading stopped
  pub finds_halted_first : (old new : W) (load : Option (TokenLoad T E)) (last : Option Moment) (stop : Stop) → Halts w clock old new stop → FindsMade t w key env settings old new load last (Err stop)
  finds_halted_first old new load last stop h = (found_history load last, halted_first t w key env settings (found_history load last) old new stop h)

  -- a section, by its first reading and what follows that
  pub finds_follows : (old mid new : W) (first : Pair) (load : Option (TokenLoad T E)) (last : Option Moment) (result : Result (Sectioned T E) Stop) → ReadsClock w old mid first →
      FindsMadeAfter t w key env settings first mid new load last result → FindsMade t w key env settings old new load last result
  finds_follows old mid new first load last result c m = (m.0, section_follows t w key env settings (found_history load last) old mid new first c m.0 result m.1)

  module _ (first : Pair) where
    -- memory ran out before anything more was asked
    pub finds_broken : (old : W) (load : Option (TokenLoad T E)) (last : Option Moment) (result : Result (Sectioned T E) Stop) → result ≡ Err OutOfMemory → FindsMadeAfter t w key env settings first old old load last result
    finds_broken old load last result is =
        subst (λ r. FindsMadeAfter t w key env settings first old old load last r) (sym is) (found_history load last, record { halts = breaks_here; history = refl })

    -- the published token is handed out
    pub finds_hit : (old : W) (load : Option (TokenLoad T E)) (last : Option Moment) (token : T) → first.0 ≡ Now → Some token ≡ hit t (token_in load) (moment_of first.1) →
        FindsMadeAfter t w key env settings first old old load last (Ok (Hit token))
    finds_hit old load last token is h = (found_history load last, ended_hit t w key env settings (found_history load last) first old token is h)

    module _ (old new : W) (before later : History T E) (load : Option (TokenLoad T E)) (last : Option Moment) (found : load ≡ load_in before) (noted : last ≡ last_in before) where
      -- a section on loads that are locked, by what they keep
      pub finds_locked : (made : Sectioned T E) → SectionEndsAfter t w key env settings first old before new later made → FindsMadeAfter t w key env settings first old new load last (Ok made)
      finds_locked made e = (
        with_section (found_history load last) (first ∷ e.part) made,
        record {
          part = e.part;
          grows = e.grows;
          history = refl;
          fits = e.fits;
          made_of = e.made_of;
          same = e.same;
          counted = e.counted;
          stands = e.stands;
          reads = subst (λ k. Reads (section t key env settings k last) (first ∷ e.part) made) (sym (token_loaded before load found))
              (subst (λ l. Reads (section t key env settings (kept_in before) l) (first ∷ e.part) made) (sym noted) e.reads);
        },
      )

      -- one that was stopped
      pub finds_stopped : (stop : Stop) (result : Result (Sectioned T E) Stop) → result ≡ Err stop → SectionHaltsAfter t w key env settings first old before new later stop →
          FindsMadeAfter t w key env settings first old new load last result
      finds_stopped stop result is e = subst (λ r. FindsMadeAfter t w key env settings first old new load last r) (sym is) (
        found_history load last,
        record {
          halts = subst (λ k. Halts w (by_reading t key env settings k last (moment_of first.1)) old new stop) (sym (token_loaded before load found))
              (subst (λ l. Halts w (by_reading t key env settings (kept_in before) l (moment_of first.1)) old new stop) (sym noted) e.halts);
          history = refl;
        },
      )
