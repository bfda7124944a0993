-- A section on the loads that it found.
use Rattle.std.proofs.Common.{◌≡◌, ℕ, ◌+◌, length, length-append, true, false, List, [], Option, Result, refl, sym, subst, ◌∙◌, ap}
use Rattle.std.specs.Prelude.{IfSome}
use Rattle.cfg_base.specs.Moment.{Moment}
use Rattle.cfg_types.specs.Environment.{Variables}
use Rattle.cfg_types.specs.declared.settings.CallSettings.{CallSettings}
use Rattle.cfg_world.specs.declared.asking.Asking.{Ghosts}
use Rattle.cfg_world.specs.Fits.{Pair}
use Rattle.cfg_world.specs.Inquiry.{Reads}
use Rattle.cfg_world.proofs.Inquiries.{breaks_here}
use Rattle.cfg_token.specs.declared.token_key.TokenKey.{TokenKey}
use Rattle.cfg_token.specs.declared.sections.Sectioned.{Sectioned}
use Rattle.cfg_token.specs.declared.sections.Sectioned.TheVariants.{Hit, Load}
use Rattle.cfg_token.specs.Rules.{Rules}
use Rattle.cfg_token.specs.Sections.{section}
use Rattle.cfg_token.specs.Histories.{TokenLoad, History, IsHistory, IsTokenLoad, with_section, token_in, kept_in, last_in, load_in}
use Rattle.cfg_token.specs.SectionCalls.{is_memory, Answers, Interrupted}
use Rattle.cfg_gate.specs.GatedSections.{loads_of, EndsTurn, BreaksTurn, AnswersTurn}

loads_made : {T E : Type 0} (h : History T E) (part : List Pair) (made : Sectioned T E) → length (with_section h part made).records ≡ length h.records + loads_of made
loads_made h part (Hit token) = length-append h.records []
loads_made h part (Load l) = length-append h.records _

module _ {A T E : Type 0} (t : Rules T E) {a : Ghosts A} {key : TokenKey} {env : Variables} {settings : CallSettings} {old new : A} (h later : History T E) where
  pub ends_turn : {kept : Option (TokenLoad T E)} {last : Option Moment} {answer : Result T E} → IsHistory t h → kept ≡ load_in h → IfSome kept (IsTokenLoad t) → token_in kept ≡ kept_in h → last ≡ last_in h →
      Answers t a key env settings old h new later answer → EndsTurn t a key env settings old new kept last (length h.records) (length later.records) answer
  ends_turn {kept = kept} {last = last} history is carried token n given = record {
    finds = record { loads = h; history = history; number = refl; kept_is = is; carried = carried; last_is = n };
    made = given.made;
    answers = given.answers;
    ends = record {
      part = given.ends.part;
      grows = given.ends.grows;
      fits = given.ends.fits;
      made = given.ends.made_of;
      same = given.ends.same;
      counted = given.ends.counted;
      stands = given.ends.stands;
      reads = subst (λ (k : Option T × Option Moment). Reads (section t key env settings k.0 k.1) given.ends.part given.made) (λ i. (sym token i, sym n i)) given.ends.reads;
    };
    sees = ap (λ (x : History T E). length x.records) given.ends.history ∙ loads_made h given.ends.part given.made;
  }

  pub breaks_turn : IsHistory t h → Interrupted t a key env settings old h new later → BreaksTurn t a key env settings old new (length h.records) (length later.records)
  breaks_turn history stopped = record {
    loads = h;
    history = history;
    number = refl;
    breaks = stopped.breaks;
    sees = ap (λ (x : History T E). length x.records) stopped.history;
  }

  pub answers_turn : {kept : Option (TokenLoad T E)} {last : Option Moment} {answer : Result T E} → IsHistory t h → kept ≡ load_in h → IfSome kept (IsTokenLoad t) → token_in kept ≡ kept_in h → last ≡ last_in h →
      (is_memory t answer ≡ false → Answers t a key env settings old h new later answer) → (is_memory t answer ≡ true → Interrupted t a key env settings old h new later) →
      AnswersTurn t a key env settings old new kept last (length h.records) (length later.records) answer
  answers_turn history is carried token n finished stopped = record {
    finished = λ e. ends_turn history is carried token n (finished e);
    stopped = λ e. breaks_turn history (stopped e);
  }

-- memory ran out before anything was asked
pub asks_nothing : {A T E : Type 0} {t : Rules T E} {a : Ghosts A} {key : TokenKey} {env : Variables} {settings : CallSettings} {old : A} (h : History T E) {kept : Option (TokenLoad T E)} {last : Option Moment} {answer : Result T E} →
    IsHistory t h → is_memory t answer ≡ true → AnswersTurn t a key env settings old old kept last (length h.records) (length h.records) answer
asks_nothing {t = t} h {answer = answer} history memory = record {
  finished = λ e. absurd (let x : true ≡ false = sym memory ∙ e in cc);
  stopped = λ _. breaks_turn t h h history (record { breaks = breaks_here; history = refl });
}

-- the same with other words for its two numbers
pub with_numbers : {A T E : Type 0} {t : Rules T E} {a : Ghosts A} {key : TokenKey} {env : Variables} {settings : CallSettings} {old new : A} {kept : Option (TokenLoad T E)} {last : Option Moment} {m n : ℕ} {answer : Result T E} (found seen : ℕ) →
    AnswersTurn t a key env settings old new kept last m n answer → found ≡ m → seen ≡ n → AnswersTurn t a key env settings old new kept last found seen answer
with_numbers {t = t} {a = a} {key = key} {env = env} {settings = settings} {old = old} {new = new} {kept = kept} {last = last} {answer = answer} found seen turn f s =
    subst (λ (x : ℕ × ℕ). AnswersTurn t a key env settings old new kept last x.0 x.1 answer) (λ i. (sym f i, sym s i)) turn
