-- By which reading a section's credentials last.
use Rattle.std.proofs.Common.{◌≡◌, ℕ, Bool, true, false, List, [], ◌∷◌, Option, Some, None, IfSome, Ok, Err, refl, sym, subst, arith}
use Rattle.std.specs.Prelude.{pos, ◌≤ℤ◌, IfOk, unwrap_or}
use Rattle.std.proofs.lemmas.Int.{ints}
use Rattle.cfg_base.specs.Moment.{Moment}
use Rattle.cfg_world.specs.declared.ask.Answer.{Answer as Given}
use Rattle.cfg_world.specs.declared.ask.Answer.TheVariants as answer
use Rattle.cfg_world.specs.declared.ask.Question.{Question}
use Rattle.cfg_world.specs.declared.ask.Question.TheVariants as question
use Rattle.cfg_world.specs.Fits.{Pair, Fits, EachFits}
use Rattle.cfg_world.specs.LastReadings.{reading_or, last_reading_from, last_reading}
use Rattle.cfg_profile.specs.Configuration.{Configuration}
use Rattle.cfg_profile.specs.Settings.{settings_of}
use Rattle.cfg_token.specs.declared.token_key.TokenKey.TheVariants.{Login}
use Rattle.cfg_token.specs.Moments.{is_before}
use Rattle.cfg_token.specs.Readings as readings
use Rattle.cfg_token.proofs.Readings.{section_lasts}
use Rattle.cfg_login_token.specs.declared.login_token.LoginToken.{LoginToken}
use Rattle.cfg_login_token.specs.LoginTokens.{Given as GivenBy, end_in, first_moment, login_rules}
use Rattle.cfg_login_token.specs.LoginTells.{login_tells}
use Rattle.cfg_kept.specs.Kinds.{Value, login_in}
use Rattle.cfg_login.specs.declared.asked_by.AskedBy.{AskedBy}
use Rattle.cfg_login.specs.SignIns.{Answer, credentials_in}
use Rattle.cfg_login.specs.SignInCauses.{SignInCause}
use Rattle.cfg_login.specs.Endings.{EndsAfter}

-- not before the epoch
abbrev IsOfClock : Moment → Type 0
IsOfClock now = pos 0 ≤ℤ now.seconds

reading_fits : (before : Option Moment) (q : Question) (a : Given) → Fits q a → IfSome before IsOfClock → IfSome (reading_or before q a) IsOfClock
reading_fits before question.Now (answer.Moment m) h k = h
reading_fits before question.Now (answer.Jitter n) h k = absurd h
reading_fits before question.Now (answer.Contents bytes) h k = absurd h
reading_fits before question.Now answer.Written h k = absurd h
reading_fits before question.Now (answer.Finished finished) h k = absurd h
reading_fits before question.Now (answer.Addresses addresses) h k = absurd h
reading_fits before question.Now (answer.Replied reply) h k = absurd h
reading_fits before question.Now (answer.Failed kind) h k = absurd h
reading_fits before question.Jitter a h k = k
reading_fits before (question.Read path) a h k = k
reading_fits before (question.Write path bytes) a h k = k
reading_fits before (question.Run command) a h k = k
reading_fits before (question.LookUp host) a h k = k
reading_fits before (question.Send request) a h k = k

readings_fit : (before : Option Moment) (part : List Pair) → EachFits part → IfSome before IsOfClock → IfSome (last_reading_from before part) IsOfClock
readings_fit before [] h k = k
readings_fit before (e ∷ part) h k = readings_fit (reading_or before e.0 e.1) part h.1 (reading_fits before e.0 e.1 h.0 k)

-- no clock reads before the first moment
not_first : (now : Moment) → IsOfClock now → is_before now first_moment ≡ true → ⊥
not_first now h k = by (is_before now first_moment) refl k
  where
    by : (b : Bool) → is_before now first_moment ≡ b → b ≡ true → ⊥
    by true e k = absurd (omega (arith, ints, e, h))
    by false e k = absurd cc

end_there : (now : Option Moment) (expiry : Option Moment) → IfSome now IsOfClock → readings.EndsAfter now (unwrap_or expiry first_moment) → EndsAfter now expiry
end_there None expiry h k = absurd k
end_there (Some now) (Some end) h k = k
end_there (Some now) None h k = absurd (not_first now h k)

answer_lasts : (by : AskedBy) (part : List Pair) (given : GivenBy LoginToken) → EachFits part → IfOk given (λ token. readings.EndsAfter (last_reading part) (end_in token)) → IfOk (credentials_in by given) (λ keys. EndsAfter (last_reading part) keys.expiry)
unfolding credentials_in
answer_lasts by part (Ok token) fits h = end_there (last_reading part) token.access_token.expiry (readings_fit None part fits tt) h
answer_lasts by part (Err e) fits h = tt

pub credentials_last : (conf : Configuration) (session : List ℕ) (by : AskedBy) (found : List Value) (part : List Pair) (out : Answer) → EachFits part → SignInCause conf session by found part out →
    IfOk out (λ keys. EndsAfter (last_reading part) keys.expiry)
credentials_last conf session by found part out fits c =
    let s = c.of_section in
    let was = login_in s.value in
    let lasts = section_lasts login_rules login_tells (Login session) conf.environment (settings_of conf) was.token was.last part s.made s.reads in
    subst (λ (o : Answer). IfOk o (λ keys. EndsAfter (last_reading part) keys.expiry)) (sym c.tells)
    (answer_lasts by part c.given fits (subst (λ (g : GivenBy LoginToken). IfOk g (λ token. readings.EndsAfter (last_reading part) (end_in token))) (sym s.gives) lasts))
