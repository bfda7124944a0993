-- One question more to devices that give the answers that they were handed.
use Rattle.std.proofs.Common.{◌≡◌, ℕ, zero, suc, ◌+◌, List, [], ◌∷◌, ◌++◌, Option, Some, None, refl, sym, subst, ◌∙◌, ap, arith}
use Rattle.std.specs.Prelude.{min, length, slice_get}
use Rattle.cfg_world.specs.declared.ask.Question.{Question}
use Rattle.cfg_world.specs.declared.ask.Answer.{Answer}
use Rattle.cfg_world.specs.declared.ask.Question.TheVariants as question
use Rattle.cfg_world.specs.declared.ask.Answer.TheVariants as answer
use Rattle.cfg_types.specs.declared.reply.FailKind.{FailKind}
use Rattle.cfg_world.specs.Fits.{Fits, Pair}
use Rattle.cfg_world.specs.Faults.{Faults, Counted, Device, Files, Transport, Commands, LookUps, failed, failures}
use Rattle.cfg_world.specs.Asked.{Asked}
use Rattle.cfg_world.specs.Tallies.{faults_after, raised, one_more, Small}
use Rattle.cfg_world.specs.Handed.{Handed, IsGiven, GivenFrom, used_by, Allows, Stands, Answered, next_answer}
use Rattle.cfg_world.proofs.Tallied.{counted_after}

module _ (answers : List Answer) (q : Question) (a : Answer) where
  given_more : (at : ℕ) (entries : List Pair) → GivenFrom answers at entries → IsGiven (slice_get answers (at + length entries)) q a → GivenFrom answers at (entries ++ (q, a) ∷ [])
  given_more at [] g h = (subst (λ n. IsGiven (slice_get answers n) q a) (omega arith) h, tt)
  given_more at (e ∷ entries) g h = (g.0, given_more (at + 1) entries g.1 (subst (λ n. IsGiven (slice_get answers n) q a) (omega arith) h))

length_more : (entries : List Pair) (e : Pair) → length (entries ++ e ∷ []) ≡ length entries + 1
length_more [] e = refl
length_more (x ∷ entries) e = omega (arith, length_more entries e)

no_items : (n : ℕ) → slice_get {X = Answer} [] n ≡ None
no_items zero = refl
no_items (suc n) = refl

-- behind the last answer there is none
past_the_end : (answers : List Answer) (n m : ℕ) → m ≡ min n (length answers) → slice_get answers m ≡ slice_get answers n
past_the_end [] n m e = no_items m ∙ sym (no_items n)
past_the_end (a ∷ answers) zero zero e = refl
past_the_end (a ∷ answers) zero (suc m) e = let wrong : ⊥ = omega (arith, e) in absurd wrong
past_the_end (a ∷ answers) (suc n) zero e = let wrong : ⊥ = omega (arith, e) in absurd wrong
past_the_end (a ∷ answers) (suc n) (suc m) e = past_the_end answers n m (omega (arith, e))

stands_more : (old : Handed) (used questions : ℕ) (faults : Faults) (q : Question) (a : Answer) (entries : List Pair)
    → IsGiven (slice_get old.answers old.used) q a → used ≡ used_by old.answers (old.used + 1) → questions ≡ one_more old.questions
    → Stands old entries → Stands (record { answers = old.answers; used = used; questions = questions; faults = faults }) (entries ++ (q, a) ∷ [])
stands_more old used questions faults q a entries is moved counted s =
    let there : IsGiven (slice_get old.answers (length entries)) q a = subst (λ o. IsGiven o q a) (past_the_end old.answers (length entries) old.used s.used) is in record {
      given = given_more old.answers q a 0 entries s.given (subst (λ n. IsGiven (slice_get old.answers n) q a) (omega arith) there);
      used = omega (arith, moved, s.used, length_more entries (q, a));
      questions = omega (arith, counted, s.questions, length_more entries (q, a));
    }

-- an answer that is no failure counts nothing
zero_of : (d : Device) (q : Question) (a : Answer) → failed a ≡ 0 → failures d q a ≡ 0
zero_of Files (question.Read path) a h = h
zero_of Files (question.Write path bytes) a h = h
zero_of Commands (question.Run command) a h = h
zero_of LookUps (question.LookUp host) a h = h
zero_of Transport (question.Send request) a h = h
zero_of _ _ a h = refl

kept_counted : (q : Question) (a : Answer) (f : Faults) → failed a ≡ 0 → Counted ((q, a) ∷ []) f f
kept_counted q a f h = record {
  files = record { later = omega arith; counted = omega (arith, zero_of Files q a h) };
  transport = record { later = omega arith; counted = omega (arith, zero_of Transport q a h) };
  commands = record { later = omega arith; counted = omega (arith, zero_of Commands q a h) };
  lookups = record { later = omega arith; counted = omega (arith, zero_of LookUps q a h) };
}

-- a question that was answered by its place keeps what every question keeps
asked_of : (old new : Handed) (q : Question) (a : Answer) → Answered old new q a → Counted ((q, a) ∷ []) old.faults new.faults
    → Asked old.faults new.faults (Allows old) (Allows new) (Stands old) (Stands new) q (Some a)
asked_of old new q a h counted = record {
  same = record { to = λ l g. subst (λ x. GivenFrom x 0 l) (sym h.answers) g; from = λ l g. subst (λ x. GivenFrom x 0 l) h.answers g };
  counted = counted;
  fits = h.fits;
  stands = λ entries s.
      let more = stands_more old new.used new.questions new.faults q a entries h.is h.used h.questions s in record {
        given = subst (λ x. GivenFrom x 0 (entries ++ (q, a) ∷ [])) (sym h.answers) more.given;
        used = more.used ∙ ap (λ x. used_by x (length (entries ++ (q, a) ∷ []))) (sym h.answers);
        questions = more.questions;
      };
}

-- An answer that is no failure.
module _ (old new : Handed) (q : Question) (a : Answer) (moved : new ≡ record old { used = used_by old.answers (old.used + 1); questions = one_more old.questions })
    (is : IsGiven (next_answer old) q a) (fits : Fits q a) (none : failed a ≡ 0) (kept : faults_after q a old.faults ≡ old.faults) where
  pub handed_kept : Answered old new q a
  handed_kept = subst (λ w. Answered old w q a) (sym moved) (record { is = is; fits = fits; answers = refl; used = refl; questions = refl; faults = sym kept })

  pub asked_kept : Asked old.faults new.faults (Allows old) (Allows new) (Stands old) (Stands new) q (Some a)
  asked_kept = asked_of old new q a handed_kept (subst (λ w. Counted ((q, a) ∷ []) old.faults w.faults) (sym moved) (kept_counted q a old.faults none))

-- An answer that is a failure, which is counted.
module _ (old mid : Handed) (answers : List Answer) (used questions : ℕ) (faults new : Faults) (q : Question) (kind : FailKind)
    (moved : mid ≡ record old { used = used_by old.answers (old.used + 1); questions = one_more old.questions }) (view : record { answers = answers; used = used; questions = questions; faults = faults } ≡ mid)
    (rose : new ≡ raised q faults) (small : Small faults) (is : IsGiven (next_answer old) q (answer.Failed kind)) (fits : Fits q (answer.Failed kind)) where
  abbrev After : Handed
  After = record { answers = answers; used = used; questions = questions; faults = new }

  same_faults : faults ≡ old.faults
  same_faults = ap (λ h. h.faults) (view ∙ moved)

  pub handed_failed : Answered old After q (answer.Failed kind)
  handed_failed = record {
    is = is;
    fits = fits;
    answers = ap (λ h. h.answers) (view ∙ moved);
    used = ap (λ h. h.used) (view ∙ moved);
    questions = ap (λ h. h.questions) (view ∙ moved);
    faults = rose ∙ ap (raised q) same_faults;
  }

  pub asked_failed : Asked old.faults new (Allows old) (Allows After) (Stands old) (Stands After) q (Some (answer.Failed kind))
  asked_failed = asked_of old After q (answer.Failed kind) handed_failed
      (subst (λ f. Counted ((q, answer.Failed kind) ∷ []) f new) same_faults
      (subst (λ n. Counted ((q, answer.Failed kind) ∷ []) faults n) (sym rose) (counted_after q (answer.Failed kind) faults small fits)))

-- what was read of the next answer gives the answer of the next place
pub given_by : {T : Type 0} (of : T → Answer) (o next : Option Answer) (q : Question) (g h : T) → o ≡ next → g ≡ h → IsGiven o q (of g) → IsGiven next q (of h)
given_by of o next q g h e k is = subst (λ n. IsGiven n q (of h)) e (subst (λ x. IsGiven o q (of x)) k is)

pub ruleset handing = (handed_kept, asked_kept, handed_failed, asked_failed)
