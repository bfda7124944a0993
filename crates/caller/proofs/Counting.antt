-- A failure that is counted is what a question asks of devices.
use Rattle.std.proofs.Common.{◌≡◌, ◌≤◌, ℕ, List, [], ◌∷◌, ◌++◌, Option, Some, None, Result, Err, inr, refl, sym, ap, subst, arith}
use Rattle.std.specs.Prelude.{IfSome}
use Rattle.std.specs.List.{AllByRecursion}
use Rattle.cfg_types.specs.declared.reply.FailKind.{FailKind}
use Rattle.cfg_world.specs.declared.ask.Question.{Question}
use Rattle.cfg_world.specs.declared.ask.Question.TheVariants as question
use Rattle.cfg_world.specs.declared.ask.Answer.{Answer}
use Rattle.cfg_world.specs.declared.ask.Answer.TheVariants as answer
use Rattle.cfg_types.specs.declared.reply.Fault.{Fault}
use Rattle.cfg_types.specs.declared.reply.Fault.TheVariants.{Failed}
use Rattle.cfg_base.specs.Text.{characters}
use Rattle.cfg_world.specs.Fits.{Fits, Pair}
use Rattle.cfg_world.specs.Faults.{Faults, Rises, Counted}
use Rattle.cfg_world.specs.Asked.{Asked, answer_of, entered}
use Rattle.cfg_world.specs.Tallies.{one_more}
use Rattle.caller.specs.declared.devices.OneFile.{OneFile}
use Rattle.caller.specs.Counting.{each_is}
use Rattle.caller.specs.FileAnswers.{IsAnswer, AllAnswered}

once : (old new : ℕ) → new ≡ one_more old → old ≤ new → Rises 1 old new
once old new counts rises = record { later = rises; counted = omega (arith, counts) }

beside : (old new : ℕ) → new ≡ one_more old → old ≤ new → Rises 0 old new
beside old new counts rises = record { later = rises; counted = omega (arith, counts, rises) }

counted : (q : Question) (kind : FailKind) (old new : ℕ) → new ≡ one_more old → old ≤ new → Counted ((q, answer.Failed kind) ∷ []) (each_is old) (each_is new)
counted question.Now kind old new c r = record { files = beside old new c r; transport = beside old new c r; commands = beside old new c r; lookups = beside old new c r }
counted question.Jitter kind old new c r = record { files = beside old new c r; transport = beside old new c r; commands = beside old new c r; lookups = beside old new c r }
counted (question.Read path) kind old new c r = record { files = once old new c r; transport = beside old new c r; commands = beside old new c r; lookups = beside old new c r }
counted (question.Write path bytes) kind old new c r = record { files = once old new c r; transport = beside old new c r; commands = beside old new c r; lookups = beside old new c r }
counted (question.Run command) kind old new c r = record { files = beside old new c r; transport = beside old new c r; commands = once old new c r; lookups = beside old new c r }
counted (question.LookUp host) kind old new c r = record { files = beside old new c r; transport = beside old new c r; commands = beside old new c r; lookups = once old new c r }
counted (question.Send request) kind old new c r = record { files = beside old new c r; transport = once old new c r; commands = beside old new c r; lookups = beside old new c r }

-- one more entry
all_then : (P : Pair → Type 0) (entries : List Pair) (e : Pair) → AllByRecursion P entries → P e → AllByRecursion P (entries ++ e ∷ [])
all_then P [] e h k = (k, tt)
all_then P (x ∷ entries) e h k = (h.0, all_then P entries e h.1 k)

-- What is answered as the devices say keeps what every question keeps, if they count.
pub file_asked : (path content : List ℕ) (q : Question) (given : Option Answer) (old new : Faults) → IfSome given (λ a. Fits q a) → IfSome given (λ a. IsAnswer path content q a) → Counted (entered q given) old new →
    Asked old new (AllAnswered path content) (AllAnswered path content) (AllAnswered path content) (AllAnswered path content) q given
file_asked path content q None old new fits answers counted = record { same = record { to = λ l h. h; from = λ l h. h }; counted = counted; fits = tt; stands = tt }
file_asked path content q (Some a) old new fits answers counted =
    record { same = record { to = λ l h. h; from = λ l h. h }; counted = counted; fits = fits; stands = λ entries h. all_then (λ e. IsAnswer path content e.0 e.1) entries (q, a) h answers }

still : (n : ℕ) → Rises 0 n n
still n = record { later = omega arith; counted = omega arith }

-- the file, with what it holds
pub file_read : (path content asked bytes : List ℕ) (failures : ℕ) → asked ≡ path → bytes ≡ content →
    Asked (each_is failures) (each_is failures) (AllAnswered path content) (AllAnswered path content) (AllAnswered path content) (AllAnswered path content) (question.Read (characters asked)) (Some (answer.Contents bytes))
file_read path content asked bytes n same holds =
    file_asked path content (question.Read (characters asked)) (Some (answer.Contents bytes)) (each_is n) (each_is n) tt (inr (ap characters same, ap answer.Contents holds))
    (record { files = still n; transport = still n; commands = still n; lookups = still n })

pub counted_failure : {T : Type 0} (q : Question) (kind : FailKind) (of : T → Answer) (result : Result T Fault) (old new : OneFile) → result ≡ Err (Failed kind) → new ≡ record old { failures = one_more old.failures } → old.failures ≤ new.failures →
    Fits q (answer.Failed kind) → IsAnswer old.path.now old.content.now q (answer.Failed kind) →
    Asked (each_is old.failures) (each_is new.failures) (AllAnswered old.path.now old.content.now) (AllAnswered new.path.now new.content.now) (AllAnswered old.path.now old.content.now) (AllAnswered new.path.now new.content.now) q (answer_of of result)
counted_failure q kind of result old new fails counts r fits answers =
    let allows : OneFile → List Pair → Type 0 = λ d. AllAnswered d.path.now d.content.now in
    subst (λ x. Asked (each_is old.failures) (each_is new.failures) (allows old) (allows new) (allows old) (allows new) q (answer_of of x)) (sym fails)
    (subst (λ d. Asked (each_is old.failures) (each_is d.failures) (allows old) (allows d) (allows old) (allows d) q (Some (answer.Failed kind))) (sym counts)
    (file_asked old.path.now old.content.now q (Some (answer.Failed kind)) (each_is old.failures) (each_is (one_more old.failures)) fits answers
    (counted q kind old.failures (one_more old.failures) refl (subst (λ d. old.failures ≤ d.failures) counts r))))
