-- What devices that count their own failures keep.
use Rattle.std.proofs.Common.{◌≡◌, ℕ, ◌+◌, ◌≤◌, [], ◌∷◌, Option, Some, None, sym, subst, arith}
use Rattle.std.specs.Prelude.{IfSome}
use Rattle.cfg_world.specs.declared.ask.Question.{Question}
use Rattle.cfg_world.specs.declared.ask.Question.TheVariants as question
use Rattle.cfg_world.specs.declared.ask.Answer.{Answer}
use Rattle.cfg_world.specs.declared.ask.Answer.TheVariants as answer
use Rattle.cfg_world.specs.Fits.{Fits}
use Rattle.cfg_world.specs.Faults.{Faults, Rises, Counted, full_count}
use Rattle.cfg_world.specs.Asked.{Asked, entered}
use Rattle.cfg_world.specs.Tallies.{one_more, raised, any_list, faults_after, Small, first_failure}

stays : (n : ℕ) → Rises 0 n n
stays n = record { later = omega arith; counted = omega arith }

-- a count that stands still at the end of 64 bits, and one that is below it or beyond
risen : (n : ℕ) → n ≤ full_count → Rises 1 n (one_more n)
risen n h = record { later = omega (arith, h); counted = omega arith }

-- a count that rises beside one that stays
pub beside : (m a b c : ℕ) → Rises m a b → Rises m (a + c) (b + c)
beside m a b c h = record { later = omega (arith, h.later); counted = omega (arith, h.counted, h.later) }

-- each failure is counted once
pub counted_after : (q : Question) (a : Answer) (f : Faults) → Small f → Fits q a → Counted ((q, a) ∷ []) f (faults_after q a f)
counted_after question.Now (answer.Failed kind) f s h = absurd h
counted_after question.Now _ f s h = record { files = stays f.files; transport = stays f.transport; commands = stays f.commands; lookups = stays f.lookups }
counted_after question.Jitter (answer.Failed kind) f s h = absurd h
counted_after question.Jitter _ f s h = record { files = stays f.files; transport = stays f.transport; commands = stays f.commands; lookups = stays f.lookups }
counted_after (question.Read path) (answer.Failed kind) f s h = record { files = risen f.files s.files; transport = stays f.transport; commands = stays f.commands; lookups = stays f.lookups }
counted_after (question.Read path) _ f s h = record { files = stays f.files; transport = stays f.transport; commands = stays f.commands; lookups = stays f.lookups }
counted_after (question.Write path bytes) (answer.Failed kind) f s h = record { files = risen f.files s.files; transport = stays f.transport; commands = stays f.commands; lookups = stays f.lookups }
counted_after (question.Write path bytes) _ f s h = record { files = stays f.files; transport = stays f.transport; commands = stays f.commands; lookups = stays f.lookups }
counted_after (question.Run command) (answer.Failed kind) f s h = record { files = stays f.files; transport = stays f.transport; commands = risen f.commands s.commands; lookups = stays f.lookups }
counted_after (question.Run command) _ f s h = record { files = stays f.files; transport = stays f.transport; commands = stays f.commands; lookups = stays f.lookups }
counted_after (question.LookUp host) (answer.Failed kind) f s h = record { files = stays f.files; transport = stays f.transport; commands = stays f.commands; lookups = risen f.lookups s.lookups }
counted_after (question.LookUp host) _ f s h = record { files = stays f.files; transport = stays f.transport; commands = stays f.commands; lookups = stays f.lookups }
counted_after (question.Send request) (answer.Failed kind) f s h = record { files = stays f.files; transport = risen f.transport s.transport; commands = stays f.commands; lookups = stays f.lookups }
counted_after (question.Send request) _ f s h = record { files = stays f.files; transport = stays f.transport; commands = stays f.commands; lookups = stays f.lookups }

-- Devices that allow every list keep what every question keeps, if they count.
pub any_asked : (q : Question) (given : Option Answer) (old new : Faults) → IfSome given (λ a. Fits q a) → Counted (entered q given) old new → Asked old new any_list any_list any_list any_list q given
any_asked q None old new fits counted = record { same = record { to = λ l h. h; from = λ l h. h }; counted = counted; fits = tt; stands = tt }
any_asked q (Some a) old new fits counted = record { same = record { to = λ l h. h; from = λ l h. h }; counted = counted; fits = fits; stands = λ entries h. tt }

-- A failure that is counted once, of devices that allow every list.
pub any_failed : (q : Question) (was held new : Faults) → held ≡ was → new ≡ raised q held → Small held → Fits q (answer.Failed (first_failure q))
    → Asked was new any_list any_list any_list any_list q (Some (answer.Failed (first_failure q)))
any_failed q was held new e r s fits =
    subst (λ w. Asked w new any_list any_list any_list any_list q (Some (answer.Failed (first_failure q)))) e
    (any_asked q (Some (answer.Failed (first_failure q))) held new fits
    (subst (λ n. Counted ((q, answer.Failed (first_failure q)) ∷ []) held n) (sym r) (counted_after q (answer.Failed (first_failure q)) held s fits)))
