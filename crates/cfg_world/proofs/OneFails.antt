-- Devices of which one call fails keep what every question keeps.
use Rattle.std.proofs.Common.{◌≡◌, ℕ, List, Some, sym, subst, ◌∙◌, ap, arith}
use Rattle.cfg_world.specs.declared.ask.Question.{Question}
use Rattle.cfg_world.specs.declared.ask.Answer.TheVariants as answer
use Rattle.cfg_world.specs.declared.devices.Devices.{Ghosts}
use Rattle.cfg_world.specs.Fits.{Fits, Pair}
use Rattle.cfg_world.specs.Faults.{Faults, Counted}
use Rattle.cfg_world.specs.Asked.{Asked}
use Rattle.cfg_world.specs.Tallies.{raised, sum_of, any_list, first_failure, Small}
use Rattle.cfg_world.specs.Faulty.{Faulty, counted_on}
use Rattle.cfg_world.proofs.Tallied.{beside, counted_after, any_asked}

-- counts that rise beside counts that stay
beside_counted : (part : List Pair) (inner old new : Faults) → Counted part old new → Counted part (sum_of inner old) (sum_of inner new)
beside_counted part inner old new c = record {
  files = let r = beside _ old.files new.files inner.files c.files in record { later = omega (arith, r.later); counted = omega (arith, r.counted) };
  transport = let r = beside _ old.transport new.transport inner.transport c.transport in record { later = omega (arith, r.later); counted = omega (arith, r.counted) };
  commands = let r = beside _ old.commands new.commands inner.commands c.commands in record { later = omega (arith, r.later); counted = omega (arith, r.counted) };
  lookups = let r = beside _ old.lookups new.lookups inner.lookups c.lookups in record { later = omega (arith, r.later); counted = omega (arith, r.counted) };
}

-- a failure of its own
module _ {D : Type 0} (d : Ghosts D) (inner : D) (own : Faults) (q : Question) where
  asked_here : Small own → Fits q (answer.Failed (first_failure q)) → Asked (sum_of (d.faults inner) own) (sum_of (d.faults inner) (raised q own)) any_list any_list any_list any_list q (Some (answer.Failed (first_failure q)))
  asked_here s fits = any_asked q _ _ _ fits (beside_counted _ (d.faults inner) own (raised q own) (counted_after q _ own s fits))

-- A call that failed without the devices within: it was counted, and then its failure.
pub failed_here : {D : Type 0} (d : Ghosts D) (was mid : Faulty D) (inner : D) (at calls : ℕ) (own new : Faults) (q : Question)
    → record { inner = inner; at = at; calls = calls; own = own } ≡ mid → mid ≡ counted_on was → new ≡ raised q own → Small own → Fits q (answer.Failed (first_failure q))
    → Asked (sum_of (d.faults was.inner) was.own) (sum_of (d.faults inner) new) any_list any_list any_list any_list q (Some (answer.Failed (first_failure q)))
failed_here d was mid inner at calls own new q view counted raised_is small fits =
    let given = Some (answer.Failed (first_failure q)) in
    let is_inner : inner ≡ was.inner = ap (λ f. f.inner) (view ∙ counted) in
    let is_own : own ≡ was.own = ap (λ f. f.own) (view ∙ counted) in
    subst (λ n. Asked (sum_of (d.faults was.inner) was.own) (sum_of (d.faults inner) n) any_list any_list any_list any_list q given) (sym raised_is)
    (subst (λ x. Asked (sum_of (d.faults was.inner) was.own) (sum_of (d.faults x) (raised q own)) any_list any_list any_list any_list q given) (sym is_inner)
    (subst (λ x. Asked (sum_of (d.faults was.inner) x) (sum_of (d.faults was.inner) (raised q own)) any_list any_list any_list any_list q given) is_own (asked_here d was.inner own q small fits)))
