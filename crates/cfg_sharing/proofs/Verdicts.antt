-- Whether the histories agree, by what the tests of them said.
use Rattle.std.proofs.Common.{◌≡◌, ℕ, suc, ◌<◌, List, [], ◌∷◌, Bool, true, false, Option, Some, None, refl, sym, subst, length, get_or, inl, inr, arith}
use Rattle.std.specs.Prelude.{◌↔◌, ◌⊎◌, IsTrue, IsSome, IfSome, MatchBool}
use Rattle.std.specs.Fork.{GivesJobs}
use Rattle.std.specs.List.{AllZip}
use Rattle.std.specs.Fn.{FnReturns}
use denote.Param.Members.{Shared as Callable}
use Rattle.cfg_base.specs.Moment.{Moment}
use Rattle.cfg_kept.specs.KeptStates.{kept_key}
use Rattle.cfg_sharing.specs.declared.shared.Shared.{Shared}
use Rattle.cfg_sharing.specs.Readings.{AreSorted}
use Rattle.cfg_sharing.specs.Strays.{IsStrayCount}
use Rattle.cfg_sharing.specs.Histories.{entries_in, receipts_in, handed_in, recorded_in}
use Rattle.cfg_sharing.specs.Agreement.{SameHistory, Differs, HasStray, Agrees}
use Rattle.cfg_sharing.proofs.Straying.{none_stray, some_stray}

module _ {D : Type 0} (shared : Shared D) where
  pub no_key : kept_key shared.kept ≡ None → SameHistory shared
  no_key e k = absurd (let there : IsSome (kept_key shared.kept) = k in cc)

  pub compared : (b : Bool) (handed recorded : List Moment) → AreSorted handed (handed_in shared.calls) → AreSorted recorded (recorded_in shared.kept) → IsTrue b ↔ (handed ≡ recorded) → IsSome (kept_key shared.kept)
      → MatchBool b (SameHistory shared) (Differs shared)
  compared true handed recorded h r same key =
      λ k. record { sorted = handed; handed = h; recorded = subst (λ (s : List Moment). AreSorted s (recorded_in shared.kept)) (sym (same.0 refl)) r }
  compared false handed recorded h r same key =
      record { key = key; sorted_handed = handed; sorted_recorded = recorded; handed = h; recorded = r; differ = λ e. let t = same.1 e in cc }

  pub differs : (b : Bool) → b ≡ false → MatchBool b (SameHistory shared) (Differs shared) → Differs shared ⊎ HasStray shared
  differs true e m = cc
  differs false e m = inl m

  pub agree : (b : Bool) (strays : ℕ) → b ≡ true → MatchBool b (SameHistory shared) (Differs shared) → IsStrayCount (entries_in shared.calls) (receipts_in shared.calls) strays → strays ≡ 0 → Agrees shared
  agree true strays e m s none = record { history = m; receipts = none_stray (entries_in shared.calls) (receipts_in shared.calls) strays s none }
  agree false strays e m s none = cc

  pub strays_there : (strays : ℕ) → IsStrayCount (entries_in shared.calls) (receipts_in shared.calls) strays → (strays ≡ 0 → ⊥) → Differs shared ⊎ HasStray shared
  strays_there strays s some =
      let one = some_stray (entries_in shared.calls) (receipts_in shared.calls) strays s some in
      inr (record { receipt = one.receipt; carried = one.carried; stray = one.stray })

-- what is handed back is this
pub if_same : {X : Type 0} (P : X → Type 0) (o : Option X) (x : X) → IfSome o (λ y. y ≡ x) → P x → IfSome o P
if_same P None x is p = tt
if_same P (Some y) x is p = subst P (sym is) p

-- a relation that holds at each place
zip_each : {J X : Type 0} (R : J → X → Type 0) (js : List J) (rs : List X) → length rs ≡ length js →
    ((i : ℕ) (x : X) → i < length js → (j : J) × ((e : J) → get_or js i e ≡ j) × R j (get_or rs i x)) → AllZip R js rs
zip_each R [] [] e h = tt
zip_each R [] (r ∷ rs) e h = absurd (let x : suc (length rs) ≡ 0 = e in omega arith)
zip_each R (j ∷ js) [] e h = absurd (let x : 0 ≡ suc (length js) = e in omega arith)
zip_each R (j ∷ js) (r ∷ rs) e h = (
  (let p = h 0 r (omega arith) in subst (λ x. R x r) (sym (p.1 j)) p.2),
  zip_each R js rs (omega arith) (λ i d lt. h (suc i) d (omega arith)),
)

-- what each call of a closure gives of its job
pub of_jobs : {F J X : Type 0} (g : Callable F (J × Unit {0}) X) (f : F) (R : J → X → Type 0) (jobs : List J) (given : List X)
    → length given ≡ length jobs → GivesJobs g f jobs given → ((job : J) (x : X) → FnReturns g f (job, tt) x → R job x) → AllZip R jobs given
of_jobs g f R jobs given count gives each = zip_each R jobs given count (λ i x lt.
    let one = (gives i x lt).1 in
    (one.job, one.job_is, each one.job (get_or given i x) one.call))
