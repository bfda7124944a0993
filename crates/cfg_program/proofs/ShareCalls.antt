-- The calls over new worlds are those of a script's callers.
use Rattle.std.proofs.Common.{◌≡◌, List, [], ◌∷◌, refl, sym, subst, map, false}
use Rattle.std.specs.Prelude.{All}
use Rattle.std.specs.List.{AllByRecursion}
use Rattle.std.proofs.lemmas.List.Elements.{All-from_recursion}
use Rattle.cfg_types.specs.Classes.{is_memory}
use Rattle.cfg_world.specs.declared.script.DeviceLists.{DeviceLists}
use Rattle.cfg_world.specs.declared.devices.Devices.{Ghosts}
use Rattle.cfg_world.specs.Fits.{Pair}
use Rattle.cfg_world.specs.Held.{Held}
use Rattle.cfg_world.specs.Script.{Script, Given, Allows, start}
use Rattle.cfg_kept.specs.FoundValues.{bare}
use Rattle.cfg_chain.specs.Settings.{ChainSetting}
use Rattle.cfg_chain.specs.SharedCalls.{IsFoundCall}
use Rattle.cfg_sharing.specs.declared.shared.Called.{Called}
use Rattle.cfg_sharing.specs.Calls.{IsCalled, AreCalled}
use Rattle.cfg_program.specs.Shares.{IsCaller, AreCallers}
use Rattle.cfg_program.specs.Sharing.{new_world, caller_of, callers_of}

each_is_empty : (all : List DeviceLists) → AllByRecursion (λ w. w.journal ≡ []) (map new_world all)
each_is_empty [] = tt
each_is_empty (lists ∷ all) = (refl, each_is_empty all)

-- scripted devices, by what they allow and stand for
module _ (d : Ghosts Script) (starts : (lists : DeviceLists) → d.stands (new_world lists).devices [])
    (stands_allowed : (s : Script) (entries : List Pair) → d.stands s entries → d.allows s entries)
    (allowed : (s : Script) (entries : List Pair) → d.allows s entries → Allows s entries) where
  one_caller : (over : ChainSetting) (lists : DeviceLists) (called : Called Script) → IsCalled d over (new_world lists) called
      → is_memory called.answered.outcome ≡ false → IsCaller over lists (caller_of called)
  one_caller over lists called is answered =
      let p = is.provides answered in
      let journal : called.world.journal ≡ p.part = p.grows.journal in
      let stood : d.stands called.world.devices p.part = p.grows.stands [] (starts lists) in
      let allows : d.allows (new_world lists).devices p.part = p.grows.same.from p.part (stands_allowed called.world.devices p.part stood) in
      let given : Given lists start p.part = allowed (new_world lists).devices p.part allows in
      record {
        call = subst (λ (j : List Pair). IsFoundCall over (map bare called.answered.found) j called.answered.outcome) (sym journal) p.call;
        agrees = subst (λ (j : List Pair). Given lists start j) (sym journal) given;
      }

  pub all_callers : (over : ChainSetting) (all : List DeviceLists) (calls : List (Called Script)) → AreCalled d over (map new_world all) calls
      → AllByRecursion (λ c. is_memory c.out ≡ false) (callers_of calls) → AreCallers over all (callers_of calls)
  all_callers over [] [] are answered = tt
  all_callers over [] (called ∷ calls) are answered = absurd are
  all_callers over (lists ∷ all) [] are answered = absurd are
  all_callers over (lists ∷ all) (called ∷ calls) are answered =
      (one_caller over lists called are.0 answered.0, all_callers over all calls are.1 answered.1)

-- new worlds have empty journals
pub new_worlds_are_empty : (all : List DeviceLists) (worlds : List (Held Script)) → worlds ≡ map new_world all → All (λ w. w.journal ≡ []) worlds
new_worlds_are_empty all worlds is =
    let empty = All-from_recursion (λ w. w.journal ≡ []) (map new_world all) (each_is_empty all) in
    subst (λ (ws : List (Held Script)). All (λ w. w.journal ≡ []) ws) (sym is) empty
