-- Calls under a name are those on what stands there.
use Rattle.std.proofs.Common.{◌≡◌, ℕ, List, Option, Some, Ok, ap, subst, ◌∙◌}
use Rattle.cfg_types.specs.Keys.{Keys}
use Rattle.cfg_world.specs.declared.devices.Devices.{Ghosts}
use Rattle.cfg_world.specs.Held.{Held as World}
use Rattle.cfg_chain.specs.Settings.{ChainSetting}
use Rattle.cfg_identity.specs.declared.settings.CacheSettings.{CacheSettings}
use Rattle.cfg_identity.specs.Cached.{CachesAny}
use Rattle.cfg_identity.specs.Entries.{Entry, IsAdded, IsResolved, fresh}
use Rattle.cfg_identity.specs.NameStates.{NameState, nothing_loaded}
use Rattle.caller.specs.HeldCalls.{TwoCalls, cache_settings}

abbrev entry : ChainSetting → NameState → Entry
entry over state = record { over = over; state = state }

module _ {D : Type 0} (d : Ghosts D) (name : List ℕ) where
  -- what a call under a name that is there leaves
  record Leaves (over : ChainSetting) (old : NameState) (new : Option Entry) (before later : World D) (keys : Keys) : Type 0 where
    left : NameState
    is : new ≡ Some (entry over left)
    call : CachesAny d cache_settings over old left before later (Ok keys)

  leaves : (settings : CacheSettings) (over : ChainSetting) (state : NameState) (old new : Option Entry) (before later : World D) (keys : Keys)
      → settings ≡ cache_settings → old ≡ Some (entry over state) → IsResolved d settings name old new before later (Ok keys)
      → Leaves over state new before later keys
  leaves settings over state old new before later keys set there resolves =
      let call = subst (λ (o : Option Entry). IsResolved d cache_settings name o new before later (Ok keys)) there
      (subst (λ (s : CacheSettings). IsResolved d s name old new before later (Ok keys)) set resolves) in
      let is = call.1 ∙ ap (λ (o : ChainSetting). Some (entry o call.0.state)) call.2.same_chain in
      record { left = call.0.state; is = is; call = call.2.call }

  pub two_calls : (one two : CacheSettings) (chain over : ChainSetting) (none added after last : Option Entry)
      → (before between later : World D) (first second : Keys)
      → one ≡ cache_settings → two ≡ cache_settings → chain ≡ over → IsAdded chain name none added (Ok tt)
      → IsResolved d one name added after before between (Ok first) → IsResolved d two name after last between later (Ok second)
      → TwoCalls d over before later first second
  two_calls one two chain over none added after last before between later first second set same is adds resolves again =
      let there : added ≡ Some (entry over nothing_loaded) = adds.1 ∙ ap (λ (o : ChainSetting). Some (fresh o)) is in
      let a = leaves one over nothing_loaded added after before between first set there resolves in
      let b = leaves two over a.left after last between later second same a.is again in
      record { between = between; left = a.left; left_then = b.left; one = a.call; other = b.call }
