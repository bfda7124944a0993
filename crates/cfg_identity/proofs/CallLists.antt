-- Calls under one name, out of the calls of a cache; and how long what is held lasts.
use Rattle.std.proofs.Common.{◌≡◌, ℕ, true, false, List, [], ◌∷◌, map, Option, Some, None, Ok, refl, sym, ap, subst, ◌∙◌, inl, inr, ⊎_elim}
use Rattle.std.specs.Prelude.{◌⊎◌, ◌≢◌, IfSome, if◌then◌else◌}
use Rattle.std.specs.Str.{bytes_eq}
use Rattle.std.proofs.lemmas.Slice.Eq.{bytes_eq-Decides}
use Rattle.cfg_base.specs.Moment.{Moment}
use Rattle.cfg_types.specs.Keys.{Keys}
use Rattle.cfg_world.specs.declared.devices.Devices.{Ghosts}
use Rattle.cfg_world.specs.Gains.{Gains}
use Rattle.cfg_world.specs.Held.{Held as World}
use Rattle.cfg_world.specs.Leaves.{moment_of}
use Rattle.cfg_kept.specs.FoundValues.{bare}
use Rattle.cfg_kept.specs.Kinds.{Value}
use Rattle.cfg_chain.specs.Settings.{ChainSetting}
use Rattle.cfg_identity.specs.declared.held.Held.{Held}
use Rattle.cfg_identity.specs.declared.settings.CacheSettings.{CacheSettings}
use Rattle.cfg_identity.specs.declared.shared.CacheAnswer.{CacheAnswer}
use Rattle.cfg_identity.specs.Cached.{Caches}
use Rattle.cfg_identity.specs.CallLists.{CacheCall, name_of, own_calls, IsOwnCall, AreCallsOf, AreOwnCalls, AreLasting, AreOfChain, AreOfFoundChain}
use Rattle.cfg_identity.specs.Entries.{Entries}
use Rattle.cfg_identity.specs.Faults.{Tells}
use Rattle.cfg_identity.specs.Lives.{has_time_left, lasting}
use Rattle.cfg_identity.specs.NameStates.{NameState}
use Rattle.cfg_identity.specs.SharedCalls.{FindsBroken, IsFoundCall}

differs : (a b : List ℕ) → bytes_eq a b ≡ false → a ≢ b
differs a b e same = let t : bytes_eq a b ≡ true = (bytes_eq-Decides a b).1 same in absurd (cc)

-- what lasts has enough of its life left
lasts_of : (settings : CacheSettings) (o : Option Held) (now : Moment) (held : Held) → lasting settings o now ≡ Some held → has_time_left settings held.life now ≡ true
lasts_of settings None now held h = absurd (cc)
lasts_of settings (Some other) now held h =
    elim (has_time_left settings other.life now) as (λ b. has_time_left settings other.life now ≡ b → (if b then Some other else None) ≡ Some held → has_time_left settings held.life now ≡ true) [
      | true ↦ λ e k. let same : other ≡ held = cc in subst (λ x. has_time_left settings x.life now ≡ true) same e
      | false ↦ λ e k. absurd (cc)
    ] refl h

module _ {D : Type 0} (d : Ghosts D) (settings : CacheSettings) where
  pub own_of_all : (old : Entries) (calls : List (CacheCall D)) (new : Entries) → AreCallsOf d settings old calls new → (name : List ℕ) → AreOwnCalls d settings (old name) (own_calls name calls) (new name)
  own_of_all old [] new h name = h name
  own_of_all old (call ∷ calls) new h name =
      let mid = h.0 in
      let c = h.1 in
      let rest : AreOwnCalls d settings (mid name) (own_calls name calls) (new name) = own_of_all mid calls new h.2 name in
      elim (bytes_eq name (name_of call)) as (λ b. bytes_eq name (name_of call) ≡ b → AreOwnCalls d settings (old name) (if b then call ∷ own_calls name calls else own_calls name calls) (new name)) [
        | true ↦ λ e. (mid name, subst (λ n. IsOwnCall d settings call (old n) (mid n)) (sym ((bytes_eq-Decides name (name_of call)).0 e)) c.own, rest)
        | false ↦ λ e. subst (λ o. AreOwnCalls d settings o (own_calls name calls) (new name)) (c.others name (differs name (name_of call) e)) rest
      ] refl

  expires_late : (held : Held) (now : Moment) → has_time_left settings held.life now ≡ true → IfSome held.credentials.expiry (λ expiry. has_time_left settings expiry now ≡ true)
  expires_late held now left =
      elim held.credentials.expiry as (λ o. held.credentials.expiry ≡ o → IfSome o (λ expiry. has_time_left settings expiry now ≡ true)) [
        | None ↦ λ e. tt
        | Some expiry ↦ λ e. subst (λ life. has_time_left settings life now ≡ true) (held.until_expiry expiry e) left
      ] refl

  pub lasts_or_of_chain : (over : ChainSetting) (old new : NameState) (found : List Value) (before later : World D) (keys : Keys)
      → Caches d settings over old new found before later (Ok keys)
      → Gains before.journal later.journal (λ part. AreLasting settings keys part ⊎ AreOfChain over old.states new.states found keys part)
  lasts_or_of_chain over old new found before later keys h =
      let call = h.call in
      record {
        part = h.part;
        grows = h.grows.journal;
        said = ⊎_elim
            (λ hit.
            let same : Ok keys ≡ Ok hit.held.credentials = hit.answers in
            let keys_same : keys ≡ hit.held.credentials = cc in
            inl (record {
              reading = call.reading;
              asks = call.asks ∙ ap (λ rest. call.reading ∷ rest) hit.asks;
              lasts = subst (λ (k : Keys). IfSome k.expiry (λ expiry. has_time_left settings expiry (moment_of call.reading.1) ≡ true)) (sym keys_same) (expires_late hit.held (moment_of call.reading.1) (lasts_of settings old.held (moment_of call.reading.1) hit.held hit.lasts));
            }))
            (λ load. inr (record { reading = call.reading; rest = call.rest; asks = call.asks; call = load.call }))
            call.answers;
      }

  pub found_lasts_or_of_chain : (over : ChainSetting) (before later : World D) (answer : CacheAnswer) (keys : Keys)
      → IsFoundCall d settings over before later answer → answer.outcome ≡ Ok keys
      → Gains before.journal later.journal (λ part. AreLasting settings keys part ⊎ AreOfFoundChain over (map bare answer.kept) keys part)
  found_lasts_or_of_chain over before later answer keys h is =
      let call = subst (Tells (λ out. (answer.held ≡ h.old.held) × Caches d settings over h.old h.new (map bare answer.kept) before later out) (FindsBroken d settings over h.old h.new before later answer)) is h.call in
      let gains = lasts_or_of_chain over h.old h.new (map bare answer.kept) before later keys call.1 in
      record { part = gains.part; grows = gains.grows; said = ⊎_elim (λ lasts. inl lasts) (λ chains. inr (h.old.states, h.new.states, chains)) gains.said }
