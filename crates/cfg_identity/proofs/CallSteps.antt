-- A call under a name: a reading of the clock, and what stands behind it.
use Rattle.std.proofs.Common.{◌≡◌, ℕ, List, [], ◌∷◌, map, Option, Some, None, Ok, Err, refl, sym, ap, subst, ◌∙◌, inl, inr, ⊎_elim}
use Rattle.std.specs.Prelude.{◌⊎◌, Result}
use Rattle.cfg_base.specs.Moment.{Moment}
use Rattle.cfg_base.specs.Text.{characters}
use Rattle.cfg_types.specs.Keys.{Keys}
use Rattle.cfg_world.specs.declared.ask.Question.TheVariants.{Now}
use Rattle.cfg_world.specs.declared.devices.Devices.{Ghosts}
use Rattle.cfg_world.specs.Fits.{Pair}
use Rattle.cfg_world.specs.Grows.{Grows, Stays}
use Rattle.cfg_world.specs.Held.{Held as World}
use Rattle.cfg_world.specs.Leaves.{moment_of}
use Rattle.cfg_kept.specs.FoundValues.{bare}
use Rattle.cfg_kept.specs.Kinds.{Value}
use Rattle.cfg_kept.specs.KeptStates.{kept_holdings}
use Rattle.cfg_providers.specs.CustomSources.{Answer}
use Rattle.cfg_chain.proofs.WorldSteps.{grows_then, stays_then}
use Rattle.cfg_chain.specs.Answers.{Answered, RanOut}
use Rattle.cfg_chain.specs.Provides.{IsCall}
use Rattle.cfg_chain.specs.Settings.{ChainSetting}
use Rattle.cfg_identity.specs.declared.fault.CacheFault.{CacheFault}
use Rattle.cfg_identity.specs.declared.fault.CacheFault.TheVariants as fault
use Rattle.cfg_identity.specs.declared.held.Held.{Held}
use Rattle.cfg_identity.specs.declared.loaded.Loaded.{Loaded}
use Rattle.cfg_identity.specs.declared.settings.CacheSettings.{CacheSettings}
use Rattle.cfg_identity.specs.Cached.{IsHit, IsLoad, Breaks, Caches, CachesAny, HasBegun, CacheBreaks, LoadsOn, LoadBreaksOn}
use Rattle.cfg_identity.specs.Entries.{Entry, IsResolved, ResolvesOn}
use Rattle.cfg_identity.specs.Faults.{IsTold, Tells}
use Rattle.cfg_identity.specs.Lives.{lasting, IsEnd, IsHeld, Holds}
use Rattle.cfg_identity.specs.NameStates.{NameState, state_of}

-- credentials that a chain answered are held
pub holds_keys : (settings : CacheSettings) (now : Moment) (outcome : Answer) (old : Option Held) (keys : Keys) (held : Held) (expiry : Option Moment)
    → outcome ≡ Ok keys → held.credentials ≡ keys → expiry ≡ keys.expiry → IsEnd settings expiry now held.life → Holds settings now outcome old (Some held) (Ok keys)
holds_keys settings now outcome old keys held expiry is same at ends =
    (sym is, subst (λ o. IsHeld settings now o old (Some held)) (sym is) (held, same, subst (λ o. IsEnd settings o now held.life) at ends, refl))

-- an answer is told as that of a cache
pub tells_from : (outcome : Answer) (told : Result Keys CacheFault) (P : Answer → Type 0) (Q : Type 0) → IsTold outcome told → Answered outcome P → RanOut outcome Q → Tells P Q told
tells_from (Ok keys) told P Q is answered ran_out = subst (Tells P Q) (sym is) (answered refl)
tells_from (Err e) told P Q is answered ran_out =
    ⊎_elim (λ h. subst (Tells P Q) (sym h.1) (h.0, answered h.0)) (λ h. subst (Tells P Q) (sym h.1) (ran_out h.0)) is

module _ {D : Type 0} (d : Ghosts D) where
  stays_of : (part : List Pair) (before later : World D) → Grows d part before later → Stays d part before later
  stays_of part before later grows = record { journal = grows.journal; fits = grows.fits; same = grows.same; counted = grows.counted }

  -- what is held lasts
  pub hit_caches : (settings : CacheSettings) (over : ChainSetting) (old : NameState) (at : Loaded) (before later : World D) (e : Pair) (now : Moment) (held : Held) (keys : Keys)
      → e.0 ≡ Now → Grows d (e ∷ []) before later → now ≡ moment_of e.1 → state_of at ≡ old → Some held ≡ lasting settings at.held now
      → keys ≡ held.credentials → at.kept.found.items ≡ []
      → Caches d settings over old (state_of at) (kept_holdings at.kept).found before later (Ok keys)
  hit_caches settings over old at before later e now held keys reads grows is same lasts copied nothing = record {
    part = e ∷ [];
    grows = grows;
    call = record {
      reading = e;
      reads = reads;
      rest = [];
      asks = refl;
      answers = inl (record {
        held = held;
        lasts = subst (λ s. lasting settings s.held (moment_of e.1) ≡ Some held) same (subst (λ m. lasting settings at.held m ≡ Some held) is (sym lasts));
        answers = ap Ok copied;
        asks = refl;
        finds = ap (map bare) nothing;
        same = same;
      });
    };
  }

  -- nothing is held that lasts
  pub load_caches : (settings : CacheSettings) (over : ChainSetting) (old : NameState) (at new : Loaded) (before mid later : World D) (e : Pair) (now : Moment) (out : Answer)
      → e.0 ≡ Now → Grows d (e ∷ []) before mid → now ≡ moment_of e.1 → state_of at ≡ old → None ≡ lasting settings at.held now
      → LoadsOn d settings over now at new mid later out
      → Caches d settings over old (state_of new) (kept_holdings new.kept).found before later out
  load_caches settings over old at new before mid later e now out reads grows is same due loads =
      let p = loads.provides in
      let found = (kept_holdings new.kept).found in
      subst (λ o. Caches d settings over o (state_of new) found before later out) same (record {
        part = e ∷ p.part;
        grows = grows_then grows p.grows;
        call = record {
          reading = e;
          reads = reads;
          rest = p.part;
          asks = refl;
          answers = subst (λ m. IsHit settings m (state_of at) (state_of new) found p.part out ⊎ IsLoad settings over m (state_of at) (state_of new) found p.part out) is
              (inr (record { due = sym due; call = p.call; holds = loads.holds }));
        };
      })

  -- memory ran out in the chain's call, or behind it
  pub load_breaks : (settings : CacheSettings) (over : ChainSetting) (old : NameState) (at new : Loaded) (before mid later : World D) (e : Pair) (now : Moment)
      → e.0 ≡ Now → Grows d (e ∷ []) before mid → now ≡ moment_of e.1 → state_of at ≡ old → None ≡ lasting settings at.held now
      → LoadBreaksOn d over at new mid later
      → CacheBreaks d settings over old (state_of new) (kept_holdings new.kept).found before later
  load_breaks settings over old at new before mid later e now reads grows is same due broken =
      let late : lasting settings at.held (moment_of e.1) ≡ None = subst (λ m. lasting settings at.held m ≡ None) is (sym due) in
      subst (λ o. CacheBreaks d settings over o (state_of new) (kept_holdings new.kept).found before later) same
      (⊎_elim
      (λ interrupted. ⊎_elim
      (λ none. record {
        held = broken.held;
        part = e ∷ [];
        stays = stays_of (e ∷ []) before later (subst (λ w. Grows d (e ∷ []) before w) (sym none.0) grows);
        begins = (reads, inl (refl, none.1));
      })
      (λ begun. record {
        held = broken.held;
        part = e ∷ begun.part;
        stays = stays_then grows begun.stays;
        begins = (reads, inr (record { due = late; call = inl (record { services = begun.services; names = begun.names; begins = begun.begins }) }));
      })
      interrupted)
      (λ whole. record {
        held = broken.held;
        part = e ∷ whole.1.part;
        stays = stays_of (e ∷ whole.1.part) before later (grows_then grows whole.1.grows);
        begins = (reads, inr (record { due = late; call = inr (whole.0, whole.1.call) }));
      })
      broken.goes)

  -- memory ran out behind a call that came to its end, and what was held is put back
  pub whole_breaks : (settings : CacheSettings) (over : ChainSetting) (old new back : NameState) (found : List Value) (before later : World D) (out : Answer)
      → Caches d settings over old new found before later out → back.held ≡ old.held → back.states ≡ new.states → CacheBreaks d settings over old back found before later
  whole_breaks settings over old new back found before later out caches held states =
      let call = caches.call in
      record {
        held = held;
        part = caches.part;
        stays = stays_of caches.part before later caches.grows;
        begins = subst (λ p. HasBegun settings over old back.states found p) (sym call.asks) (
          call.reads,
          ⊎_elim
              (λ hit. inl (hit.asks, states ∙ ap (λ s. s.states) hit.same))
              (λ load. inr (record { due = load.due; call = inr (out, subst (λ s. IsCall over old.states s found call.rest out) (sym states) load.call) }))
              call.answers,
        );
      }

  -- a call over what stands under a name
  pub resolves_from : (settings : CacheSettings) (over : ChainSetting) (old new : NameState) (before later : World D)
      → (outcome : Answer) (told : Result Keys CacheFault) → IsTold outcome told
      → Answered outcome (CachesAny d settings over old new before later) → RanOut outcome (Breaks d settings over old new before later)
      → ResolvesOn d settings (record { over = over; state = old }) (record { over = over; state = new }) before later told
  resolves_from settings over old new before later outcome told is caches breaks = record {
    same_chain = refl;
    call = tells_from outcome told (CachesAny d settings over old new before later) (Breaks d settings over old new before later) is caches breaks;
  }

  -- a name that is not there, and one that is
  pub resolved_nowhere : (settings : CacheSettings) (name : List ℕ) (old new : Option Entry) (before later : World D) (out : Result Keys CacheFault)
      → old ≡ None → new ≡ old → later ≡ before → (out ≡ Err (fault.Unknown (characters name))) ⊎ (out ≡ Err fault.OutOfMemory)
      → IsResolved d settings name old new before later out
  resolved_nowhere settings name old new before later out none same stays is =
      subst (λ o. IsResolved d settings name o new before later out) (sym none) (same ∙ none, stays, is)

  pub resolved_there : (settings : CacheSettings) (name : List ℕ) (old new : Option Entry) (there left : Entry) (before later : World D) (out : Result Keys CacheFault)
      → old ≡ Some there → new ≡ Some left → ResolvesOn d settings there left before later out → IsResolved d settings name old new before later out
  resolved_there settings name old new there left before later out was is call =
      subst (λ o. IsResolved d settings name o new before later out) (sym was) (left, is, call)
