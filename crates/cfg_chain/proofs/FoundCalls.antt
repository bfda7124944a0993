-- A call by the values that it found.
use Rattle.std.proofs.Common.{◌≡◌, List, [], ◌++◌, Some, None, inl, inr, sym, ap, ◌∙◌, subst}
use Rattle.cfg_world.specs.declared.devices.Devices.{Ghosts}
use Rattle.cfg_world.specs.Fits.{Pair}
use Rattle.cfg_world.specs.Held.{Held}
use Rattle.cfg_kept.specs.Kinds.{Value, States}
use Rattle.cfg_kept.specs.KeptInquiry.{Runs, Begins}
use Rattle.cfg_kept.proofs.CallParts.{begun_untold}
use Rattle.cfg_providers.specs.CustomSources.{Answer}
use Rattle.cfg_chain.specs.Settings.{ChainSetting, Services, AreServices, setting}
use Rattle.cfg_chain.specs.Members.{default_chain}
use Rattle.cfg_chain.specs.Provides.{IsCall, Provides, Interrupted}
use Rattle.cfg_chain.specs.SharedCalls.{IsFoundCall, ProvidesFound, InterruptedFound}
use Rattle.cfg_chain.proofs.MemberCauses.{resolved}
use Rattle.cfg_chain.proofs.Validity.{valid_loaded}

-- a run of the default chain, wherever the found values are kept, is a call
pub is_found_call : (over : ChainSetting) (services : Services) (found : List Value) (part : List Pair) (out : Answer) → AreServices over services →
    Runs (default_chain (setting over services)) None found part out None → IsFoundCall over found part out
is_found_call over services found part out names runs =
    let s = setting over services in
    let resolves = resolved s found part out runs in
    record { services = services; names = names; resolves = resolves; valid = valid_loaded s found part out names.container resolves }

-- the same where the list of the values that were found was empty before
pub found_call_from : (over : ChainSetting) (services : Services) (earlier found more : List Value) (part : List Pair) (out : Answer) → AreServices over services →
    earlier ≡ [] → more ≡ earlier ++ found → Runs (default_chain (setting over services)) None found part out None → IsFoundCall over more part out
found_call_from over services earlier found more part out names none list runs =
    subst (λ f. IsFoundCall over f part out) (sym (list ∙ ap (λ t. t ++ found) none)) (is_found_call over services found part out names runs)

pub found_begins_from : (over : ChainSetting) (services : Services) (earlier found more : List Value) (part : List Pair) →
    earlier ≡ [] → more ≡ earlier ++ found → Begins (default_chain (setting over services)) None found part None → Begins (default_chain (setting over services)) None more part None
found_begins_from over services earlier found more part none list begins =
    subst (λ f. Begins (default_chain (setting over services)) None f part None) (sym (list ∙ ap (λ t. t ++ found) none)) begins

-- ---- a call on what is kept is one

pub found_call : (over : ChainSetting) (old new : States) (found : List Value) (part : List Pair) (out : Answer) → IsCall over old new found part out → IsFoundCall over found part out
found_call over old new found part out c = record { services = c.services; names = c.names; resolves = c.resolves; valid = c.valid }

module _ {D : Type 0} (d : Ghosts D) (over : ChainSetting) (old new : States) (found : List Value) (before later : Held D) where
  pub provides_found : (out : Answer) → Provides d over old new found before later out → ProvidesFound d over found before later out
  provides_found out h = record { part = h.part; grows = h.grows; call = found_call over old new found h.part out h.call }

  pub interrupted_found : Interrupted d over old new found before later → InterruptedFound d over found before later
  interrupted_found (inl h) = inl h.0
  interrupted_found (inr h) = inr (record {
    services = h.services;
    names = h.names;
    part = h.part;
    stays = h.stays;
    begins = begun_untold (default_chain (setting over h.services)) (Some old) (Some new) found h.part h.begins;
  })
