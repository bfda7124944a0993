-- The call over what is handed in: what it leaves of the world, and its line.
use Rattle.std.proofs.Common.{◌≡◌, ℕ, List, [], ◌++◌, ◌-◌, length, length-append, take, drop, arith, Bool, true, false, None, Result, Ok, Err, OnErr, refl, ap, subst, ◌∙◌, inr}
use Rattle.std.specs.Prelude.{is_ok}
use Rattle.std.proofs.Math.Seq.{drop-append_seam, take-length}
use Rattle.cfg_base.specs.TextMap.{Named}
use Rattle.cfg_base.specs.Entries.{each_set}
use Rattle.cfg_types.specs.declared.environment.EnvText.{EnvText}
use Rattle.cfg_world.specs.declared.devices.Devices.{Ghosts}
use Rattle.cfg_world.specs.Fits.{Pair}
use Rattle.cfg_world.specs.Held.{Held}
use Rattle.cfg_profile.specs.Configuration.{Configuration, nothing_configured}
use Rattle.cfg_kept.specs.Kinds.{Value, States, no_states}
use Rattle.cfg_providers.specs.CustomSources.{Answer}
use Rattle.cfg_types.specs.Classes.{is_memory}
use Rattle.cfg_chain.specs.Settings.{ChainSetting}
use Rattle.cfg_chain.specs.Provides.{IsCall, Provides, ProvidesBeginning, Interrupted}
use Rattle.cfg_chain.proofs.WholeCalls.{call_begins}
use Rattle.cfg_program.specs.Lines.{shown}
use Rattle.cfg_program.specs.Local.{local_configuration, GrowsByCall, StopsInCall}

pub on_err : {A E : Type 0} {P : Type 0} (r : Result A E) → P → OnErr r P
on_err (Ok x) p = tt
on_err (Err e) p = p

module _ {D : Type 0} (d : Ghosts D) (over : ChainSetting) (old new : States) (found : List Value) (before later : Held D) where
  stopped_as : (out : Answer) (b : Bool) → old ≡ no_states → is_memory out ≡ b → (is_memory out ≡ false → Provides d over old new found before later out) → (is_memory out ≡ true → Interrupted d over old new found before later) → StopsInCall d over before later
  stopped_as out true nothing e p s = (new, found, subst (λ k. Interrupted d over k new found before later) nothing (s e))
  stopped_as out false nothing e p s = (new, found, inr (subst (λ k. ProvidesBeginning d over k new found before later) nothing (call_begins d over old new found before later out (p e))))

  -- memory ran out, in the call or behind it
  pub stopped : (out : Answer) → old ≡ no_states → (is_memory out ≡ false → Provides d over old new found before later out) → (is_memory out ≡ true → Interrupted d over old new found before later) → StopsInCall d over before later
  stopped out nothing p s = stopped_as out (is_memory out) nothing refl p s

-- the entries behind those that were there before
gained : (before part : List Pair) → take (length (before ++ part) - length before) (drop (length before) (before ++ part)) ≡ part
gained before part =
    let n : length (before ++ part) - length before ≡ length part = omega (arith, length-append before part) in
    ap (λ (l : List Pair). take (length (before ++ part) - length before) l) (drop-append_seam before part) ∙ ap (λ (k : ℕ). take k part) n ∙ take-length part

behind : (start all before later part : List Pair) → start ≡ before → all ≡ later → later ≡ before ++ part → take (length all - length start) (drop (length start) all) ≡ part
behind start all before later part s a g =
    ap (λ (l : List Pair). take (length all - length l) (drop (length l) all)) s ∙ ap (λ (l : List Pair). take (length l - length before) (drop (length before) l)) (a ∙ g) ∙ gained before part

pub grows_by_call : {D : Type 0} (d : Ghosts D) (over : ChainSetting) (old new : States) (found : List Value) (before later : Held D) (out : Answer) (start all : List Pair) (ok : Bool) (none lines : List ℕ)
    → old ≡ no_states → Provides d over old new found before later out → start ≡ before.journal → all ≡ later.journal → ok ≡ is_ok out → none ≡ [] → lines ≡ none ++ shown out (take (length all - length start) (drop (length start) all))
    → GrowsByCall d over before later ok lines
grows_by_call d over old new found before later out start all ok none lines nothing p s a credentials empty shows = (
  p.part,
  p.grows,
  record {
    call = record { found = found; journal = p.part; out = out; kept = new };
    made = subst (λ (k : States). IsCall over k new found p.part out) nothing p.call;
    asked = refl;
    credentials = credentials;
    shows = shows ∙ ap (λ (l : List ℕ). l ++ shown out (take (length all - length start) (drop (length start) all))) empty ∙ ap (λ (j : List Pair). shown out j) (behind start all before.journal later.journal p.part s a p.grows.journal);
  },
)

-- what is handed in configures the chain
pub configures : (variables : List (List ℕ × EnvText)) (env : Named EnvText) (empty_one with_env chain : Configuration) → env ≡ each_set variables → empty_one ≡ nothing_configured true
    → with_env ≡ record empty_one { environment = env } → chain ≡ record with_env { region = None } → chain ≡ local_configuration variables
configures variables env empty_one with_env chain e o v c = rw (c, v, o, e) refl
