-- A shared cache, made of one; and what its calls find.
use Rattle.std.proofs.Common.{true, false, Ok, ◌≡◌, ℕ, List, [], length, map, Option, Some, None, option_map, refl, sym, ap, subst, ◌∙◌, inl, inr}
use Rattle.std.specs.Prelude.{Result, Err, slice_get, IfOk, OnOk, OnErr}
use Rattle.std.specs.Option.{option_and_then}
use Rattle.std.specs.FinMap.{get}
use Rattle.std.proofs.lemmas.List.{length-map}
use Rattle.std.proofs.lemmas.Option.{slice_get-map}
use Rattle.cfg_base.specs.TextMap.{Named}
use Rattle.cfg_types.specs.Classes.{is_memory}
use Rattle.cfg_world.specs.declared.devices.Devices.{Ghosts}
use Rattle.cfg_world.specs.Held.{Held as World}
use Rattle.cfg_kept.specs.FoundValues.{bare}
use Rattle.cfg_kept.specs.Kinds.{Value}
use Rattle.cfg_providers.specs.CustomSources.{Answer}
use Rattle.cfg_chain.proofs.WorldSteps.{stays_here}
use Rattle.cfg_chain.specs.Answers.{Answered, RanOut}
use Rattle.cfg_chain.specs.Settings.{ChainSetting}
use Rattle.cfg_identity.specs.declared.fault.CacheFault.TheVariants as fault
use Rattle.cfg_identity.specs.declared.held.Held.{Held}
use Rattle.cfg_identity.specs.declared.settings.CacheSettings.{CacheSettings}
use Rattle.cfg_identity.specs.declared.shared.CacheAnswer.{CacheAnswer}
use Rattle.cfg_identity.specs.Cached.{Breaks, Caches, CacheBreaks, HasBegun}
use Rattle.cfg_identity.specs.Faults.{IsTold, Tells}
use Rattle.cfg_identity.specs.Names.{at_name}
use Rattle.cfg_identity.specs.NameStates.{NameState}
use Rattle.cfg_identity.specs.SharedCalls.{FindsBroken, FindsOn, IsFoundCall, IsPutBack, IsShared, IsUnknown, NothingFound}
use Rattle.cfg_identity.proofs.CallSteps.{tells_from, whole_breaks}

fused : {X Y Z : Type 0} (f : X → Y) (k : Y → Z) (o : Option X) → option_map (λ x. k (f x)) o ≡ option_map k (option_map f o)
fused f k None = refl
fused f k (Some x) = refl

one : {Y W V : Type 0} (h : Y → V) (v : V → W) (w : Y → W) (o : Option Y) → ((y : Y) → v (h y) ≡ w y) → option_map w o ≡ option_map v (option_map h o)
one h v w None same = refl
one h v w (Some y) same = ap (λ z. Some z) (sym (same y))

-- two lists whose items have one image have it under each name
module _ {X Y Z W V : Type 0} (k : Z → W) (f : X → Z) (g : Y → Z) (h : Y → V) (v : V → W) (m : Named ℕ) (xs : List X) (ys : List Y) where
  pub same_under : map f xs ≡ map g ys → (name : List ℕ) → ((y : Y) → v (h y) ≡ k (g y)) → option_map (λ x. k (f x)) (at_name m xs name) ≡ option_map v (option_map h (at_name m ys name))
  same_under e name same =
      elim (get m name) as (λ o. option_map (λ x. k (f x)) (option_and_then (λ j. slice_get xs j) o) ≡ option_map v (option_map h (option_and_then (λ j. slice_get ys j) o))) [
        | None ↦ refl
        | Some j ↦
            fused f k (slice_get xs j) ∙ ap (option_map k) (sym (slice_get-map f xs j) ∙ ap (λ zs. slice_get zs j) e ∙ slice_get-map g ys j) ∙ sym (fused g k (slice_get ys j))
            ∙ one h v (λ y. k (g y)) (slice_get ys j) same
      ]

pub same_count : {X Y Z : Type 0} (f : X → Z) (g : Y → Z) (xs : List X) (ys : List Y) → map f xs ≡ map g ys → length xs ≡ length ys
same_count f g xs ys e = sym (length-map xs f) ∙ ap length e ∙ length-map ys g

pub on_err : {A E P : Type 0} (r : Result A E) → P → OnErr r P
on_err (Ok x) p = tt
on_err (Err e) p = p

module _ {D : Type 0} (d : Ghosts D) where
  -- nothing was asked
  pub nothing_breaks : (settings : CacheSettings) (over : ChainSetting) (state : NameState) (world : World D) → Breaks d settings over state state world world
  nothing_breaks settings over state world = ([], record { held = refl; part = []; stays = stays_here world; begins = refl })

  -- memory ran out before it could be told
  pub breaks_found : (settings : CacheSettings) (over : ChainSetting) (old new : NameState) (before later : World D) (answer : CacheAnswer)
      → answer.outcome ≡ Err fault.OutOfMemory → NothingFound answer → Breaks d settings over old new before later → FindsOn d settings over old new before later answer
  breaks_found settings over old new before later answer is nothing breaks =
      subst (Tells (λ out. (answer.held ≡ old.held) × Caches d settings over old new (map bare answer.kept) before later out) (FindsBroken d settings over old new before later answer)) (sym is) (inr (nothing, breaks))

  -- the answer tells what was found
  pub found_result : {E : Type 0} (settings : CacheSettings) (over : ChainSetting) (before later : World D) (old mid new : NameState) (held : Option Held) (found : List Value) (outcome : Answer) (r : Result CacheAnswer E)
      → held ≡ old.held → Answered outcome (Caches d settings over old mid found before later) → RanOut outcome (CacheBreaks d settings over old mid found before later)
      → IfOk r (λ a. IsTold outcome a.outcome) → IfOk r (λ a. a.held ≡ held) → IfOk r (λ a. map bare a.kept ≡ found) → OnOk r (new ≡ mid)
      → IfOk r (FindsOn d settings over old new before later)
  found_result settings over before later old mid new held found outcome (Err e) same caches breaks told is finds stays = tt
  found_result settings over before later old mid new held found outcome (Ok a) same caches breaks told is finds stays =
      subst (λ s. FindsOn d settings over old s before later a) (sym stays)
      (tells_from outcome a.outcome
      (λ out. (a.held ≡ old.held) × Caches d settings over old mid (map bare a.kept) before later out)
      (FindsBroken d settings over old mid before later a) told
      (λ none. (is ∙ same, subst (λ f. Caches d settings over old mid f before later outcome) (sym finds) (caches none)))
      (λ ran_out. inl (is ∙ same, subst (λ f. CacheBreaks d settings over old mid f before later) (sym finds) (breaks ran_out))))

  -- memory ran out in the call, and what was held, which is held still, is put back
  put_back : (settings : CacheSettings) (over : ChainSetting) (old mid new : NameState) (held : Option Held) (found : List Value) (before later : World D)
      → held ≡ old.held → CacheBreaks d settings over old mid found before later → IsPutBack held mid new → CacheBreaks d settings over old new found before later
  put_back settings over old mid new held found before later same breaks back = record {
    held = back.0 ∙ same;
    part = breaks.part;
    stays = breaks.stays;
    begins = subst (λ s. HasBegun settings over old s found breaks.part) (sym back.1) breaks.begins;
  }

  -- memory ran out behind the call, and what was held is put back
  pub broken_result : {A E : Type 0} (settings : CacheSettings) (over : ChainSetting) (before later : World D) (old mid new : NameState) (held : Option Held) (found : List Value) (outcome : Answer) (r : Result A E)
      → held ≡ old.held → Answered outcome (Caches d settings over old mid found before later) → RanOut outcome (CacheBreaks d settings over old mid found before later)
      → OnErr r (IsPutBack held mid new) → OnErr r (Breaks d settings over old new before later)
  broken_result settings over before later old mid new held found outcome (Ok a) same caches breaks back = tt
  broken_result settings over before later old mid new held found outcome (Err e) same caches breaks back =
      elim (is_memory outcome) as (λ b. is_memory outcome ≡ b → Breaks d settings over old new before later) [
        | true ↦ λ h. (found, put_back settings over old mid new held found before later same (breaks h) back)
        | false ↦ λ h. (found, whole_breaks d settings over old mid new found before later outcome (caches h) (back.0 ∙ same) back.1)
      ] refl

  -- a name that is not there, and one that is
  pub shared_nowhere : (settings : CacheSettings) (name : List ℕ) (at : Option ChainSetting) (world : World D) (answer : CacheAnswer) → at ≡ None → IsUnknown name answer → IsShared d settings name at world world answer
  shared_nowhere settings name at world answer none is = subst (λ o. IsShared d settings name o world world answer) (sym none) (refl, is)

  pub shared_there : (settings : CacheSettings) (name : List ℕ) (at : Option ChainSetting) (over : ChainSetting) (before later : World D) (answer : CacheAnswer) → at ≡ Some over → IsFoundCall d settings over before later answer → IsShared d settings name at before later answer
  shared_there settings name at over before later answer there call = subst (λ o. IsShared d settings name o before later answer) (sym there) call
