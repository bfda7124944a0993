-- What follows the first reading of a section.
use Rattle.std.proofs.Common.{◌≡◌, Bool, true, false, cond, List, [], ◌∷◌, ◌++◌, Option, Some, None, refl, sym, ap, subst}
use Rattle.cfg_base.specs.Moment.{Moment}
use Rattle.cfg_types.specs.Environment.{Variables}
use Rattle.cfg_types.specs.declared.settings.CallSettings.{CallSettings}
use Rattle.cfg_world.specs.declared.asking.Asking.{Ghosts}
use Rattle.cfg_world.specs.Fits.{Fits, Pair}
use Rattle.cfg_world.specs.Follows.{Waits, Breaks}
use Rattle.cfg_world.specs.Inquiry.{Inquiry, Done, after}
use Rattle.cfg_world.proofs.Inquiries.{waits_first, breaks_first, breaks_here}
use Rattle.cfg_token.specs.declared.loading.Loaded.{Loaded}
use Rattle.cfg_token.specs.declared.sections.Sectioned.{Sectioned}
use Rattle.cfg_token.specs.declared.sections.Sectioned.TheVariants.{Hit, Load}
use Rattle.cfg_token.specs.declared.token_key.TokenKey.{TokenKey}
use Rattle.cfg_token.specs.Decisions.{outlasts_buffer}
use Rattle.cfg_token.specs.Notes.{NotedEnds, ReadsClock}
use Rattle.cfg_world.specs.declared.ask.Question.TheVariants.{Now}
use Rattle.cfg_world.specs.Asked.{Same, StandsOn}
use Rattle.cfg_world.specs.Faults.{Counted}
use Rattle.cfg_world.specs.Leaves.{clock}
use Rattle.cfg_token.specs.Rules.{Rules}
use Rattle.cfg_token.specs.Sections.{load, hit, by_reading}
use Rattle.cfg_token.proofs.NotedSteps.{noted_after, noted_done}

module _ {T E : Type 0} (t : Rules T E) (key : TokenKey) (env : Variables) (settings : CallSettings) (last : Option Moment) (r : Moment) where
  -- a load, as a section's outcome
  abbrev pub by_load : Inquiry (Sectioned T E)
  by_load = after (load t key env settings last) (λ l. Done (Load l))

  pub reading_hits : (kept : Option T) (token : T) → Some token ≡ hit t kept r → by_reading t key env settings kept last r ≡ Done (Hit token)
  unfolding by_reading
  reading_hits None token h = cc
  reading_hits (Some old) token h = either_way (outlasts_buffer t old r) h
    where
      either_way : (fresh : Bool) → Some token ≡ cond fresh (Some old) None → cond fresh (Done (Hit old)) by_load ≡ Done (Hit token)
      either_way true h = let same : old ≡ token = cc in ap (λ (x : T). let d : Inquiry (Sectioned T E) = Done (Hit x) in d) same
      either_way false h = cc

  pub reading_loads : (kept : Option T) → None ≡ hit t kept r → by_reading t key env settings kept last r ≡ by_load
  unfolding by_reading
  reading_loads None h = refl
  reading_loads (Some old) h = either_way (outlasts_buffer t old r) h
    where
      either_way : (fresh : Bool) → (let none : Option T = None in none) ≡ cond fresh (Some old) None → cond fresh (Done (Hit old)) by_load ≡ by_load
      either_way true h = cc
      either_way false h = refl

module _ {W : Type 0} {w : Ghosts W} {T E : Type 0} (t : Rules T E) (key : TokenKey) (env : Variables) (settings : CallSettings) (kept : Option T) (last : Option Moment) (r : Moment) where
  pub noted_hit : (old : W) (held : List Pair) (token : T) → Some token ≡ hit t kept r → NotedEnds w (by_reading t key env settings kept last r) old held old held (Hit token)
  noted_hit old held token h = subst (λ p. NotedEnds w p old held old held (Hit token)) (sym (reading_hits t key env settings last r kept token h)) noted_done

  pub noted_load : {old new : W} {held receipts : List Pair} {l : Loaded T E} → None ≡ hit t kept r → NotedEnds w (load t key env settings last) old held new receipts l →
      NotedEnds w (by_reading t key env settings kept last r) old held new receipts (Load l)
  noted_load {old = old} {new = new} {held = held} {receipts = receipts} {l = l} h a =
      subst (λ p. NotedEnds w p old held new receipts (Load l)) (sym (reading_loads t key env settings last r kept h)) (noted_after (λ l. Done (Load l)) a noted_done)

  pub waits_load : {old new : W} → None ≡ hit t kept r → Waits w (load t key env settings last) old new → Waits w (by_reading t key env settings kept last r) old new
  waits_load {old = old} {new = new} h a = subst (λ p. Waits w p old new) (sym (reading_loads t key env settings last r kept h)) (waits_first (λ l. Done (Load l)) a)

  pub breaks_load : {old new : W} → None ≡ hit t kept r → Breaks w (load t key env settings last) old new → Breaks w (by_reading t key env settings kept last r) old new
  breaks_load {old = old} {new = new} h a = subst (λ p. Breaks w p old new) (sym (reading_loads t key env settings last r kept h)) (breaks_first (λ l. Done (Load l)) a)

pub ruleset reading_steps = (noted_hit, noted_load, waits_load, breaks_load, breaks_here)

-- one reading of the clock
pub reads_clock : {W : Type 0} (w : Ghosts W) (old new : W) (receipt : Pair) → receipt.0 ≡ Now → Fits receipt.0 receipt.1 → w.journal new ≡ w.journal old ++ receipt ∷ [] → w.made_of new ≡ w.made_of old →
    Same (w.allows old) (w.allows new) → Counted (receipt ∷ []) (w.faults old) (w.faults new) → StandsOn (w.stands old) (w.stands new) (receipt ∷ []) → ReadsClock w old new receipt
unfolding clock
reads_clock w old new receipt asked fits grows made same counted stands = record {
  ends = record { part = receipt ∷ []; grows = grows; fits = (fits, tt); made = made; same = same; counted = counted; stands = stands; reads = (asked, refl) };
  asked = asked;
  part_is = refl;
}
