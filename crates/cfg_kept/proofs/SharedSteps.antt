-- A section of a shared state as one holding of a token.
use Rattle.std.proofs.Common.{◌≡◌, List, [], ◌∷◌, ◌++◌, Option, None, Result, Ok, Err, refl}
use Rattle.cfg_base.specs.Moment.{Moment}
use Rattle.cfg_types.specs.Environment.{Variables}
use Rattle.cfg_types.specs.declared.settings.CallSettings.{CallSettings}
use Rattle.cfg_world.specs.declared.asking.Asking.{Ghosts}
use Rattle.cfg_world.specs.declared.asking.Stop.{Stop}
use Rattle.cfg_world.specs.declared.asking.Stop.TheVariants.{OutOfMemory}
use Rattle.cfg_token.specs.declared.token_key.TokenKey.{TokenKey}
use Rattle.cfg_token.specs.Rules.{Rules}
use Rattle.cfg_token.specs.Histories.{TokenLoad, with_section}
use Rattle.cfg_token.specs.SharedSections.{found_history, FindsFollows}
use Rattle.cfg_token.proofs.SharedSteps.{answers_found}
use Rattle.cfg_kept.specs.Kinds.{Value, SsoAt}
use Rattle.cfg_kept.specs.KeptInquiry.{KeptInquiry}
use Rattle.cfg_kept.specs.Holds.{held, HoldsFollows}
use Rattle.cfg_kept.specs.SectionHoldings.{TokenSpot, IsSpot, section_holding}
use Rattle.cfg_kept.specs.FoundValues.{bare_load}
use Rattle.cfg_kept.proofs.OneHolding.{nothing_held}
use Rattle.cfg_kept.proofs.SectionSteps.{section_held, section_halted}

-- memory ran out before anything was found
pub nothing_found : {R W : Type 0} (w : Ghosts W) (p : KeptInquiry R) (old : W) (found later : List Value) (result : Result R Stop) → result ≡ Err OutOfMemory → later ≡ found →
    HoldsFollows w p old (held found None) old (held later None) result
nothing_found w p old found later result out e = nothing_held w p old found later (SsoAt None None) (SsoAt None None) result out refl e None tt

-- what the section found is added to the list, and what is kept is not told
pub section_shared : {T E W : Type 0} (t : Rules T E) (s : TokenSpot T) (is_spot : IsSpot s) (w : Ghosts W) (key : TokenKey) (env : Variables) (settings : CallSettings) (old new : W) (found more : List Value) (load : Option (TokenLoad T E)) (last : Option Moment)
    (result : Result (Result T E) Stop) → more ≡ found ++ s.at (bare_load load last) ∷ [] → FindsFollows t w key env settings old new load last result →
    HoldsFollows w (section_holding t s key env settings) old (held found None) new (held more None) result
section_shared t s is_spot w key env settings old new found more load last (Ok answer) e a =
    let was = found_history load last in
    section_held t s is_spot w key env settings old new found more was (with_section was a.ends.part a.made) a.made answer a.answers e (answers_found t w key env settings old new load last answer a) None tt
section_shared t s is_spot w key env settings old new found more load last (Err stop) e h =
    let was = found_history load last in
    section_halted t s is_spot w key env settings old new found more was was stop (Err stop) refl refl e h None tt
