-- What is told of callers is what their calls answer.
use Rattle.std.proofs.Common.{◌≡◌, ℕ, List, [], ◌++◌, map, Option, ap, ◌∙◌, subst}
use Rattle.std.specs.Prelude.{Result, Ok, Err, IfOk, IfSome, MatchResult}
use Rattle.cfg_base.specs.declared.memory.OutOfMemory.{OutOfMemory}
use Rattle.cfg_world.specs.declared.devices.Devices.{Ghosts}
use Rattle.cfg_world.specs.declared.script.DeviceLists.{DeviceLists}
use Rattle.cfg_world.specs.Fits.{Pair}
use Rattle.cfg_world.specs.Held.{Held}
use Rattle.cfg_world.specs.Script.{Script, Allows}
use Rattle.cfg_token.specs.declared.token_key.TokenKey.{TokenKey}
use Rattle.cfg_kept.specs.KeptStates.{kept_key}
use Rattle.cfg_chain.specs.Settings.{ChainSetting}
use Rattle.cfg_chain.specs.profile.Plans.{key_of}
use Rattle.cfg_sharing.specs.declared.shared.Shared.{Shared}
use Rattle.cfg_sharing.specs.declared.shared.ShareFault.{ShareFault}
use Rattle.cfg_sharing.specs.declared.shared.ShareFault.TheVariants as fault
use Rattle.cfg_sharing.specs.Calls.{AreCalled}
use Rattle.cfg_sharing.specs.Agreement.{handed_back, Agrees, IsFault}
use Rattle.cfg_program.specs.declared.share.Told.{Told}
use Rattle.cfg_program.specs.declared.status.Status.{Status}
use Rattle.cfg_program.specs.Shares.{last_is_given, TellsLast, SharesOver}
use Rattle.cfg_program.specs.Sharing.{new_world, callers_of, TellsCallers, TellsShared}
use Rattle.cfg_program.proofs.ShareCalls.{all_callers}
use Rattle.cfg_program.proofs.ShareLines.{agreement_told, difference_told}

module _ (d : Ghosts Script) (starts : (lists : DeviceLists) → d.stands (new_world lists).devices [])
    (stands_allowed : (s : Script) (entries : List Pair) → d.stands s entries → d.allows s entries)
    (allowed : (s : Script) (entries : List Pair) → d.allows s entries → Allows s entries) (over : ChainSetting) (all : List DeviceLists) where
  shares : (shared : Shared Script) (ended : Status) (told last lines : List ℕ) → AreCalled d over (map new_world all) shared.calls
      → TellsCallers (callers_of shared.calls) (last_is_given (callers_of shared.calls)) told
      → TellsLast (key_of over.configuration) (callers_of shared.calls) ended last → lines ≡ told ++ last → SharesOver over all ended lines
  shares shared ended told last lines made callers tells shows = record {
    callers = callers_of shared.calls;
    made = all_callers d starts stands_allowed allowed over all shared.calls made callers.answered;
    last = last;
    tells = tells;
    shows = shows ∙ ap (λ (l : List ℕ). l ++ last) callers.shows;
  }

-- what the callers' calls answer is told, by the devices that they are over
told_shares : (d : Ghosts Script) (over : ChainSetting) (all : List DeviceLists) (shared : Result (Shared Script) (ShareFault Script)) (ended : Status)
    (lines : List ℕ) → IfSome (handed_back shared) (λ s. AreCalled d over (map new_world all) s.calls)
    → IfSome (handed_back shared) (λ s. kept_key s.kept ≡ key_of over.configuration)
    → MatchResult shared Agrees IsFault → TellsShared shared ended lines → ((lists : DeviceLists) → d.stands (new_world lists).devices [])
    → ((s : Script) (entries : List Pair) → d.stands s entries → d.allows s entries)
    → ((s : Script) (entries : List Pair) → d.allows s entries → Allows s entries) → SharesOver over all ended lines
told_shares d over all (Ok shared) ended lines made key agrees t starts stands_allowed allowed =
    let last = agreement_told shared (key_of over.configuration) key ended lines t agrees in
    shares d starts stands_allowed allowed over all shared ended t.told _ lines made t.callers last t.shows
told_shares d over all (Err (fault.HistoryDiffers shared)) ended lines made key cause t starts stands_allowed allowed =
    let last = difference_told shared (key_of over.configuration) key ended lines t cause in
    shares d starts stands_allowed allowed over all shared ended t.told _ lines made t.callers last t.shows
told_shares d over all (Err fault.OutOfMemory) ended lines made key cause t starts stands_allowed allowed = absurd t

-- The worlds are new ones over the lists, and what is kept before the calls has the chain's key.
pub shares_told : (d : Ghosts Script) (over : ChainSetting) (all : List DeviceLists) (worlds : List (Held Script)) (key : Option TokenKey)
    (shared : Result (Shared Script) (ShareFault Script)) (told : Result Told OutOfMemory)
    → IfSome (handed_back shared) (λ s. AreCalled d over worlds s.calls) → IfSome (handed_back shared) (λ s. kept_key s.kept ≡ key)
    → worlds ≡ map new_world all → key ≡ key_of over.configuration
    → MatchResult shared Agrees IsFault → IfOk told (λ t. TellsShared shared t.ended t.lines.items)
    → ((lists : DeviceLists) → d.stands (new_world lists).devices [])
    → ((s : Script) (entries : List Pair) → d.stands s entries → d.allows s entries)
    → ((s : Script) (entries : List Pair) → d.allows s entries → Allows s entries)
    → IfOk told (λ t. SharesOver over all t.ended t.lines.items)
shares_told d over all worlds key shared (Err e) made has w k agrees tells starts stands_allowed allowed = tt
shares_told d over all worlds key shared (Ok t) made has w k agrees tells starts stands_allowed allowed =
    let calls = subst (λ (x : List (Held Script)). IfSome (handed_back shared) (λ s. AreCalled d over x s.calls)) w made in
    let keyed = subst (λ (x : Option TokenKey). IfSome (handed_back shared) (λ s. kept_key s.kept ≡ x)) k has in
    told_shares d over all shared t.ended t.lines.items calls keyed agrees tells starts stands_allowed allowed
