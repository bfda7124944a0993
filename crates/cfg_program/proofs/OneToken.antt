-- A script has one line of its default token chain.
use Rattle.std.proofs.Common.{◌≡◌, ℕ, List, [], ◌++◌, Bool, Some, sym, ap, ◌∙◌, subst}
use Rattle.std.specs.Prelude.{is_ok}
use Rattle.cfg_world.specs.declared.script.DeviceLists.{DeviceLists}
use Rattle.cfg_world.specs.Asked.{Same, StandsOn}
use Rattle.cfg_world.specs.Fits.{Pair}
use Rattle.cfg_world.specs.Script.{Script, Allows, Stands, start}
use Rattle.cfg_world.proofs.Agreeing.{given_alike}
use Rattle.cfg_profile.specs.Configuration.{Configuration}
use Rattle.cfg_kept.specs.Kinds.{Value, States, no_states}
use Rattle.cfg_kept.specs.KeptInquiry.{Reads, Runs}
use Rattle.cfg_kept.proofs.Agreeing.{one_run}
use Rattle.cfg_kept.proofs.Told.{told_back}
use Rattle.cfg_sso.specs.BearerTokens.{Bearer}
use Rattle.cfg_token_chain.specs.ProfileTokens.{default_token, DefaultTokenCause}
use Rattle.cfg_token_chain.specs.Provides.{IsTokenCall}
use Rattle.cfg_script.specs.Script.{Plain}
use Rattle.cfg_script.specs.Devices.{lists_of}
use Rattle.cfg_program.specs.declared.causes.Below.{Below}
use Rattle.cfg_program.specs.Calls.{configuration_of}
use Rattle.cfg_program.specs.Tokens.{shown_token_as, TellsToken, TokenAnswers}
use Rattle.cfg_program.proofs.OneRegion.{given_from_start}

-- a call is a run of the chain's tree
runs_call : (conf : Configuration) (old new : States) (found : List Value) (journal : List Pair) (out : Bearer) → IsTokenCall (default_token conf) (DefaultTokenCause conf) old new found journal out
    → Runs (default_token conf) (Some old) found journal out (Some new)
runs_call conf old new found journal out call =
    told_back (default_token conf) old (Some new) found journal out (call.finds, ap Some call.keeps, subst (λ f. Reads (default_token conf) f journal out) call.finds call.reads)

one_told : (below : Below) (conf : Configuration) (lists : DeviceLists) (a b : Bool) (line other : List ℕ) → TellsToken below conf lists a line → TellsToken below conf lists b other → (a ≡ b) × (line ≡ other)
one_told below conf lists a b line other x y =
    let same = one_run (default_token conf) no_states x.found y.found x.journal y.journal x.out y.out (Some x.kept) (Some y.kept)
    (runs_call conf no_states x.kept x.found x.journal x.out x.call) (runs_call conf no_states y.kept y.found y.journal y.out y.call)
    (given_alike lists start x.journal y.journal x.agrees y.agrees) in (
      x.token ∙ ap (λ (o : Bearer). is_ok o) same.2 ∙ sym y.token,
      x.shows ∙ ap (λ (o : Bearer). shown_token_as below o x.journal) same.2 ∙ ap (λ (j : List Pair). shown_token_as below y.out j) same.0 ∙ sym y.shows,
    )

pub one_token : (below : Below) (p : Plain) (a b : Bool) (line other : List ℕ) → TokenAnswers below p a line → TokenAnswers below p b other → (a ≡ b) × (line ≡ other)
one_token below p a b line other x y = one_told below (configuration_of p) (lists_of p) a b line other x y

-- one call over scripted devices that nothing was asked of
pub token_over : (below : Below) (conf : Configuration) (was now : Script) (old new : States) (found : List Value) (journal told : List Pair) (out : Bearer) (is_token : Bool) (none lines : List ℕ) → was.place ≡ start → Same (Allows was) (Allows now) → StandsOn (Stands was) (Stands now) journal
    → old ≡ no_states → IsTokenCall (default_token conf) (DefaultTokenCause conf) old new found journal out → told ≡ journal → is_token ≡ is_ok out → none ≡ [] → lines ≡ none ++ shown_token_as below out told → TellsToken below conf was.lists is_token lines
token_over below conf was now old new found journal told out is_token none lines fresh same stands nothing call own is empty shows = record {
  found = found;
  journal = journal;
  out = out;
  kept = new;
  call = subst (λ (k : States). IsTokenCall (default_token conf) (DefaultTokenCause conf) k new found journal out) nothing call;
  agrees = given_from_start was now journal fresh same stands;
  token = is;
  shows = shows ∙ ap (λ (l : List ℕ). l ++ shown_token_as below out told) empty ∙ ap (λ (j : List Pair). shown_token_as below out j) own;
}

-- and over devices that allow what those did
pub tells_since : (below : Below) (conf : Configuration) (was now : Script) (is_token : Bool) (line : List ℕ) → Same (Allows was) (Allows now) → TellsToken below conf now.lists is_token line → TellsToken below conf was.lists is_token line
tells_since below conf was now is_token line same t = record {
  found = t.found;
  journal = t.journal;
  out = t.out;
  kept = t.kept;
  call = t.call;
  agrees = same.from t.journal t.agrees;
  token = t.token;
  shows = t.shows;
}
