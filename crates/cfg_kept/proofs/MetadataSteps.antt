-- A holding of the session token of a metadata client, by the settle that it makes.
use Rattle.std.proofs.Common.{◌≡◌, ℕ, List, [], ◌∷◌, ◌++◌, Option, Some, Result, Ok, Err, refl, sym, ap, subst}
use Rattle.cfg_types.specs.declared.errors.imds.ImdsError.{ImdsError}
use Rattle.cfg_world.specs.declared.asking.Asking.{Ghosts}
use Rattle.cfg_world.specs.declared.asking.Stop.{Stop}
use Rattle.cfg_world.specs.Follows.{Ends, Halts}
use Rattle.cfg_imds.specs.Clients.{ClientRules, settle}
use Rattle.cfg_imds.specs.Tokens.{Token}
use Rattle.cfg_kept.specs.declared.place.Place.{Place}
use Rattle.cfg_kept.specs.declared.place.Place.TheVariants.{Chain, Named}
use Rattle.cfg_kept.specs.Kinds.{Value, States, MetadataTokenOf, MetadataTokenAt, token_in}
use Rattle.cfg_kept.specs.Holds.{held, HoldsFollows, HoldsOne}
use Rattle.cfg_kept.specs.MetadataHoldings.{token_holding}
use Rattle.cfg_kept.proofs.OneHolding.{holding_ended, holding_halted}

abbrev Given : Type 0
Given = Result (List ℕ) ImdsError

module _ {W : Type 0} (w : Ghosts W) (client : ClientRules) (place : Place) where
  -- a settle that came to its end: what it left is kept
  pub token_held : (old new : W) (found more : List Value) (was is : Option Token) (out : Given) → more ≡ found ++ MetadataTokenAt place was ∷ [] → Ends w (settle client was) old new (out, is) →
      HoldsOne w (token_holding client place) old new found more (MetadataTokenAt place was) (MetadataTokenAt place is) (Ok out)
  unfolding token_holding
  token_held old new found more was is out e m =
      holding_ended w (MetadataTokenOf place) (MetadataTokenAt place) (λ f. settle client (token_in f)) old new found more (MetadataTokenAt place was) out is refl e m

  -- one that was stopped: what is kept is as it was
  pub token_halted : (old new : W) (found more : List Value) (was is : Option Token) (stop : Stop) (result : Result Given Stop) → result ≡ Err stop → is ≡ was → more ≡ found ++ MetadataTokenAt place was ∷ [] →
      Halts w (settle client was) old new stop →
      HoldsOne w (token_holding client place) old new found more (MetadataTokenAt place was) (MetadataTokenAt place is) result
  unfolding token_holding
  token_halted old new found more was is stop result out same e h =
      subst (λ r. HoldsOne w (token_holding client place) old new found more (MetadataTokenAt place was) (MetadataTokenAt place is) r) (sym out)
      (holding_halted w (MetadataTokenOf place) (MetadataTokenAt place) (λ f. settle client (token_in f)) old new found more (MetadataTokenAt place was) (MetadataTokenAt place is) stop refl (ap (MetadataTokenAt place) same) e h)

module _ {W : Type 0} (w : Ghosts W) (client : ClientRules) where
  -- one holding for the chain's member, and one for a named source, where the kept states are told
  pub chain_told : (place : Place) (old new : W) (found more : List Value) (states : States) (is : Option Token) (result : Result Given Stop) → place ≡ Chain →
      HoldsOne w (token_holding client place) old new found more (MetadataTokenAt place states.chain.token) (MetadataTokenAt place is) result →
      HoldsFollows w (token_holding client place) old (held found (Some states)) new (held more (Some (record states { chain = record states.chain { token = is } }))) result
  chain_told Chain old new found more states is result e h = h (Some states) refl
  chain_told Named old new found more states is result e h = absurd cc

  pub named_told : (place : Place) (old new : W) (found more : List Value) (states : States) (is : Option Token) (result : Result Given Stop) → place ≡ Named →
      HoldsOne w (token_holding client place) old new found more (MetadataTokenAt place states.named.token) (MetadataTokenAt place is) result →
      HoldsFollows w (token_holding client place) old (held found (Some states)) new (held more (Some (record states { named = record states.named { token = is } }))) result
  named_told Chain old new found more states is result e h = absurd cc
  named_told Named old new found more states is result e h = h (Some states) refl
