-- Calls one after another, where an outcome is a reading of what a call made.
use Rattle.std.proofs.Common.{◌≡◌, ℕ, List, Option, Some, subst}
use Rattle.std.specs.Prelude.{Result, Ok}
use Rattle.cfg_types.specs.declared.errors.CredentialsError.{CredentialsError}
use Rattle.cfg_types.specs.declared.errors.imds.ImdsError.{ImdsError}
use Rattle.cfg_world.specs.declared.ask.Question.TheVariants.{Jitter}
use Rattle.cfg_world.specs.declared.asking.Asking.{Ghosts}
use Rattle.cfg_world.specs.Fits.{Pair}
use Rattle.cfg_world.specs.Follows.{Ends}
use Rattle.cfg_world.specs.Inquiry.{Done}
use Rattle.cfg_world.proofs.Inquiries.{ends_after}
use Rattle.cfg_exchange.specs.Attempts.{asked}
use Rattle.cfg_imds.specs.Clients.{ClientRules}
use Rattle.cfg_imds.proofs.SaidSteps.{ends_said}
use Rattle.cfg_kept.specs.declared.place.Place.{Place}
use Rattle.cfg_kept.specs.Holds.{Holdings, HoldsEnds}
use Rattle.cfg_kept.specs.KeptInquiry.{Gives, lift, onwards_if_ok}
use Rattle.cfg_kept.specs.RoleDocuments.{RoleKeys}
use Rattle.cfg_kept.proofs.HoldingSteps.{holds_ends_then, holds_ends, holds_said}
use Rattle.cfg_providers.specs.CustomSources.{Answer}
use Rattle.cfg_imds_credentials.specs.Metadata.{metadata_get, listing_path, listed, listing, path_of_role, documented, document, dated_keys, jittered, dated, retrieves_at, retrieves}

module _ {W : Type 0} (w : Ghosts W) where
  pub jittered_ends : (role : RoleKeys) (reading jitter : Pair) (old new : W) (out : Answer) → Ends w (asked Jitter) old new jitter → dated_keys role reading (Some jitter) ≡ out → Ends w (jittered role reading) old new out
  unfolding jittered
  jittered_ends role reading jitter old new out e said = ends_after (λ j. Done (dated_keys role reading (Some j))) e (ends_said said)

  module _ (client : ClientRules) (place : Place) where
    pub listing_ends : (old new : W) (before later : Holdings) (got : Result Pair ImdsError) (out : Result (List ℕ) CredentialsError) →
        HoldsEnds w (metadata_get client place listing_path) old before new later got → listed got ≡ out → HoldsEnds w (listing client place) old before new later out
    unfolding listing
    listing_ends old new before later got out e said = holds_ends_then (λ r. Gives (listed r)) e (holds_said said)

    pub document_ends : (path : List ℕ) (old new : W) (before later : Holdings) (got : Result Pair ImdsError) (out : Result RoleKeys CredentialsError) →
        HoldsEnds w (metadata_get client place path) old before new later got → documented got ≡ out → HoldsEnds w (document client place path) old before new later out
    unfolding document
    document_ends path old new before later got out e said = holds_ends_then (λ r. Gives (documented r)) e (holds_said said)

    pub retrieves_at_ends : (path : List ℕ) (old mid new : W) (before between : Holdings) (role : RoleKeys) (out : Answer) →
        HoldsEnds w (document client place path) old before mid between (Ok role) → Ends w (dated role) mid new out → HoldsEnds w (retrieves_at client place path) old before new between out
    unfolding retrieves_at
    retrieves_at_ends path old mid new before between role out a b = holds_ends_then (onwards_if_ok (λ r. lift (dated r))) a (holds_ends b)

    pub retrieves_ends : (role : Option (List ℕ)) (path asked_path : List ℕ) (old mid new : W) (before between later : Holdings) (out : Answer) →
        HoldsEnds w (path_of_role client place role) old before mid between (Ok path) → asked_path ≡ path → HoldsEnds w (retrieves_at client place asked_path) mid between new later out →
        HoldsEnds w (retrieves client place role) old before new later out
    unfolding retrieves
    retrieves_ends role path asked_path old mid new before between later out a same b =
        holds_ends_then (onwards_if_ok (retrieves_at client place)) a (subst (λ p. HoldsEnds w (retrieves_at client place p) mid between new later out) same b)
