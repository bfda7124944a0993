-- A chain that is built with a region that was given.
use Rattle.std.proofs.Common.{◌≡◌, [], Some, None, Result, Ok, Err, IfOk, ap, ◌∙◌, subst}
use Rattle.cfg_world.specs.declared.devices.Devices.{Ghosts}
use Rattle.cfg_world.specs.Grows.{Grows}
use Rattle.cfg_world.specs.Held.{Held}
use Rattle.cfg_profile.specs.Configuration.{Configuration}
use Rattle.cfg_region.specs.Environments.{Told}
use Rattle.cfg_region.specs.Sources.{Given}
use Rattle.cfg_region.proofs.GivenRegions.{given_is, given_grows}
use Rattle.cfg_token_chain.specs.Builds.{IsBuilt}
use Rattle.cfg_token_chain.specs.ChainSetups.{ChainSetup, nothing_given}

-- the builder that was given a configuration and a region
abbrev given_setup : Configuration → Told → ChainSetup
given_setup conf told = record { configuration = conf; profile_name = None; region = Some (Given told) }

set_up : (conf : Configuration) (told : Told) (empty_one with_conf last : ChainSetup) → empty_one ≡ nothing_given → with_conf ≡ record empty_one { configuration = conf } → last ≡ record with_conf { region = Some (Given told) } → last ≡ given_setup conf told
set_up conf told empty_one with_conf last none one other =
    other ∙ ap (λ s. let setup : ChainSetup = s in record setup { region = Some (Given told) }) (one ∙ ap (λ s. let setup : ChainSetup = s in record setup { configuration = conf }) none)

of_built : {D E : Type 0} (d : Ghosts D) (old new : Held D) (conf : Configuration) (told : Told) (r : Result Configuration E) → IfOk r (IsBuilt d (given_setup conf told) old new) → IfOk r (λ chain. chain ≡ record conf { region = told })
of_built d old new conf told (Ok chain) built = given_is told conf old new chain built
of_built d old new conf told (Err e) built = tt

grows_by : {D E : Type 0} (d : Ghosts D) (old new : Held D) (conf : Configuration) (told : Told) (r : Result Configuration E) → IfOk r (IsBuilt d (given_setup conf told) old new) → IfOk r (λ chain. Grows d [] old new)
grows_by d old new conf told (Ok chain) built = given_grows told conf old new chain built
grows_by d old new conf told (Err e) built = tt

-- it is in the region
pub given_chain : {D E : Type 0} (d : Ghosts D) (old new : Held D) (conf : Configuration) (told : Told) (empty_one with_conf last : ChainSetup) (r : Result Configuration E) →
    empty_one ≡ nothing_given → with_conf ≡ record empty_one { configuration = conf } → last ≡ record with_conf { region = Some (Given told) } →
    IfOk r (IsBuilt d last old new) → IfOk r (λ chain. chain ≡ record conf { region = told })
given_chain d old new conf told empty_one with_conf last r none one other built =
    of_built d old new conf told r (subst (λ s. let setup : ChainSetup = s in IfOk r (IsBuilt d setup old new)) (set_up conf told empty_one with_conf last none one other) built)

-- and nothing was asked for it
pub given_chain_grows : {D E : Type 0} (d : Ghosts D) (old new : Held D) (conf : Configuration) (told : Told) (empty_one with_conf last : ChainSetup) (r : Result Configuration E) →
    empty_one ≡ nothing_given → with_conf ≡ record empty_one { configuration = conf } → last ≡ record with_conf { region = Some (Given told) } →
    IfOk r (IsBuilt d last old new) → IfOk r (λ chain. Grows d [] old new)
given_chain_grows d old new conf told empty_one with_conf last r none one other built =
    grows_by d old new conf told r (subst (λ s. let setup : ChainSetup = s in IfOk r (IsBuilt d setup old new)) (set_up conf told empty_one with_conf last none one other) built)
