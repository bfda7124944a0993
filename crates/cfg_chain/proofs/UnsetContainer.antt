-- A container that the variables do not name is passed over, where its token is fine.
use Rattle.std.proofs.Common.{◌≡◌, ℕ, List, [], ◌∷◌, ◌++◌, true, Option, Result, Ok, Err, refl, sym, ap, subst}
use Rattle.std.specs.Result.{result_err}
use denote.Hole.Carrier as carrier
use Rattle.cfg_types.specs.Environment.{Variables}
use Rattle.cfg_types.specs.declared.errors.CredentialsError as errors
use Rattle.cfg_types.specs.declared.errors.CredentialsError.{CredentialsError}
use Rattle.cfg_world.specs.Fits.{Pair}
use Rattle.cfg_world.specs.Inquiry.{Reads, if_ok}
use Rattle.cfg_world.proofs.Inquiries.{split_after}
use Rattle.cfg_exchange.specs.declared.container.ContainerSettings.{ContainerSettings}
use Rattle.cfg_exchange.specs.declared.container.ContainerUri.TheVariants as uri
use Rattle.cfg_exchange.specs.Containers.{token_by, token_file, token_text, auth_token, container_target, with_token, container}
use Rattle.cfg_imds_credentials.proofs.Given.{whole_part}
use Rattle.cfg_providers.specs.CustomSources.{Answer}
use Rattle.cfg_chain.specs.Settings.{Setting, container_settings}
use Rattle.cfg_chain.specs.profile.Bases.{by_container}
use Rattle.cfg_chain.specs.Valid.{HoldsHeaderValue, AreOfUse, HasToken}
use Rattle.cfg_chain.proofs.UsableEntries.{no_success}
use Rattle.cfg_chain.proofs.UsableContainer.{token_succeeds}
use Rattle.cfg_chain.proofs.PassingErrors.{passes}

behind_token : (settings : ContainerSettings) (token : Option (List ℕ)) (rest : List Pair) (out : Answer) → Reads (with_token settings uri.NotSet token) rest out → passes (result_err out) ≡ true
unfolding container_target errors.out-CredentialsError carrier.out
behind_token settings token [] out h = ap (λ o. passes (result_err o)) (sym h)
behind_token settings token (e ∷ rest) out h = absurd h

nothing_behind : (settings : ContainerSettings) (e : CredentialsError) (rest : List Pair) (out : Answer) → Reads (if_ok (with_token settings uri.NotSet) (Err e)) rest out → rest ≡ []
nothing_behind settings e [] out h = refl
nothing_behind settings e (x ∷ rest) out h = absurd h

by_token : (env : Variables) (settings : ContainerSettings) (token : Result (Option (List ℕ)) CredentialsError) (part first rest : List Pair) (out : Answer) → HasToken (token_file env) (token_text env) → part ≡ first ++ rest →
    Reads (token_by (token_file env) (token_text env)) first token → Reads (if_ok (with_token settings uri.NotSet) token) rest out → AreOfUse HoldsHeaderValue part → passes (result_err out) ≡ true
by_token env settings (Ok token) part first rest out fine parts reads behind uses = behind_token settings token rest out behind
by_token env settings (Err e) part first rest out fine parts reads behind uses =
    no_success (token_succeeds (token_file env) (token_text env) fine first (Err e) reads (subst (AreOfUse HoldsHeaderValue) (whole_part part first rest parts (nothing_behind settings e rest out behind)) uses))

pub unset_passes : (s : Setting) → s.container ≡ uri.NotSet → HasToken (token_file s.configuration.environment) (token_text s.configuration.environment) → (part : List Pair) (out : Answer) →
    Reads (by_container s.configuration s.container) part out → AreOfUse HoldsHeaderValue part → passes (result_err out) ≡ true
unfolding container auth_token
unset_passes s none fine part out h uses =
    let env = s.configuration.environment in
    let settings = container_settings s.configuration in
    let r = split_after (token_by (token_file env) (token_text env)) (if_ok (with_token settings uri.NotSet)) part out (subst (λ place. Reads (by_container s.configuration place) part out) none h) in
    by_token env settings r.middle part r.part r.rest out fine r.parts r.first r.then uses
