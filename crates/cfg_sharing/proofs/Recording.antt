-- What is recorded of the token that is kept.
use Rattle.std.proofs.Common.{◌≡◌, List, [], map, Option, Some, None, refl, sym, ap, ◌∙◌}
use Rattle.std.specs.List.{flat_map}
use Rattle.std.proofs.lemmas.List.Folds.{flat_map-map}
use Rattle.cfg_types.specs.declared.errors.login.LoginTokenError.{LoginTokenError}
use Rattle.cfg_types.specs.declared.errors.sso.SsoTokenProviderError.{SsoTokenProviderError}
use Rattle.cfg_token.specs.declared.state.TokenState.{TokenState}
use Rattle.cfg_token.specs.declared.sso_token.CachedSsoToken.{CachedSsoToken}
use Rattle.cfg_token.specs.Histories.{FinishedLoad}
use Rattle.cfg_login_token.specs.declared.login_token.LoginToken.{LoginToken}
use Rattle.cfg_kept.specs.declared.keyed.EitherState.{EitherState}
use Rattle.cfg_kept.specs.declared.keyed.EitherState.TheVariants.{Sso, Login}
use Rattle.cfg_kept.specs.KeyedStates.{sso_state_in, login_state_in}
use Rattle.cfg_sharing.specs.Readings.{handed_after}
use Rattle.cfg_sharing.specs.Histories.{recorded_by}

of_records : {T E : Type 0} (records : List (FinishedLoad T E)) → flat_map (λ r. handed_after r.receipts) records ≡ flat_map handed_after (map (λ r. r.receipts) records)
of_records records = sym (flat_map-map handed_after (λ r. r.receipts) records)

pub of_sso : (token : Option EitherState) (state : TokenState CachedSsoToken SsoTokenProviderError) → Some state ≡ sso_state_in token → flat_map (λ r. handed_after r.receipts) state.loads.records ≡ flat_map handed_after (recorded_by token)
of_sso (Some (Sso state)) other e =
    let same : other ≡ state = cc in
    ap (λ (s : TokenState CachedSsoToken SsoTokenProviderError). flat_map (λ r. handed_after r.receipts) s.loads.records) same ∙ of_records state.loads.records
of_sso (Some (Login state)) other e = cc
of_sso None other e = cc

pub of_login : (token : Option EitherState) (state : TokenState LoginToken LoginTokenError) → Some state ≡ login_state_in token → flat_map (λ r. handed_after r.receipts) state.loads.records ≡ flat_map handed_after (recorded_by token)
of_login (Some (Login state)) other e =
    let same : other ≡ state = cc in
    ap (λ (s : TokenState LoginToken LoginTokenError). flat_map (λ r. handed_after r.receipts) s.loads.records) same ∙ of_records state.loads.records
of_login (Some (Sso state)) other e = cc
of_login None other e = cc

pub of_none : (token : Option EitherState) → None ≡ sso_state_in token → None ≡ login_state_in token → flat_map handed_after (recorded_by token) ≡ []
of_none None e f = refl
of_none (Some (Sso state)) e f = cc
of_none (Some (Login state)) e f = cc
