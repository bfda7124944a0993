-- The session of a profile is that of its path.
use Rattle.std.proofs.Common.{◌≡◌, ℕ, List, true, Option, Some, None, Result, Ok, Err, inl, inr, refl, ap, subst}
use Rattle.std.specs.Prelude.{◌⊎◌}
use Rattle.cfg_types.specs.declared.errors.ProfileFileError.{ProfileFileError}
use Rattle.cfg_types.specs.declared.errors.ProfileFileError.TheVariants.{OutOfMemory as memory}
use Rattle.cfg_profile.specs.declared.chain.BaseProvider.{BaseProvider}
use Rattle.cfg_profile.specs.declared.chain.BaseProvider.TheVariants as base
use Rattle.cfg_profile.specs.declared.chain.ProfileChain.{ProfileChain}
use Rattle.cfg_profile.specs.Configuration.{Configuration}
use Rattle.cfg_profile.specs.Plans.{IsChain}
use Rattle.cfg_profile.specs.SectionSets.{SectionSets}
use Rattle.cfg_profile.specs.Selected.{selected_name}
use Rattle.cfg_profile.proofs.PlanLaws.{the_chain}
use Rattle.cfg_sso.specs.Tokens.{HasKey, session_of_base}
use Rattle.cfg_token.specs.SsoTokens.{is_sso}
use Rattle.cfg_token.specs.declared.token_key.TokenKey.{TokenKey}
use Rattle.cfg_token.specs.declared.token_key.TokenKey.TheVariants.{Sso}
use Rattle.cfg_token_chain.specs.Sessions.{profile_chain, chain_in, session_by, session_of, profile_session, key_in, session_key}

pub path_gives : (sets : SectionSets) (name : List ℕ) → IsChain sets name (profile_chain sets name)
unfolding profile_chain
path_gives sets name = (the_chain sets name).said

pub the_one : (sets : SectionSets) (name : List ℕ) (answer : Result ProfileChain ProfileFileError) → IsChain sets name answer → profile_chain sets name ≡ answer
unfolding profile_chain
the_one sets name answer said = (the_chain sets name).only answer said

-- the session of the path's end, or of its error
pub session_is : (sets : SectionSets) (name : List ℕ) (answer : Result ProfileChain ProfileFileError) → IsChain sets name answer → session_of (profile_chain sets name) ≡ session_of answer
session_is sets name answer said = ap session_of (the_one sets name answer said)

-- an error that is not that memory ran out is the path's
pub refused : (sets : SectionSets) (name : List ℕ) (e : ProfileFileError) → (e ≡ memory → ⊥) → (e ≡ memory) ⊎ IsChain sets name (Err e) → session_of (profile_chain sets name) ≡ session_of (Err e)
refused sets name e other (inl ran_out) = absurd (other ran_out)
refused sets name e other (inr said) = session_is sets name (Err e) said

-- ---- the key of a session

sso_by : (given : Option TokenKey) (key : TokenKey) → ((k : TokenKey) → given ≡ Some k → is_sso k ≡ true) → session_by given ≡ Ok key → is_sso key ≡ true
sso_by None key kind h = absurd cc
sso_by (Some k) key kind h = let same : k ≡ key = cc in subst (λ x. is_sso x ≡ true) same (kind k refl)

some_sso : (session region url : List ℕ) (k : TokenKey) → ◌≡◌ {A = Option TokenKey} (Some (Sso session region url)) (Some k) → is_sso k ≡ true
some_sso session region url k h = let same : Sso session region url ≡ k = cc in subst (λ x. is_sso x ≡ true) same refl

nobodys : (k : TokenKey) → ◌≡◌ {A = Option TokenKey} None (Some k) → is_sso k ≡ true
nobodys k h = absurd cc

base_sso : (b : BaseProvider) (k : TokenKey) → session_of_base b ≡ Some k → is_sso k ≡ true
base_sso (base.NamedSource name) k h = nobodys k h
base_sso (base.AccessKey keys) k h = nobodys k h
base_sso (base.WebIdentityTokenRole arn file session) k h = nobodys k h
base_sso (base.Sso None region url account role) k h = nobodys k h
base_sso (base.Sso (Some session) region url account role) k h = some_sso session region url k h
base_sso (base.CredentialProcess command account) k h = nobodys k h
base_sso (base.LoginSession arn) k h = nobodys k h

sso_of : (answer : Result ProfileChain ProfileFileError) (key : TokenKey) → session_of answer ≡ Ok key → is_sso key ≡ true
sso_of (Ok chain) key h = sso_by (session_of_base chain.base) key (base_sso chain.base) h
sso_of (Err e) key h = absurd cc

-- it is one of IAM Identity Center
pub session_sso : (conf : Configuration) (key : TokenKey) → profile_session conf ≡ Ok key → is_sso key ≡ true
unfolding profile_session
session_sso conf key h = sso_of (chain_in conf.profiles (selected_name conf)) key h

-- and the one that is held, where the profile's is
pub session_held : (conf : Configuration) (key : TokenKey) (held : Option TokenKey) → profile_session conf ≡ Ok key → HasKey (session_key conf) held → held ≡ Some key
session_held conf key held h has = (subst (λ s. HasKey (key_in s) held) h has) refl
