-- A plan has a base that can be asked.
use Rattle.std.proofs.Common.{◌≡◌, ℕ, List, [], ◌∷◌, Bool, true, false, ◌||◌, Option, Some, None, option_map, Result, Ok, Err, refl, sym, ap, ◌∙◌, subst}
use Rattle.std.specs.Prelude.{◌&&◌, not, is_some, fold, codes, if◌then◌else◌}
use Rattle.std.specs.List.{list_any}
use Rattle.std.specs.FinMap.{get}
use Rattle.cfg_base.specs.Text.{characters}
use Rattle.cfg_base.specs.TextMap.{Named}
use Rattle.cfg_types.specs.Keys.{Keys}
use Rattle.cfg_types.specs.declared.errors.ProfileFileError.{ProfileFileError}
use Rattle.cfg_types.specs.declared.errors.ProfileFileError.TheVariants.{UnknownProvider}
use Rattle.cfg_profile.specs.declared.chain.BaseProvider.{BaseProvider}
use Rattle.cfg_profile.specs.declared.chain.BaseProvider.TheVariants as base
use Rattle.cfg_profile.specs.declared.chain.ProfileChain.{ProfileChain}
use Rattle.cfg_profile.specs.declared.chain.RoleArn.{RoleArn}
use Rattle.cfg_profile.specs.declared.sections.ProfileSource.{ProfileSource}
use Rattle.cfg_profile.specs.declared.sections.ProfileSource.TheVariants.{Sections, Refused}
use Rattle.cfg_profile.specs.Bases.{by_keys, key_base, web_identity, base_by_process, base_by_login, local_base, base_by_file, base_by_source, base as base_of}
use Rattle.cfg_profile.specs.NamedSources.{is_named, is_custom, is_built_in, is_known, planned_over, planned}
use Rattle.cfg_profile.specs.Paths.{End, Keys as KeysEnd, Base, NoSource, OwnBase, Loops, Missing, is_empty}
use Rattle.cfg_profile.specs.Plans.{chain_over, wrapped, roles_over, sections_of, outcome, IsChainAt}
use Rattle.cfg_profile.specs.Properties.{has_key}
use Rattle.cfg_profile.specs.SectionParts.{SectionParts}
use Rattle.cfg_profile.specs.SectionSets.{SectionSets}
use Rattle.cfg_profile.specs.Sections.{property, text_property}
use Rattle.cfg_profile.specs.Selected.{selected_name}
use Rattle.cfg_profile.specs.SignOn.{has_sign_on, invalid_sign_on, sign_on_by, sign_on_at, sign_on_by_session, sign_on_with, single_sign_on}
use Rattle.cfg_profile.specs.StaticKeys.{static_keys}
use Rattle.cfg_profile.proofs.PlanLaws.{the_plan}
use Rattle.cfg_providers.specs.CustomSources.{NamedAnswer, last_named}
use Rattle.cfg_chain.specs.Settings.{Setting, names_of}
use Rattle.cfg_chain.specs.profile.Bases.{IsThere, CanBeAsked}
use Rattle.cfg_chain.specs.profile.Plans.{Planned, profile_plan, plan_in, plan}

-- ---- an account and a role stand together

abbrev HasPair : BaseProvider → Type 0
HasPair (base.Sso session region url account role) = is_some account ≡ is_some role
HasPair _ = Unit {0}

abbrev IsPaired : Result BaseProvider ProfileFileError → Type 0
IsPaired (Ok b) = HasPair b
IsPaired (Err e) = Unit {0}

either : (b : Bool) (x y : Result BaseProvider ProfileFileError) → IsPaired x → IsPaired y → IsPaired (if b then x else y)
either true x y p q = p
either false x y p q = q

mapped : (o : Option (List ℕ)) → is_some (option_map characters o) ≡ is_some o
mapped None = refl
mapped (Some text) = refl

by_settings : (s : SectionParts) (session region url : Option (List ℕ)) → has_key s (codes "sso_account_id") ≡ has_key s (codes "sso_role_name") → IsPaired (sign_on_by s session region url)
by_settings s session None url h = tt
by_settings s session (Some region) None h = tt
by_settings s session (Some region) (Some url) h = mapped (property s (codes "sso_account_id")) ∙ h ∙ sym (mapped (property s (codes "sso_role_name")))

both_or_neither : (account role : Bool) (x y : ProfileFileError) (rest : Result BaseProvider ProfileFileError) → (account ≡ role → IsPaired rest) →
    IsPaired (if account && not role then Err x else if role && not account then Err y else rest)
both_or_neither true true x y rest h = h refl
both_or_neither true false x y rest h = tt
both_or_neither false true x y rest h = tt
both_or_neither false false x y rest h = h refl

at_place : (s place : SectionParts) (session : Option (List ℕ)) → IsPaired (sign_on_at s place session)
at_place s place session =
    both_or_neither (has_key s (codes "sso_account_id")) (has_key s (codes "sso_role_name"))
    (invalid_sign_on s (codes "if `sso_account_id` is set, then `sso_role_name` must also be set"))
    (invalid_sign_on s (codes "if `sso_role_name` is set, then `sso_account_id` must also be set"))
    (sign_on_by s session (text_property place (codes "sso_region")) (text_property place (codes "sso_start_url")))
    (by_settings s session (text_property place (codes "sso_region")) (text_property place (codes "sso_start_url")))

by_session : (s : SectionParts) (session : List ℕ) (place : Option SectionParts) → IsPaired (sign_on_by_session s session place)
by_session s session None = tt
by_session s session (Some place) = at_place s place (Some (characters session))

with_session : (sessions : Named SectionParts) (s : SectionParts) (session : Option (List ℕ)) → IsPaired (sign_on_with sessions s session)
with_session sessions s None = at_place s s None
with_session sessions s (Some session) =
    let rest = sign_on_by_session s session (get sessions session) in
    let region = Err (invalid_sign_on s (codes "`sso_region` can only be specified in the [sso-session] config when a session name is given")) in
    either (has_key s (codes "sso_start_url"))
    (Err (invalid_sign_on s (codes "`sso_start_url` can only be specified in the [sso-session] config when a session name is given")))
    (if has_key s (codes "sso_region") then region else rest)
    tt (either (has_key s (codes "sso_region")) region rest tt (by_session s session (get sessions session)))

keys_paired : (r : Result Keys ProfileFileError) → IsPaired (by_keys r)
keys_paired (Ok keys) = tt
keys_paired (Err e) = tt

process_paired : (s : SectionParts) (command : Option (List ℕ)) → IsPaired (base_by_process s command)
process_paired s (Some command) = tt
process_paired s None = keys_paired (static_keys s)

login_paired : (s : SectionParts) (session : Option (List ℕ)) → IsPaired (base_by_login s session)
login_paired s (Some session) = tt
login_paired s None = process_paired s (text_property s (codes "credential_process"))

identity_paired : (s : SectionParts) (file : List ℕ) (arn : Option (List ℕ)) → IsPaired (web_identity s file arn)
identity_paired s file None = tt
identity_paired s file (Some arn) = tt

file_paired : (sessions : Named SectionParts) (s : SectionParts) (file : Option (List ℕ)) → IsPaired (base_by_file sessions s file)
file_paired sessions s (Some file) = identity_paired s file (text_property s (codes "role_arn"))
file_paired sessions s None =
    either (has_sign_on s) (single_sign_on sessions s) (local_base s) (with_session sessions s (property s (codes "sso_session"))) (login_paired s (text_property s (codes "login_session")))

source_paired : (sessions : Named SectionParts) (s : SectionParts) (source : Option (List ℕ)) → IsPaired (base_by_source sessions s source)
source_paired sessions s (Some name) = tt
source_paired sessions s None = file_paired sessions s (text_property s (codes "web_identity_token_file"))

base_paired : (sessions : Named SectionParts) (s : SectionParts) → IsPaired (base_of sessions s)
unfolding base_of
base_paired sessions s = source_paired sessions s (text_property s (codes "credential_source"))

-- ---- in the base of a chain

abbrev OverPair : Planned → Type 0
OverPair (Ok chain) = HasPair chain.base
OverPair (Err e) = Unit {0}

over_pair : (roles : List RoleArn) (r : Result BaseProvider ProfileFileError) → IsPaired r → OverPair (chain_over roles r)
over_pair roles (Ok b) h = h
over_pair roles (Err e) h = tt

wrapped_paired : (is_first : Bool) (s : SectionParts) (r : Result BaseProvider ProfileFileError) → IsPaired r → IsPaired (wrapped is_first s r)
wrapped_paired is_first s (Ok b) h = h
wrapped_paired is_first s (Err e) h = tt

outcome_paired : (sessions : Named SectionParts) (sections : List SectionParts) (before : List (List ℕ)) (last : List ℕ) (s : SectionParts) (end : End) → OverPair (outcome sessions sections before last s end)
outcome_paired sessions sections before last s KeysEnd = over_pair (roles_over sections) (key_base s) (keys_paired (static_keys s))
outcome_paired sessions sections before last s Base = over_pair (roles_over sections) (wrapped (is_empty before) s (base_of sessions s)) (wrapped_paired (is_empty before) s (base_of sessions s) (base_paired sessions s))
outcome_paired sessions sections before last s NoSource = tt
outcome_paired sessions sections before last s OwnBase = over_pair _ (base_of sessions s) (base_paired sessions s)
outcome_paired sessions sections before last s (Loops next) = tt
outcome_paired sessions sections before last s (Missing next) = tt

chain_paired : (sets : SectionSets) (name : List ℕ) (o : Option SectionParts) (answer : Planned) → IsChainAt sets name o answer → OverPair answer
chain_paired sets name None answer h = subst OverPair (sym h) tt
chain_paired sets name (Some s) answer g = subst OverPair (sym g.gives) (outcome_paired sets.sessions (sections_of sets.profiles g.before) g.before g.last g.section g.end)

-- ---- a source is there

-- where no source is found under a name, none has it
unnamed : (name : List ℕ) (sources : List NamedAnswer) (found : Option _) → fold (λ o (s : NamedAnswer). if is_named name s.0 then Some s.1 else o) found sources ≡ None →
    (found ≡ None) × (list_any (is_named name) (names_of sources) ≡ false)
unnamed name [] found h = (h, refl)
unnamed name (s ∷ sources) found h =
    let behind = unnamed name sources (if is_named name s.0 then Some s.1 else found) h in
    elim (is_named name s.0) as (λ b. (if b then Some s.1 else found) ≡ None → (found ≡ None) × ((b || list_any (is_named name) (names_of sources)) ≡ false)) [
      | true ↦ λ none. absurd cc
      | false ↦ λ none. (none, behind.1)
    ] behind.0

or_else : (a b : Bool) → a ≡ false → (a || b) ≡ true → b ≡ true
or_else true b f h = absurd cc
or_else false b f h = h

there : (name : List ℕ) (sources : List NamedAnswer) → is_known (names_of sources) name ≡ true → IsThere name (last_named name sources)
there name sources known =
    elim (last_named name sources) as (λ o. last_named name sources ≡ o → IsThere name o) [
      | Some answer ↦ λ is. tt
      | None ↦ λ is. or_else (is_custom (names_of sources) name) (is_built_in name) (unnamed name sources None is).1 known
    ] refl

-- ---- a plan

module _ (s : Setting) where
  known_asked : (name : List ℕ) (chain p : ProfileChain) (known : Bool) → is_known (names_of s.sources) name ≡ known → chain.base ≡ base.NamedSource name →
      (if known then Ok chain else Err (UnknownProvider name)) ≡ Ok p → CanBeAsked s p.base
  known_asked name chain p true k is h = let same : chain ≡ p = cc in subst (CanBeAsked s) (sym is ∙ ap (λ c. c.base) same) (there name s.sources k)
  known_asked name chain p false k is h = absurd cc

  sign_on_asked : (session account role : Option (List ℕ)) (region url : List ℕ) (chain p : ProfileChain) → is_some account ≡ is_some role → chain.base ≡ base.Sso session region url account role →
      planned_over (names_of s.sources) chain (base.Sso session region url account role) ≡ Ok p → CanBeAsked s p.base
  sign_on_asked session None None region url chain p pair is h = absurd cc
  sign_on_asked session None (Some role) region url chain p pair is h = absurd cc
  sign_on_asked session (Some account) None region url chain p pair is h = absurd cc
  sign_on_asked session (Some account) (Some role) region url chain p pair is h = let same : chain ≡ p = cc in subst (CanBeAsked s) (sym is ∙ ap (λ c. c.base) same) (refl, refl)

  other_asked : (b : BaseProvider) (chain p : ProfileChain) → CanBeAsked s b → chain.base ≡ b → ◌≡◌ {A = Planned} (Ok chain) (Ok p) → CanBeAsked s p.base
  other_asked b chain p asked is h = let same : chain ≡ p = cc in subst (CanBeAsked s) (sym is ∙ ap (λ c. c.base) same) asked

  over_asked : (chain p : ProfileChain) (b : BaseProvider) → HasPair b → chain.base ≡ b → planned_over (names_of s.sources) chain b ≡ Ok p → CanBeAsked s p.base
  over_asked chain p (base.NamedSource name) pair is h = known_asked name chain p (is_known (names_of s.sources) name) refl is h
  over_asked chain p (base.Sso session region url account role) pair is h = sign_on_asked session account role region url chain p pair is h
  over_asked chain p (base.AccessKey keys) pair is h = other_asked (base.AccessKey keys) chain p tt is h
  over_asked chain p (base.WebIdentityTokenRole arn file session) pair is h = other_asked (base.WebIdentityTokenRole arn file session) chain p tt is h
  over_asked chain p (base.CredentialProcess command account) pair is h = other_asked (base.CredentialProcess command account) chain p tt is h
  over_asked chain p (base.LoginSession session) pair is h = other_asked (base.LoginSession session) chain p tt is h

  planned_asked : (r : Planned) (p : ProfileChain) → OverPair r → planned (names_of s.sources) r ≡ Ok p → CanBeAsked s p.base
  planned_asked (Ok chain) p pair h = over_asked chain p chain.base pair refl h
  planned_asked (Err e) p pair h = absurd cc

  asked_in : (profiles : ProfileSource) (name : List ℕ) (p : ProfileChain) → plan_in profiles name (names_of s.sources) ≡ Ok p → CanBeAsked s p.base
  unfolding profile_plan
  asked_in (Refused reason) name p h = absurd cc
  asked_in (Sections sets) name p h =
      let said = (the_plan sets name (names_of s.sources)).said in
      planned_asked said.resolved p (chain_paired sets name (get sets.profiles name) said.resolved said.chain) (sym said.plan ∙ h)

pub can_be_asked : (s : Setting) (p : ProfileChain) → plan s.configuration (names_of s.sources) ≡ Ok p → CanBeAsked s p.base
unfolding plan
can_be_asked s p h = asked_in s s.configuration.profiles (selected_name s.configuration) p h
