-- Why the selected profile gives no credentials.
use Rattle.std.specs.Option.{option_or}
use Rattle.std.proofs.Common.{◌≡◌, ℕ, List, [], ◌∷◌, ◌++◌, Bool, true, false, Option, Some, None, Ok, Err, option_map, refl, sym, ap, ◌∙◌, subst, append-nil}
use Rattle.std.specs.Prelude.{codes, if◌then◌else◌}
use Rattle.std.specs.Result.{result_err}
use Rattle.cfg_types.specs.Keys.{Keys}
use Rattle.cfg_world.specs.Fits.{Pair}
use Rattle.cfg_world.specs.Inquiry as low
use Rattle.cfg_world.specs.Inquiry.{Done}
use Rattle.cfg_world.proofs.Inquiries.{split_after}
use Rattle.cfg_kept.specs.Kinds.{Value}
use Rattle.cfg_kept.specs.KeptInquiry.{Gives, Reads, lift, onwards_if_ok}
use Rattle.cfg_kept.proofs.Splits.{lowered, split_onwards}
use Rattle.cfg_exchange.proofs.Causes.{has_cause}
use Rattle.cfg_imds_credentials.specs.Metadata.{metadata}
use Rattle.cfg_imds_credentials.proofs.Given.{given_is, whole_part}
use Rattle.cfg_imds_credentials.proofs.Reasons.{has_cause as metadata_cause}
use Rattle.cfg_login.specs.declared.asked_by.AskedBy.TheVariants as by
use Rattle.cfg_login.proofs.SignInCauses.{sign_in_cause}
use Rattle.cfg_kept.proofs.CallParts.{given_then}
use Rattle.cfg_sso.proofs.SsoCauses.{sso_cause}
use Rattle.cfg_profile.specs.declared.chain.BaseProvider.{BaseProvider}
use Rattle.cfg_profile.specs.declared.chain.BaseProvider.TheVariants as base
use Rattle.cfg_profile.specs.declared.chain.ProfileChain.{ProfileChain}
use Rattle.cfg_profile.specs.declared.chain.RoleArn.{RoleArn}
use Rattle.cfg_profile.specs.Configuration.{Configuration}
use Rattle.cfg_profile.specs.NamedSources.{is_alike}
use Rattle.cfg_profile.specs.Settings.{settings_of}
use Rattle.cfg_providers.specs.declared.web_identity_token.WebIdentity.{WebIdentity}
use Rattle.cfg_providers.specs.AssumeRole.{assumes_roles}
use Rattle.cfg_providers.specs.CustomSources.{Answer, last_named}
use Rattle.cfg_providers.specs.EnvironmentKeys.{by_environment}
use Rattle.cfg_providers.specs.EnvironmentCauses.{why_environment}
use Rattle.cfg_providers.specs.Processes.{credential_process}
use Rattle.cfg_providers.specs.RoleCauses.{why_roles}
use Rattle.cfg_providers.specs.WebIdentities.{no_policies, assumes_by_web_identity}
use Rattle.cfg_providers.proofs.EnvironmentFailures.{environment_cause}
use Rattle.cfg_providers.proofs.ProcessCauses.{process_cause}
use Rattle.cfg_providers.proofs.RoleCauses.{roles_fail}
use Rattle.cfg_providers.proofs.WebIdentityCauses.{assumed_cause}
use Rattle.cfg_chain.specs.Settings.{Setting, names_of, container_settings, named_metadata}
use Rattle.cfg_chain.specs.profile.Plans.{Planned, plan, refusal}
use Rattle.cfg_chain.specs.profile.Bases.{by_container, unknown_source, without_role, built_in_source, source_or, named_source, profile_session, signed_on, base_tree, in_base, based}
use Rattle.cfg_chain.specs.profile.Profiles.{marked, assumed, follows_planned, follows_plan, profile}
use Rattle.cfg_chain.specs.profile.Causes.{why_by_container, BuiltInCause, SourceCause, BaseCause, of_base, PlanCause, PlannedCause, ProfileCause}

pub environment_fails : (s : Setting) (part : List Pair) (out : Answer) → low.Reads (by_environment s.configuration.environment) part out → result_err out ≡ why_environment s.configuration.environment
environment_fails s [] out h = ap result_err (sym h) ∙ environment_cause s.configuration.environment
environment_fails s (e ∷ part) out h = absurd h

pub container_fails : (s : Setting) (part : List Pair) (out : Answer) → low.Reads (by_container s.configuration s.container) part out → result_err out ≡ why_by_container s part
container_fails s part out h = has_cause s.configuration.environment (container_settings s.configuration) s.container part out h

given_fails : (given : Answer) (found : List Value) (part : List Pair) (out : Answer) → Reads (Gives given) found part out → result_err out ≡ result_err given
given_fails given found part out h = ap result_err (sym (given_is given out found part h).2)

choose : (b d m : Bool) (s : Setting) (name : List ℕ) (found : List Value) (part : List Pair) (out : Answer) →
    Reads (if b then lift (by_environment s.configuration.environment) else (if d then lift (by_container s.configuration s.container) else (if m then metadata (named_metadata s) else Gives (unknown_source name)))) found part out →
    BuiltInCause s name b d m found part out
unfolding unknown_source
choose true d m s name found part out h = environment_fails s part out (lowered (by_environment s.configuration.environment) found part out h).1
choose false true m s name found part out h = container_fails s part out (lowered (by_container s.configuration s.container) found part out h).1
choose false false true s name found part out h = metadata_cause (named_metadata s) found part out h
choose false false false s name found part out h = given_fails (unknown_source name) found part out h

source_fails : (s : Setting) (name : List ℕ) (own : Option Answer) (found : List Value) (part : List Pair) (out : Answer) →
    Reads (source_or (built_in_source s name) own) found part out → SourceCause s name own found part out
unfolding built_in_source
source_fails s name (Some answer) found part out h = given_fails answer found part out h
source_fails s name None found part out h = choose (is_alike name (codes "Environment")) (is_alike name (codes "EcsContainer")) (is_alike name (codes "Ec2InstanceMetadata")) s name found part out h

pub base_fails : (s : Setting) (b : BaseProvider) (found : List Value) (part : List Pair) (out : Answer) → Reads (base_tree s b) found part out → BaseCause s b found part out
unfolding base_tree named_source without_role
base_fails s (base.AccessKey keys) found part out h = given_fails (Ok keys) found part out h
base_fails s (base.NamedSource name) found part out h = source_fails s name (last_named name s.sources) found part out h
base_fails s (base.WebIdentityTokenRole arn file session) found part out h =
    let identity : WebIdentity = record { web_identity_token_file = file; role_arn = arn; session_name = session } in
    assumed_cause s.configuration identity no_policies profile_session part out (lowered (assumes_by_web_identity s.configuration profile_session identity no_policies) found part out h).1
base_fails s (base.CredentialProcess command account) found part out h = process_cause command account part out (lowered (credential_process command account) found part out h).1
base_fails s (base.Sso session region url (Some account) (Some role)) found part out h = sso_cause s.configuration (signed_on session region url account role) found part out h
base_fails s (base.Sso session region url (Some account) None) found part out h = given_fails without_role found part out h
base_fails s (base.Sso session region url None (Some role)) found part out h = given_fails without_role found part out h
base_fails s (base.Sso session region url None None) found part out h = given_fails without_role found part out h
base_fails s (base.LoginSession session) found part out h = sign_in_cause s.configuration session by.Profile found part out h

marked_fails : (given : Answer) → result_err (marked given) ≡ result_err given
unfolding marked
marked_fails (Ok keys) = refl
marked_fails (Err e) = refl

assumed_marked : (journal first rest : List Pair) (middle out : Answer) → journal ≡ first ++ rest → low.Reads (Done (marked middle)) rest out → result_err middle ≡ why_roles first →
    result_err out ≡ why_roles journal
assumed_marked journal first [] middle out parts behind fails = ap result_err (sym behind) ∙ marked_fails middle ∙ fails ∙ ap why_roles (sym (parts ∙ append-nil first))
assumed_marked journal first (e ∷ rest) middle out parts behind fails = absurd behind

assumed_fails : (conf : Configuration) (roles : List RoleArn) (keys : Keys) (part : List Pair) (out : Answer) → low.Reads (assumed conf roles keys) part out → result_err out ≡ why_roles part
unfolding assumed
assumed_fails conf roles keys part out h =
    let r = split_after (assumes_roles (settings_of conf) roles keys) (λ last. Done (marked last)) part out h in
    assumed_marked part r.part r.rest r.middle out r.parts r.then (roles_fail (settings_of conf) roles keys r.part r.middle r.first)

-- the roles behind a base that gave this
behind_base : (conf : Configuration) (roles : List RoleArn) (given out : Answer) (found : List Value) (rest : List Pair) → Reads (onwards_if_ok (λ keys. lift (assumed conf roles keys)) (in_base given)) found rest out →
    (found ≡ []) × (result_err out ≡ option_or (option_map of_base (result_err given)) (why_roles rest))
unfolding in_base
behind_base conf roles (Ok keys) out found rest h =
    let low = lowered (assumed conf roles keys) found rest out h in
    (low.0, assumed_fails conf roles keys rest out low.1)
behind_base conf roles (Err e) out found rest h =
    let same = given_is (Err (of_base e)) out found rest h in
    (same.0, ap result_err (sym same.2))

pub plan_fails : (s : Setting) (p : ProfileChain) (found : List Value) (part : List Pair) (out : Answer) → Reads (follows_planned s p) found part out → PlanCause s p found part out
unfolding follows_planned based
plan_fails s p found part out h =
    let r = split_onwards (based s p.base) (onwards_if_ok (λ keys. lift (assumed s.configuration p.roles keys))) found part out h in
    let b = given_then (base_tree s p.base) in_base r.found_first r.part r.middle r.first in
    let behind = behind_base s.configuration p.roles b.0 out r.found_then r.rest (subst (λ m. Reads (onwards_if_ok (λ keys. lift (assumed s.configuration p.roles keys)) m) r.found_then r.rest out) b.2 r.then) in
    let all : found ≡ r.found_first = whole_part found r.found_first r.found_then r.finds behind.0 in
    let reads : Reads (base_tree s p.base) found r.part b.0 = subst (λ f. Reads (base_tree s p.base) f r.part b.0) (sym all) b.1 in
    record {
      base_part = r.part;
      role_part = r.rest;
      parts = r.parts;
      given = b.0;
      base_reads = reads;
      base_cause = base_fails s p.base found r.part b.0 reads;
      cause = behind.1;
    }

planned_fails : (s : Setting) (p : Planned) (found : List Value) (part : List Pair) (out : Answer) → Reads (follows_plan s p) found part out → PlannedCause s p found part out
planned_fails s (Ok p) found part out h = plan_fails s p found part out h
planned_fails s (Err e) found part out h = let same = given_is (Err (refusal e)) out found part h in (same.0, same.1, ap result_err (sym same.2))

pub profile_fails : (s : Setting) (found : List Value) (part : List Pair) (out : Answer) → Reads (profile s) found part out → ProfileCause s found part out
unfolding profile
profile_fails s found part out h = planned_fails s (plan s.configuration (names_of s.sources)) found part out h
