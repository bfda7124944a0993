-- A plan that the path of a profile gives is the profile's plan, and a configuration needs one key.
use Rattle.std.proofs.Common.{◌≡◌, ℕ, List, [], Bool, true, false, ◌||◌, Option, Some, None, Ok, Err, inl, inr, refl, sym, ap, ◌∙◌, subst}
use Rattle.std.specs.Prelude.{◌⊎◌, if◌then◌else◌}
use Rattle.std.specs.Result.{result_ok}
use Rattle.cfg_types.specs.declared.errors.ProfileFileError.{ProfileFileError}
use Rattle.cfg_types.specs.declared.errors.ProfileFileError.TheVariants.{OutOfMemory as memory, UnknownProvider}
use Rattle.cfg_world.specs.declared.asking.Halt.{Halt}
use Rattle.cfg_world.specs.declared.asking.Halt.TheVariants.{Stopped, Refused}
use Rattle.cfg_world.specs.declared.asking.Stop.TheVariants.{OutOfMemory}
use Rattle.cfg_profile.specs.SectionSets.{SectionSets}
use Rattle.cfg_profile.specs.declared.chain.BaseProvider.{BaseProvider}
use Rattle.cfg_profile.specs.declared.chain.BaseProvider.TheVariants as base
use Rattle.cfg_profile.specs.declared.chain.ProfileChain.{ProfileChain}
use Rattle.cfg_profile.specs.declared.sections.ProfileSource.{ProfileSource}
use Rattle.cfg_profile.specs.declared.sections.ProfileSource.TheVariants.{Sections, Refused as RefusedSections}
use Rattle.cfg_profile.specs.Configuration.{Configuration}
use Rattle.cfg_profile.specs.Selected.{selected_name}
use Rattle.cfg_profile.specs.NamedSources.{IsPlan, is_custom, is_built_in, is_known, planned_over, planned}
use Rattle.cfg_profile.proofs.PlanLaws.{the_chain, the_plan}
use Rattle.cfg_sso.specs.Tokens.{HasKey}
use Rattle.cfg_token.specs.declared.token_key.TokenKey.{TokenKey}
use Rattle.cfg_chain.specs.profile.Plans.{Planned, profile_plan, plan_in, plan, settled_plan, key_of_base, key_of_settled, key_of_plan, key_of}

pub the_one : (sets : SectionSets) (name : List ℕ) (sources : List (List ℕ)) (answer : Planned) → IsPlan sets name sources answer → profile_plan sets name sources ≡ answer
unfolding profile_plan
the_one sets name sources answer said = (the_plan sets name sources).only answer said

-- an error that is not that memory ran out is the plan's
pub refused : (sets : SectionSets) (name : List ℕ) (sources : List (List ℕ)) (e : ProfileFileError) → (e ≡ memory → ⊥) → (e ≡ memory) ⊎ IsPlan sets name sources (Err e)
    → (◌≡◌ {A = Halt ProfileFileError} (Refused e) (Stopped OutOfMemory)) ⊎ (profile_plan sets name sources ≡ Err e)
refused sets name sources e other (inl memory_ran_out) = absurd (other memory_ran_out)
refused sets name sources e other (inr said) = inr (the_one sets name sources (Err e) said)

-- ---- whose token is kept

-- a named source needs no token
known_or_not : (chain : ProfileChain) (name : List ℕ) (known : Bool) → chain.base ≡ base.NamedSource name → key_of_plan (if known then Ok chain else Err (UnknownProvider name)) ≡ None
known_or_not chain name true is = ap key_of_base is
known_or_not chain name false is = refl

over_key : (sources : List (List ℕ)) (chain : ProfileChain) (b : BaseProvider) → chain.base ≡ b → key_of_plan (planned_over sources chain b) ≡ key_of_plan (planned_over [] chain b)
over_key sources chain (base.NamedSource name) is = known_or_not chain name (is_known sources name) is ∙ sym (known_or_not chain name (is_known [] name) is)
over_key sources chain (base.AccessKey keys) is = refl
over_key sources chain (base.WebIdentityTokenRole arn file session) is = refl
over_key sources chain (base.Sso session region url account role) is = refl
over_key sources chain (base.CredentialProcess command account) is = refl
over_key sources chain (base.LoginSession session) is = refl

planned_key : (sources : List (List ℕ)) (r : Planned) → key_of_plan (planned sources r) ≡ key_of_plan (planned [] r)
planned_key sources (Ok chain) = over_key sources chain chain.base refl
planned_key sources (Err e) = refl

key_in : (profiles : ProfileSource) (name : List ℕ) (sources : List (List ℕ)) → key_of_plan (plan_in profiles name sources) ≡ key_of_plan (plan_in profiles name [])
unfolding profile_plan
key_in (RefusedSections reason) name sources = refl
key_in (Sections sets) name sources =
    let one = (the_plan sets name sources).said in
    let other = (the_plan sets name []).said in
    let same = sym ((the_chain sets name).only one.resolved one.chain) ∙ (the_chain sets name).only other.resolved other.chain in
    ap key_of_plan one.plan ∙ planned_key sources one.resolved ∙ ap (λ r. key_of_plan (planned [] r)) same ∙ sym (ap key_of_plan other.plan)

pub one_key : (conf : Configuration) (sources : List (List ℕ)) → key_of_plan (plan conf sources) ≡ key_of conf
unfolding plan key_of
one_key conf sources = key_in conf.profiles (selected_name conf) sources

-- where a plan's key is held, so is its base's
pub key_planned : (conf : Configuration) (sources : List (List ℕ)) (p : ProfileChain) (held : Option TokenKey) → plan conf sources ≡ Ok p → HasKey (key_of conf) held → HasKey (key_of_base p.base) held
key_planned conf sources p held is has = subst (λ k. HasKey k held) (sym (one_key conf sources) ∙ ap key_of_plan is) has

-- ---- the plan that is settled

ok_of : (r : Planned) (p : ProfileChain) → result_ok r ≡ Some p → r ≡ Ok p
ok_of (Ok x) p h = cc
ok_of (Err e) p h = absurd cc

key_of_ok : (r : Planned) → key_of_settled (result_ok r) ≡ key_of_plan r
key_of_ok (Ok p) = refl
key_of_ok (Err e) = refl

-- it needs the key that the configuration needs
pub settled_key : (conf : Configuration) → key_of_settled (settled_plan conf) ≡ key_of conf
unfolding settled_plan key_of
settled_key conf = key_of_ok (plan conf [])

-- a source that is always there is there with others
known_too : (chain p : ProfileChain) (e : ProfileFileError) (custom built_in : Bool) → ◌≡◌ {A = Planned} (if built_in then Ok chain else Err e) (Ok p) →
    ◌≡◌ {A = Planned} (if custom || built_in then Ok chain else Err e) (Ok p)
known_too chain p e true true h = h
known_too chain p e true false h = absurd cc
known_too chain p e false built_in h = h

over_others : (sources : List (List ℕ)) (chain p : ProfileChain) (b : BaseProvider) → planned_over [] chain b ≡ Ok p → planned_over sources chain b ≡ Ok p
over_others sources chain p (base.NamedSource name) h = known_too chain p (UnknownProvider name) (is_custom sources name) (is_built_in name) h
over_others sources chain p (base.AccessKey keys) h = h
over_others sources chain p (base.WebIdentityTokenRole arn file session) h = h
over_others sources chain p (base.Sso session region url account role) h = h
over_others sources chain p (base.CredentialProcess command account) h = h
over_others sources chain p (base.LoginSession session) h = h

planned_with : (sources : List (List ℕ)) (r : Planned) (p : ProfileChain) → planned [] r ≡ Ok p → planned sources r ≡ Ok p
planned_with sources (Ok chain) p h = over_others sources chain p chain.base h
planned_with sources (Err e) p h = h

plan_with : (profiles : ProfileSource) (name : List ℕ) (sources : List (List ℕ)) (p : ProfileChain) → plan_in profiles name [] ≡ Ok p → plan_in profiles name sources ≡ Ok p
unfolding profile_plan
plan_with (RefusedSections reason) name sources p h = h
plan_with (Sections sets) name sources p h =
    let one = (the_plan sets name sources).said in
    let other = (the_plan sets name []).said in
    let same = sym ((the_chain sets name).only other.resolved other.chain) ∙ (the_chain sets name).only one.resolved one.chain in
    one.plan ∙ planned_with sources one.resolved p (ap (planned []) (sym same) ∙ sym other.plan ∙ h)

-- it is the plan whatever sources the caller has
pub settled_is_plan : (conf : Configuration) (sources : List (List ℕ)) (p : ProfileChain) → settled_plan conf ≡ Some p → plan conf sources ≡ Ok p
unfolding settled_plan plan
settled_is_plan conf sources p h = plan_with conf.profiles (selected_name conf) sources p (ok_of (plan_in conf.profiles (selected_name conf) []) p h)
