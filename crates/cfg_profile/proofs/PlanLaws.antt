-- Each set of profiles has one plan, with no more roles than profiles.
use Rattle.std.proofs.Common.{◌≡◌, ℕ, true, ◌≤◌, List, [], ◌∷◌, ◌++◌, length, Option, Some, None, Result, Ok, Err, refl, sym, ap, ◌∙◌, arith, length-append}
use Rattle.std.specs.Prelude.{is_some}
use Rattle.std.specs.List.{flat_map}
use Rattle.std.specs.FinMap.{get, len}
use Rattle.std.proofs.lemmas.List.{length-reverse}
use Rattle.cfg_base.specs.TextMap.{Named}
use Rattle.cfg_types.specs.declared.errors.ProfileFileError.{ProfileFileError}
use Rattle.cfg_profile.specs.declared.chain.RoleArn.{RoleArn}
use Rattle.cfg_profile.specs.declared.chain.BaseProvider.{BaseProvider}
use Rattle.cfg_profile.specs.declared.chain.ProfileChain.{ProfileChain}
use Rattle.cfg_profile.specs.SectionParts.{SectionParts}
use Rattle.cfg_profile.specs.SectionSets.{SectionSets}
use Rattle.cfg_profile.specs.NamedSources.{IsPlan, planned}
use Rattle.cfg_profile.specs.Paths.{End, Keys, Base, NoSource, OwnBase, Loops, Missing}
use Rattle.cfg_profile.specs.Plans.{role_by, role_of, one_or_none, sections_of, roles_over, chain_over, outcome, no_section, IsChainAt, IsChain}
use Rattle.cfg_profile.specs.Laws.{OnlyPath, OnlyAnswer}
use Rattle.cfg_profile.proofs.PathTrails.{only_path, some_path, trail_of, no_longer_than}

pub the_path : (profiles : Named SectionParts) (selected : List ℕ) → is_some (get profiles selected) ≡ true → OnlyPath profiles selected
the_path profiles selected there =
    let p = some_path profiles selected there in
    record {
      before = p.before;
      last = p.last;
      section = p.section;
      end = p.end;
      path = p.path;
      only = λ b l s e q. only_path profiles selected p.before p.last p.section p.end b l s e p.path q;
    }

the_chain_at : (sets : SectionSets) (name : List ℕ) (o : Option SectionParts) → get sets.profiles name ≡ o → OnlyAnswer (IsChainAt sets name o)
the_chain_at sets name None h = record { answer = Err (no_section sets.profiles name); said = refl; only = λ other e. sym e }
the_chain_at sets name (Some s) h =
    let p = the_path sets.profiles name (ap is_some h) in
    record {
      answer = outcome sets.sessions (sections_of sets.profiles p.before) p.before p.last p.section p.end;
      said = record { before = p.before; last = p.last; section = p.section; end = p.end; path = p.path; gives = refl };
      only = λ other g.
          let same = p.only g.before g.last g.section g.end g.path in
          (λ i. outcome sets.sessions (sections_of sets.profiles (same.0 i)) (same.0 i) (same.1 i) (same.2 i) (same.3 i)) ∙ sym g.gives;
    }

pub the_chain : (sets : SectionSets) (name : List ℕ) → OnlyAnswer (IsChain sets name)
the_chain sets name =
    let c = the_chain_at sets name (get sets.profiles name) refl in
    record { answer = c.answer; said = c.said; only = c.only }

pub the_plan : (sets : SectionSets) (name : List ℕ) (sources : List (List ℕ)) → OnlyAnswer (IsPlan sets name sources)
the_plan sets name sources =
    let c = the_chain sets name in
    record {
      answer = planned sources c.answer;
      said = record { resolved = c.answer; chain = c.said; plan = refl };
      only = λ other g. ap (planned sources) (c.only g.resolved g.chain) ∙ sym g.plan;
    }

few : {X Y : Type 0} (f : X → List Y) → ((x : X) → length (f x) ≤ 1) → (xs : List X) → length (flat_map f xs) ≤ length xs
few f one [] = omega arith
few f one (x ∷ xs) = omega (arith, one x, few f one xs, length-append (f x) (flat_map f xs))

one_role : (s : SectionParts) (arn : Option (List ℕ)) → length (role_by s arn) ≤ 1
one_role s None = omega arith
one_role s (Some arn) = omega arith

one_section : (o : Option SectionParts) → length (one_or_none o) ≤ 1
one_section None = omega arith
one_section (Some s) = omega arith

few_over : (sections : List SectionParts) → length (roles_over sections) ≤ length sections
few_over sections = omega (arith, length-reverse (flat_map role_of sections), few role_of (λ s. one_role s _) sections)

few_sections : (profiles : Named SectionParts) (names : List (List ℕ)) → length (sections_of profiles names) ≤ length names
few_sections profiles names = few (λ n. one_or_none (get profiles n)) (λ n. one_section (get profiles n)) names

roles_are : (roles : List RoleArn) (base : Result BaseProvider ProfileFileError) (chain : ProfileChain) → Ok chain ≡ chain_over roles base → chain.roles ≡ roles
roles_are roles (Ok base) chain e = let r : chain ≡ record { base = base; roles = roles } = cc in ap (λ c. c.roles) r
roles_are roles (Err e') chain e = absurd cc

few_of_path : (sets : SectionSets) (before : List (List ℕ)) (last : List ℕ) (s : SectionParts) (end : End) (chain : ProfileChain)
    → Ok chain ≡ outcome sets.sessions (sections_of sets.profiles before) before last s end → length chain.roles ≤ length (before ++ last ∷ [])
few_of_path sets before last s Keys chain e = omega (arith, ap length (roles_are _ _ chain e), few_over (sections_of sets.profiles before), few_sections sets.profiles before, length-append before (last ∷ []))
few_of_path sets before last s Base chain e = omega (arith, ap length (roles_are _ _ chain e), few_over (sections_of sets.profiles before), few_sections sets.profiles before, length-append before (last ∷ []))
few_of_path sets before last s NoSource chain e = absurd cc
few_of_path sets before last s OwnBase chain e =
    omega (arith, ap length (roles_are _ _ chain e), few_over (sections_of sets.profiles before ++ s ∷ []), few_sections sets.profiles before, length-append (sections_of sets.profiles before) (s ∷ []), length-append before (last ∷ []))
few_of_path sets before last s (Loops n) chain e = absurd cc
few_of_path sets before last s (Missing n) chain e = absurd cc

pub few_roles_at : (sets : SectionSets) (name : List ℕ) (o : Option SectionParts) (chain : ProfileChain) → get sets.profiles name ≡ o → IsChainAt sets name o (Ok chain) → length chain.roles ≤ len sets.profiles
few_roles_at sets name None chain h e = absurd cc
few_roles_at sets name (Some s) chain h g =
    let few_names = no_longer_than sets.profiles name (g.before ++ g.last ∷ []) (ap is_some h) (trail_of sets.profiles name (g.before ++ g.last ∷ []) g.path.goes) in
    omega (arith, few_names, few_of_path sets g.before g.last g.section g.end chain g.gives)
