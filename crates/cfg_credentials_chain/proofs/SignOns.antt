-- What the members of a chain ask IAM Identity Center for.
use Rattle.std.proofs.Common.{◌≡◌, List, [], ◌∷◌, ◌++◌, map, Option, Some, None, Ok, Err, refl, sym, ap, ◌∙◌, subst, append-nil, inl, inr}
use Rattle.cfg_types.specs.declared.errors.CredentialsError.{CredentialsError}
use Rattle.cfg_types.specs.declared.errors.ProviderAttempt.{ProviderAttempt}
use Rattle.cfg_world.specs.declared.devices.Devices.{Ghosts}
use Rattle.cfg_world.specs.Fits.{Pair}
use Rattle.cfg_world.specs.Held.{Held}
use Rattle.cfg_kept.specs.declared.kept.Kept.{Kept}
use Rattle.cfg_kept.specs.Kinds.{Value, States}
use Rattle.cfg_kept.specs.KeptInquiry.{KeptInquiry, Gives, Begins, lift, found_by}
use Rattle.cfg_kept.proofs.Told.{run_begins}
use Rattle.cfg_imds_credentials.specs.Metadata.{metadata}
use Rattle.cfg_providers.specs.ContainerSetups.{settings_in, asks_container}
use Rattle.cfg_providers.specs.CustomSources.{Answer}
use Rattle.cfg_providers.specs.EnvironmentKeys.{by_environment}
use Rattle.cfg_providers.specs.Processes.{credential_process}
use Rattle.cfg_providers.specs.WebIdentities.{web_identity}
use Rattle.cfg_login.specs.declared.asked_by.AskedBy.TheVariants.{Caller}
use Rattle.cfg_login.specs.SignIns.{sign_in_credentials}
use Rattle.cfg_sso.specs.RoleRequests.{AsksNoRole}
use Rattle.cfg_sso.proofs.BegunRequests.{begun_sends}
use Rattle.cfg_sso.proofs.NoRoleAsked.{NeverAsks, begins_without}
use Rattle.cfg_world.specs.Gains.{Gains}
use Rattle.cfg_chain.proofs.OtherBases.{sign_in_without, process_without}
use Rattle.cfg_chain.proofs.SignOns.{profile_signs, chain_signs}
use Rattle.cfg_chain.proofs.WithoutRoles.{web_identity_without, container_without, metadata_without}
use Rattle.cfg_assume_role.proofs.SignOns.{role_signs, base_nothing}
use Rattle.cfg_meta.specs.CredentialsAnswers.{credentials_rules, none_loaded}
use Rattle.cfg_meta.specs.AnswerRules.{passed_over, attempt_of}
use Rattle.cfg_meta.specs.MemberParts.{Keeping, keeping_of, IsMemberPart, HasBegun, GoesThrough}
use Rattle.cfg_credentials_chain.specs.Members.{Asked, OfEnvironment, OfProcess, OfWebIdentity, OfContainer, OfMetadata, OfSession, OfSignIn, OfProfile, ByDefault, ForRole, Given, ByCaller, NamedAsked, IsMemberTree, name_in, IsNamedTree}
use Rattle.cfg_credentials_chain.specs.Provides.{fresh, ProvidesOn, InterruptedOn}
use Rattle.cfg_credentials_chain.specs.SignOns.{MemberSignsOn, MembersSignOn}

-- ---- one member

module _ (old new : Option States) (found : List Value) (part : List Pair) where
  quiet : (p tree : KeptInquiry Answer) → tree ≡ p → NeverAsks p → Begins tree old found part new → AsksNoRole part
  quiet p tree is n h = begins_without p old new found part n (subst (λ t. Begins t old found part new) is h)

  member_signs : (m : Asked) (tree : KeptInquiry Answer) → IsMemberTree m tree → Begins tree old found part new → MemberSignsOn m found part
  member_signs (OfEnvironment env) tree is h = quiet (lift (by_environment env)) tree is tt h
  member_signs (OfProcess p) tree is h = quiet (lift (credential_process p.command p.account_id)) tree is (process_without p.command p.account_id) h
  member_signs (OfWebIdentity w) tree is h = quiet (lift (web_identity w.configuration w.given w.policies)) tree is (web_identity_without w.configuration w.given w.policies) h
  member_signs (OfContainer c) tree is h = quiet (lift (asks_container c is.0)) tree is.2 (container_without c.configuration.environment (settings_in c) is.0) h
  member_signs (OfMetadata m) tree is h = quiet (metadata m) tree is (metadata_without m) h
  member_signs (OfSession s) tree is h = begun_sends s.configuration s.sso old new found part (subst (λ t. Begins t old found part new) is h)
  member_signs (OfSignIn s) tree is h = quiet (sign_in_credentials s.configuration s.session Caller) tree is (sign_in_without s.configuration s.session Caller) h
  member_signs (OfProfile over) tree is h = profile_signs over is.0 old new found part (subst (λ t. Begins t old found part new) is.2 h)
  member_signs (ByDefault over) tree is h = chain_signs over is.0 old new found part (subst (λ t. Begins t old found part new) is.2 h)
  member_signs (ForRole call b) tree is h = role_signs call b is.0 old new found part is.1 (subst (λ t. Begins t old found part new) is.2 h)
  member_signs (Given keys) tree is h = quiet (Gives (Ok keys)) tree is tt h
  member_signs (ByCaller answer fallback) tree is h = quiet (Gives answer) tree is tt h

none_signs : (m : Asked) (found : List Value) → MemberSignsOn m found []
none_signs (OfEnvironment env) found = tt
none_signs (OfProcess p) found = tt
none_signs (OfWebIdentity w) found = tt
none_signs (OfContainer c) found = tt
none_signs (OfMetadata m) found = tt
none_signs (OfSession s) found = inr tt
none_signs (OfSignIn s) found = tt
none_signs (OfProfile over) found = inr tt
none_signs (ByDefault over) found = inr tt
none_signs (ForRole call b) found = base_nothing b found
none_signs (Given keys) found = tt
none_signs (ByCaller answer fallback) found = tt

-- where nothing was found before, what is found is the member's
there : (m : Asked) (old new : Keeping) (found : List Value) (part : List Pair) → old.found ≡ [] → new.found ≡ old.found ++ found → MemberSignsOn m found part → MemberSignsOn m new.found part
there m old new found part none finds h = subst (λ f. MemberSignsOn m f part) (sym (finds ∙ ap (λ f. f ++ found) none)) h

whole_signs : (m : NamedAsked) (old new : Keeping) (part : List Pair) (given : Answer) → old.found ≡ [] → IsMemberPart (IsNamedTree m) old new part given → MemberSignsOn m.1 new.found part
whole_signs m old new part given none p =
    let found = found_by p.tree old.states part in
    there m.1 old new found part none p.finds (member_signs None None found part m.1 p.tree p.is_its (run_begins p.tree None None found part given p.reads))

begun_signs : (m : NamedAsked) (old new : Keeping) (part : List Pair) → old.found ≡ [] → HasBegun (IsNamedTree m) old new part → MemberSignsOn m.1 new.found part
begun_signs m old new part none (inl b) = there m.1 old new b.found part none b.finds (member_signs (Some old.states) (Some new.states) b.found part m.1 b.tree b.is_its b.begins)
begun_signs m old new part none (inr u) = subst (λ p. MemberSignsOn m.1 new.found p) (sym u.0) (none_signs m.1 new.found)

-- ---- all members

none_sign : (members : List NamedAsked) (keepings : List Keeping) → MembersSignOn members keepings []
none_sign [] keepings = refl
none_sign (m ∷ members) [] = refl
none_sign (m ∷ members) (k ∷ keepings) = ([], [], refl, none_signs m.1 k.found, none_sign members keepings)

abbrev pub NothingFound : List Keeping → Type 0
NothingFound [] = Unit {0}
NothingFound (k ∷ keepings) = (k.found ≡ []) × NothingFound keepings

pub fresh_found : (olds : List Kept) → NothingFound (fresh olds)
fresh_found [] = tt
fresh_found (old ∷ olds) = (refl, fresh_found olds)

module _ (at_member : NamedAsked → Keeping → Keeping → List Pair → Type 0) (at_end : List (ProviderAttempt CredentialsError) → Type 0)
    (signs : (m : NamedAsked) (old new : Keeping) (part : List Pair) → old.found ≡ [] → at_member m old new part → MemberSignsOn m.1 new.found part) where
  members_sign : (members : List NamedAsked) (attempts : List (ProviderAttempt CredentialsError)) (olds news : List Keeping) (part : List Pair) → NothingFound olds →
      GoesThrough credentials_rules name_in IsNamedTree at_member at_end members attempts olds news part → MembersSignOn members news part
  members_sign [] attempts olds news part none h = h.0
  members_sign (m ∷ members) attempts (old ∷ olds) (new ∷ news) part none (inl h) =
      (h.0, h.1, h.4, whole_signs m old new h.0 h.2 none.0 h.5, members_sign members (attempts ++ attempt_of (name_in m) h.3 ∷ []) olds news h.1 none.1 h.7)
  members_sign (m ∷ members) attempts (old ∷ olds) (new ∷ news) part none (inr h) = (part, [], sym (append-nil part), signs m old new part none.0 h.0, none_sign members news)
  members_sign (m ∷ members) attempts [] news part none h = absurd h
  members_sign (m ∷ members) attempts (old ∷ olds) [] part none h = absurd h

-- ---- a call

module _ {D : Type 0} (d : Ghosts D) (members : List NamedAsked) (olds news : List Kept) (before later : Held D) where
  pub answered : (out : Answer) → ProvidesOn d members olds news before later out → Gains before.journal later.journal (MembersSignOn members (map keeping_of news))
  answered out h = record {
    part = h.part;
    grows = h.grows.journal;
    said = members_sign (λ m old new mine. IsMemberPart (IsNamedTree m) old new mine out × (passed_over credentials_rules out ≡ None)) (λ attempts. out ≡ Err (none_loaded attempts)) (λ m old new mine none k. whole_signs m old new mine out none k.0)
        members [] (fresh olds) (map keeping_of news) h.part (fresh_found olds) h.parts;
  }

  pub interrupted : InterruptedOn d members olds news before later → Gains before.journal later.journal (MembersSignOn members (map keeping_of news))
  interrupted h = record {
    part = h.part;
    grows = h.stays.journal;
    said = members_sign (λ m old new mine. HasBegun (IsNamedTree m) old new mine) (λ attempts. Unit {0}) begun_signs members [] (fresh olds) (map keeping_of news) h.part (fresh_found olds) h.begun;
  }
