-- What the members of a chain read of sign-in sessions.
use Rattle.std.proofs.Common.{◌≡◌, List, [], ◌∷◌, ◌++◌, map, false, Option, Some, None, Ok, Err, refl, sym, ap, ◌∙◌, subst, inl, inr}
use Rattle.std.specs.Prelude.{is_ok}
use Rattle.cfg_types.specs.declared.errors.CredentialsError.{CredentialsError}
use Rattle.cfg_types.specs.declared.errors.ProviderAttempt.{ProviderAttempt}
use Rattle.cfg_world.specs.declared.devices.Devices.{Ghosts}
use Rattle.cfg_world.specs.Fits.{Pair, EachFits}
use Rattle.cfg_world.specs.Held.{Held}
use Rattle.cfg_kept.specs.declared.kept.Kept.{Kept}
use Rattle.cfg_kept.specs.Kinds.{Value, States}
use Rattle.cfg_kept.specs.KeptInquiry.{KeptInquiry, Gives, Reads, Begins, lift, found_by}
use Rattle.cfg_kept.proofs.Told.{run_begins}
use Rattle.cfg_imds_credentials.specs.Metadata.{metadata}
use Rattle.cfg_providers.specs.ContainerSetups.{asks_container}
use Rattle.cfg_providers.specs.CustomSources.{Answer}
use Rattle.cfg_providers.specs.EnvironmentKeys.{by_environment}
use Rattle.cfg_providers.specs.Processes.{credential_process}
use Rattle.cfg_providers.specs.WebIdentities.{web_identity}
use Rattle.cfg_login.specs.declared.asked_by.AskedBy.TheVariants.{Caller}
use Rattle.cfg_login.specs.FoundSessions.{is_session_spot, ReadsNoSession}
use Rattle.cfg_login.proofs.LastReadings.{credentials_last}
use Rattle.cfg_login.proofs.OtherSpots.{lift_elsewhere, begins_elsewhere}
use Rattle.cfg_login.proofs.SignInCauses.{sign_in_cause}
use Rattle.cfg_sso.specs.SsoCredentials.{sso_credentials}
use Rattle.cfg_world.specs.Gains.{Gains}
use Rattle.cfg_chain.specs.Settings.{setting}
use Rattle.cfg_chain.proofs.MemberCauses.{resolved}
use Rattle.cfg_chain.proofs.OtherSessions.{Elsewhere, metadata_elsewhere, sign_on_elsewhere}
use Rattle.cfg_chain.proofs.Sessions.{fits_first, profile_reads, chain_reads, profile_begun, chain_begun_in}
use Rattle.cfg_assume_role.proofs.Sessions.{role_reads, role_stops}
use Rattle.cfg_meta.specs.AnswerRules.{passed_over, attempt_of}
use Rattle.cfg_meta.specs.CredentialsAnswers.{credentials_rules, none_loaded}
use Rattle.cfg_meta.specs.MemberParts.{Keeping, keeping_of, IsMemberPart, HasBegun, GoesThrough}
use Rattle.cfg_credentials_chain.specs.Members.{Asked, OfEnvironment, OfProcess, OfWebIdentity, OfContainer, OfMetadata, OfSession, OfSignIn, OfProfile, ByDefault, ForRole, Given, ByCaller, NamedAsked, IsMemberTree, name_in, IsNamedTree}
use Rattle.cfg_credentials_chain.specs.Provides.{fresh, ProvidesOn, InterruptedOn}
use Rattle.cfg_credentials_chain.specs.Sessions.{MemberReadsSession, MemberStopsInSession, InOrder, MembersReadSession, MembersStopInSession}
use Rattle.cfg_credentials_chain.proofs.SignOns.{NothingFound, fresh_found}

-- ---- one member

module _ (found : List Value) (part : List Pair) (out : Answer) where
  passes_by : (p tree : KeptInquiry Answer) → tree ≡ p → Elsewhere p → Reads tree found part out → ReadsNoSession found
  passes_by p tree is n h = begins_elsewhere p None None found part n (run_begins p None None found part out (subst (λ t. Reads t found part out) is h))

  member_reads : (m : Asked) (tree : KeptInquiry Answer) → IsMemberTree m tree → EachFits part → Reads tree found part out → MemberReadsSession m found part out
  member_reads (OfEnvironment env) tree is fits h = passes_by (lift (by_environment env)) tree is tt h
  member_reads (OfProcess p) tree is fits h =
      passes_by (lift (credential_process p.command p.account_id)) tree is (lift_elsewhere is_session_spot (credential_process p.command p.account_id)) h
  member_reads (OfWebIdentity w) tree is fits h =
      passes_by (lift (web_identity w.configuration w.given w.policies)) tree is (lift_elsewhere is_session_spot (web_identity w.configuration w.given w.policies)) h
  member_reads (OfContainer c) tree is fits h = passes_by (lift (asks_container c is.0)) tree is.2 (lift_elsewhere is_session_spot (asks_container c is.0)) h
  member_reads (OfMetadata m) tree is fits h = passes_by (metadata m) tree is (metadata_elsewhere m) h
  member_reads (OfSession s) tree is fits h = passes_by (sso_credentials s.configuration s.sso) tree is (sign_on_elsewhere s.configuration s.sso) h
  member_reads (OfSignIn s) tree is fits h =
      credentials_last s.configuration s.session Caller found part out fits (sign_in_cause s.configuration s.session Caller found part out (subst (λ t. Reads t found part out) is h))
  member_reads (OfProfile over) tree is fits h = profile_reads over is.0 found part out fits (subst (λ t. Reads t found part out) is.2 h)
  member_reads (ByDefault over) tree is fits h =
      chain_reads over is.0 found part out fits (resolved (setting over is.0) found part out (subst (λ t. Reads t found part out) is.2 h))
  member_reads (ForRole call b) tree is fits h = role_reads call b is.0 is.1 found part out fits (subst (λ t. Reads t found part out) is.2 h)
  member_reads (Given keys) tree is fits h = passes_by (Gives (Ok keys)) tree is tt h
  member_reads (ByCaller answer fallback) tree is fits h = passes_by (Gives answer) tree is tt h

module _ (old new : Option States) (found : List Value) (part : List Pair) where
  begins_by : (p tree : KeptInquiry Answer) → tree ≡ p → Elsewhere p → Begins tree old found part new → ReadsNoSession found
  begins_by p tree is n h = begins_elsewhere p old new found part n (subst (λ t. Begins t old found part new) is h)

  member_stops : (m : Asked) (tree : KeptInquiry Answer) → IsMemberTree m tree → EachFits part → Begins tree old found part new → MemberStopsInSession m found part
  member_stops (OfEnvironment env) tree is fits h = begins_by (lift (by_environment env)) tree is tt h
  member_stops (OfProcess p) tree is fits h =
      begins_by (lift (credential_process p.command p.account_id)) tree is (lift_elsewhere is_session_spot (credential_process p.command p.account_id)) h
  member_stops (OfWebIdentity w) tree is fits h =
      begins_by (lift (web_identity w.configuration w.given w.policies)) tree is (lift_elsewhere is_session_spot (web_identity w.configuration w.given w.policies)) h
  member_stops (OfContainer c) tree is fits h = begins_by (lift (asks_container c is.0)) tree is.2 (lift_elsewhere is_session_spot (asks_container c is.0)) h
  member_stops (OfMetadata m) tree is fits h = begins_by (metadata m) tree is (metadata_elsewhere m) h
  member_stops (OfSession s) tree is fits h = begins_by (sso_credentials s.configuration s.sso) tree is (sign_on_elsewhere s.configuration s.sso) h
  member_stops (OfSignIn s) tree is fits h = tt
  member_stops (OfProfile over) tree is fits h = profile_begun over is.0 old new found part fits (subst (λ t. Begins t old found part new) is.2 h)
  member_stops (ByDefault over) tree is fits h = chain_begun_in over is.0 old new found part fits (subst (λ t. Begins t old found part new) is.2 h)
  member_stops (ForRole call b) tree is fits h = role_stops call b is.0 is.1 old new found part fits (subst (λ t. Begins t old found part new) is.2 h)
  member_stops (Given keys) tree is fits h = begins_by (Gives (Ok keys)) tree is tt h
  member_stops (ByCaller answer fallback) tree is fits h = begins_by (Gives answer) tree is tt h

-- nothing was asked of it
none_stops : (m : Asked) → MemberStopsInSession m [] []
none_stops (OfEnvironment env) = tt
none_stops (OfProcess p) = tt
none_stops (OfWebIdentity w) = tt
none_stops (OfContainer c) = tt
none_stops (OfMetadata m) = tt
none_stops (OfSession s) = tt
none_stops (OfSignIn s) = tt
none_stops (OfProfile over) = inr (inr (inr refl))
none_stops (ByDefault over) = inr (inr (inr refl))
none_stops (ForRole call b) = inr (inr refl)
none_stops (Given keys) = tt
none_stops (ByCaller answer fallback) = tt

-- where nothing was found before, what is found is the member's
whole_reads : (m : NamedAsked) (old new : Keeping) (part : List Pair) (given : Answer) → old.found ≡ [] → EachFits part → IsMemberPart (IsNamedTree m) old new part given → MemberReadsSession m.1 new.found part given
whole_reads m old new part given none fits p =
    let found = found_by p.tree old.states part in
    subst (λ f. MemberReadsSession m.1 f part given) (sym (p.finds ∙ ap (λ f. f ++ found) none)) (member_reads found part given m.1 p.tree p.is_its fits p.reads)

begun_stops : (m : NamedAsked) (old new : Keeping) (part : List Pair) → old.found ≡ [] → EachFits part → HasBegun (IsNamedTree m) old new part → MemberStopsInSession m.1 new.found part
begun_stops m old new part none fits (inl b) =
    subst (λ f. MemberStopsInSession m.1 f part) (sym (b.finds ∙ ap (λ f. f ++ b.found) none)) (member_stops (Some old.states) (Some new.states) b.found part m.1 b.tree b.is_its fits b.begins)
begun_stops m old new part none fits (inr u) =
    subst (λ f. MemberStopsInSession m.1 f part) (sym (ap (λ (k : Keeping). k.found) u.1 ∙ none)) (subst (λ p. MemberStopsInSession m.1 [] p) (sym u.0) (none_stops m.1))

-- ---- all members

fits_rest : (one other : List Pair) → EachFits (one ++ other) → EachFits other
fits_rest [] other h = h
fits_rest (e ∷ one) other h = fits_rest one other h.1

-- a member that was passed over gave an error
gave_error : (given : Answer) (e : CredentialsError) → passed_over credentials_rules given ≡ Some e → (x : CredentialsError) × (given ≡ Err x)
gave_error (Ok keys) e h = absurd cc
gave_error (Err x) e h = (x, refl)

module _ (at_member : NamedAsked → Keeping → Keeping → List Pair → Type 0) (at_end : List (ProviderAttempt CredentialsError) → Type 0)
    (reads : Asked → List Value → List Pair → Type 0) (none : Type 0) (ends : (attempts : List (ProviderAttempt CredentialsError)) → at_end attempts → none)
    (told : (m : NamedAsked) (old new : Keeping) (part : List Pair) → old.found ≡ [] → EachFits part → at_member m old new part → reads m.1 new.found part) where
  in_order : (members : List NamedAsked) (attempts : List (ProviderAttempt CredentialsError)) (olds news : List Keeping) (part : List Pair) → NothingFound olds → EachFits part →
      GoesThrough credentials_rules name_in IsNamedTree at_member at_end members attempts olds news part → InOrder reads none members news part
  in_order [] attempts olds news part clear fits h = (h.0, ends attempts h.2)
  in_order (m ∷ members) attempts (old ∷ olds) (new ∷ news) part clear fits (inl h) =
      let fit = subst EachFits h.4 fits in
      let gave = gave_error h.2 h.3 h.6 in
      inr (
        h.0,
        h.1,
        gave.0,
        h.4,
        subst (λ g. MemberReadsSession m.1 new.found h.0 g) gave.1 (whole_reads m old new h.0 h.2 clear.0 (fits_first h.0 h.1 fit) h.5),
        in_order members (attempts ++ attempt_of (name_in m) h.3 ∷ []) olds news h.1 clear.1 (fits_rest h.0 h.1 fit) h.7,
      )
  in_order (m ∷ members) attempts (old ∷ olds) (new ∷ news) part clear fits (inr h) = inl (told m old new part clear.0 fits h.0)
  in_order (m ∷ members) attempts [] news part clear fits h = absurd h
  in_order (m ∷ members) attempts (old ∷ olds) [] part clear fits h = absurd h

-- ---- a call

module _ {D : Type 0} (d : Ghosts D) (members : List NamedAsked) (olds news : List Kept) (before later : Held D) where
  pub answered : (out : Answer) → ProvidesOn d members olds news before later out → Gains before.journal later.journal (λ part. MembersReadSession members (map keeping_of news) part out)
  answered out h = record {
    part = h.part;
    grows = h.grows.journal;
    said = in_order (λ m old new mine. IsMemberPart (IsNamedTree m) old new mine out × (passed_over credentials_rules out ≡ None)) (λ attempts. out ≡ Err (none_loaded attempts))
        (λ m found part. MemberReadsSession m found part out) (is_ok out ≡ false) (λ attempts is. ap is_ok is) (λ m old new mine none fits k. whole_reads m old new mine out none fits k.0)
        members [] (fresh olds) (map keeping_of news) h.part (fresh_found olds) h.grows.fits h.parts;
  }

  pub interrupted : InterruptedOn d members olds news before later → Gains before.journal later.journal (MembersStopInSession members (map keeping_of news))
  interrupted h = record {
    part = h.part;
    grows = h.stays.journal;
    said = in_order (λ m old new mine. HasBegun (IsNamedTree m) old new mine) (λ attempts. Unit {0}) MemberStopsInSession (Unit {0}) (λ attempts u. u) begun_stops
        members [] (fresh olds) (map keeping_of news) h.part (fresh_found olds) h.stays.fits h.begun;
  }
