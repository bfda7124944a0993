-- The reasons that are told of a call are its own.
use Rattle.std.proofs.Common.{◌≡◌, ℕ, suc, List, [], ◌∷◌, ◌++◌, map, drop, length, Bool, true, false, Option, Some, None, Result, Ok, Err, refl, sym, ap, ◌∙◌, subst, append-nil}
use Rattle.std.specs.Prelude.{IfSome, is_ok, option_to_list, slice_get, codes, if◌then◌else◌}
use Rattle.std.specs.List.{AllByRecursion}
use Rattle.std.specs.Option.{option_or}
use Rattle.std.specs.Result.{result_err}
use denote.Hole.Carrier as carrier
use Rattle.cfg_types.specs.Classes.{is_not_loaded_answer}
use Rattle.cfg_types.specs.Environment.{Variables, readable}
use Rattle.cfg_types.specs.declared.errors.CredentialsError as errors
use Rattle.cfg_types.specs.declared.errors.CredentialsError.{CredentialsError}
use Rattle.cfg_types.specs.declared.errors.CredentialsError.TheVariants.{CredentialsNotLoaded}
use Rattle.cfg_types.specs.declared.errors.NotLoadedCause.TheVariants.{NotConfigured}
use Rattle.cfg_types.specs.declared.errors.ProfileFileError.{ProfileFileError}
use Rattle.cfg_world.specs.Fits.{Pair}
use Rattle.cfg_world.specs.Inquiry as inquiry
use Rattle.cfg_exchange.specs.declared.container.ContainerUri.{ContainerUri}
use Rattle.cfg_exchange.specs.Containers.{token_file, IsUriBy}
use Rattle.cfg_exchange.specs.ContainerCauses.{token_fault, address_fault, answer_fault}
use Rattle.cfg_exchange.specs.ContainerUnset.{IsTokenPart}
use Rattle.cfg_kept.specs.Kinds.{Value, States}
use Rattle.cfg_kept.specs.KeptInquiry.{Reads}
use Rattle.cfg_kept.proofs.Splits.{lowered}
use Rattle.cfg_imds_credentials.proofs.Given.{given_is}
use Rattle.cfg_meta.specs.CredentialsAnswers.{is_not_loaded}
use Rattle.cfg_providers.specs.declared.web_identity_token.WebIdentity.{WebIdentity}
use Rattle.cfg_providers.specs.CustomSources.{Answer}
use Rattle.cfg_providers.specs.EnvironmentKeys.{environment, by_environment}
use Rattle.cfg_providers.specs.WebIdentities.{identity_in, why_identity}
use Rattle.cfg_chain.specs.declared.member.Member.{Member}
use Rattle.cfg_chain.specs.declared.member.Member.TheVariants.{Environment, Profile, WebIdentityToken, EcsContainer, Ec2InstanceMetadata}
use Rattle.cfg_chain.specs.Callers.{Passed, WasNotLoaded, members_in, parts_in, told_of as attempt_of, IsAnsweredBy, IsAnsweredByNone, TellsWho}
use Rattle.cfg_chain.specs.Members.{member_tree, default_members}
use Rattle.cfg_chain.specs.PassedOver.{plan_is_passed_over, is_error, IsPassedOver}
use Rattle.cfg_chain.specs.Provides.{IsCall}
use Rattle.cfg_chain.specs.Resolves.{IsPart}
use Rattle.cfg_chain.specs.Settings.{Setting, ChainSetting, Services, AreServices, names_of, setting, container_settings}
use Rattle.cfg_chain.specs.profile.Plans.{Planned, plan, refusal, is_not_loaded_error}
use Rattle.cfg_chain.specs.profile.Profiles.{follows_plan, profile}
use Rattle.cfg_chain.proofs.FoundCalls.{found_call}
use Rattle.cfg_chain.proofs.PassingErrors.{passes, at_odds, refusal_passes, no_identity_passes}
use Rattle.cfg_chain.proofs.WhoAnswered.{call_tells}
use Rattle.cfg_explain.specs.declared.reasons.PassedOver.{PassedOver}
use Rattle.cfg_explain.specs.Reasons.{not_loaded, without_plan, neither_set, without_address, is_token_error, is_token_answer, is_metadata_error, without_metadata, why_passed_over, behind, reasons_from, reasons_among, reasons_of, own_part, told_of, AreReasonsOf}
use Rattle.cfg_explain.proofs.EndingErrors.{token_fault_is, token_answer, metadata_is_no_token, metadata_was_not_loaded, none_without_metadata, none_loaded_is_no_token, last_is_told}

clash : false ≡ true → ⊥
clash h = absurd cc

no_cause : (cause : Option CredentialsError) (e : CredentialsError) → cause ≡ None → cause ≡ Some e → ⊥
no_cause cause e h k = absurd cc

-- ---- one member

done_is : (said out : Answer) (part : List Pair) → inquiry.Reads (inquiry.Done said) part out → said ≡ out
done_is said out [] h = h
done_is said out (e ∷ part) h = absurd h

environment_is : (s : Setting) (found : List Value) (part : List Pair) (out : Answer) → Reads (member_tree s Environment) found part out →
    environment s.configuration.environment ≡ out
unfolding member_tree
environment_is s found part out h =
    done_is (environment s.configuration.environment) out part (lowered (by_environment s.configuration.environment) found part out h).1

profile_is : (s : Setting) (found : List Value) (part : List Pair) (out : Answer) → Reads (member_tree s Profile) found part out →
    Reads (follows_plan s (plan s.configuration (names_of s.sources))) found part out
unfolding member_tree profile
profile_is s found part out h = h

-- where its answer ends the call: the answer does not say that nothing was loaded
passes_answer : (out : Answer) → passes (result_err out) ≡ is_not_loaded_answer out
passes_answer (Ok keys) = refl
passes_answer (Err e) = refl

environment_answers : (out : Answer) → is_not_loaded_answer out ≡ false → not_loaded (result_err out) ≡ None
environment_answers (Ok keys) loaded = refl
environment_answers (Err e) loaded = ap (λ b. if b then Some e else None) loaded

refused_stays : (e : ProfileFileError) (b : Bool) → is_not_loaded_error e ≡ b → is_not_loaded (refusal e) ≡ false → (if b then Some (refusal e) else None) ≡ None
refused_stays e true is loaded = at_odds (is_not_loaded (refusal e)) (refusal_passes e is) loaded
refused_stays e false is loaded = refl

profile_answers : (s : Setting) (p : Planned) (found : List Value) (part : List Pair) (out : Answer) → Reads (follows_plan s p) found part out →
    is_not_loaded_answer out ≡ false → without_plan p ≡ None
profile_answers s (Ok p) found part out h loaded = refl
profile_answers s (Err e) found part out h loaded =
    refused_stays e (is_not_loaded_error e) refl (ap is_not_loaded_answer (given_is (Err (refusal e)) out found part h).2 ∙ loaded)

identity_answers : (identity : Result WebIdentity CredentialsError) (part : List Pair) (out : Answer) → result_err out ≡ why_identity identity part →
    (is_ok identity ≡ false → passes (result_err identity) ≡ true) → is_not_loaded_answer out ≡ false → result_err identity ≡ None
identity_answers (Ok identity) part out h unset loaded = refl
identity_answers (Err e) part out h unset loaded = at_odds (is_not_loaded e) (unset refl) (ap passes (sym h) ∙ passes_answer out ∙ loaded)

unset_passes : is_not_loaded (CredentialsNotLoaded NotConfigured) ≡ true
unfolding errors.out-CredentialsError carrier.out
unset_passes = refl

none_either : (b : Bool) → ◌≡◌ {A = Option CredentialsError} (if b then None else None) None
none_either true = refl
none_either false = refl

container_answers : (relative full : Option (List ℕ)) (named : ContainerUri) (dns : Bool) (part : List Pair) (token answer : Option CredentialsError) (out : Answer) →
    IsUriBy relative full named → IfSome token (λ e. is_token_error e ≡ true) → result_err out ≡ option_or token (option_or (address_fault dns named part) answer) →
    is_not_loaded_answer out ≡ false → (if is_token_answer out then None else neither_set relative full) ≡ None
container_answers (Some relative) full named dns part token answer out names is h loaded = none_either (is_token_answer out)
container_answers None (Some full) named dns part token answer out names is h loaded = none_either (is_token_answer out)
container_answers None None named dns part (Some e) answer out names is h loaded =
    ap (λ b. if b then None else Some (CredentialsNotLoaded NotConfigured)) (token_answer out e h is)
container_answers None None named dns part None answer out names is h loaded =
    at_odds (is_not_loaded (CredentialsNotLoaded NotConfigured)) unset_passes
    (ap passes (sym (h ∙ ap (λ n. option_or (address_fault dns n part) answer) names)) ∙ passes_answer out ∙ loaded)

-- where it is passed over
profile_passes : (s : Setting) (p : Planned) (found : List Value) (part : List Pair) (e : CredentialsError) →
    Reads (follows_plan s p) found part (Err e) → plan_is_passed_over p ≡ true → without_plan p ≡ Some e
profile_passes s (Ok p) found part e h line = absurd (clash line)
profile_passes s (Err x) found part e h line =
    ap (λ b. if b then Some (refusal x) else None) line ∙ ap result_err (given_is (Err (refusal x)) (Err e) found part h).2

identity_passes : (identity : Result WebIdentity CredentialsError) (part : List Pair) (e : CredentialsError) → Some e ≡ why_identity identity part →
    is_error identity ≡ true → result_err identity ≡ Some e
identity_passes (Ok identity) part e h line = absurd (clash line)
identity_passes (Err x) part e h line = sym h

container_passes : (relative full : Option (List ℕ)) (named : ContainerUri) (dns : Bool) (part : List Pair) (token answer : Option CredentialsError) (e : CredentialsError) →
    IsUriBy relative full named → Some e ≡ option_or token (option_or (address_fault dns named part) answer) → token ≡ None → relative ≡ None → full ≡ None →
    neither_set relative full ≡ Some e
container_passes (Some relative) full named dns part token answer e names h t r f = absurd (text_there relative r)
  where
    text_there : (text : List ℕ) → Some text ≡ None → ⊥
    text_there text h = absurd cc
container_passes None (Some full) named dns part token answer e names h t r f = absurd (text_there full f)
  where
    text_there : (text : List ℕ) → Some text ≡ None → ⊥
    text_there text h = absurd cc
container_passes None None named dns part (Some x) answer e names h t r f = absurd (no_cause (Some x) x t refl)
container_passes None None named dns part None answer e names h t r f = sym (h ∙ ap (λ n. option_or (address_fault dns n part) answer) names)

-- the members that ask nothing where they are passed over
abbrev is_quiet : Member → Bool
is_quiet Environment = true
is_quiet Profile = true
is_quiet WebIdentityToken = true
is_quiet EcsContainer = false
is_quiet Ec2InstanceMetadata = false

module _ (over : ChainSetting) (services : Services) (names : AreServices over services) where
  abbrev s : Setting
  s = setting over services

  abbrev env : Variables
  env = over.configuration.environment

  abbrev relative : Option (List ℕ)
  relative = readable env (codes "AWS_CONTAINER_CREDENTIALS_RELATIVE_URI")

  abbrev full : Option (List ℕ)
  full = readable env (codes "AWS_CONTAINER_CREDENTIALS_FULL_URI")

  answers : (m : Member) (found : List Value) (part : List Pair) (out : Answer) → IsPart s m found part out → is_not_loaded_answer out ≡ false →
      why_passed_over over out m ≡ None
  answers Environment found part out p loaded =
      ap (λ r. not_loaded (result_err r)) (environment_is s found part out p.reads) ∙ environment_answers out loaded
  answers Profile found part out p loaded =
      profile_answers s (plan over.configuration (names_of over.sources)) found part out (profile_is s found part out p.reads) loaded
  answers WebIdentityToken found part out p loaded = identity_answers (identity_in env) part out p.cause (no_identity_passes env) loaded
  answers EcsContainer found part out p loaded =
      container_answers relative full services.container (container_settings over.configuration).dns part (token_fault env part) (answer_fault part) out
      names.container (token_fault_is env part) p.cause loaded
  answers Ec2InstanceMetadata found part out p loaded = none_without_metadata out loaded

  quiet_passes : (out : Answer) (m : Member) (found : List Value) (part : List Pair) (e : CredentialsError) → is_quiet m ≡ true → IsPart s m found part (Err e) →
      is_not_loaded e ≡ true → IsPassedOver s m found part → why_passed_over over out m ≡ Some e
  quiet_passes out Environment found part e quiet p loaded line =
      ap (λ r. not_loaded (result_err r)) (environment_is s found part (Err e) p.reads) ∙ ap (λ b. if b then Some e else None) loaded
  quiet_passes out Profile found part e quiet p loaded line =
      profile_passes s (plan over.configuration (names_of over.sources)) found part e (profile_is s found part (Err e) p.reads) line.1
  quiet_passes out WebIdentityToken found part e quiet p loaded line = identity_passes (identity_in env) part e p.cause line.1
  quiet_passes out EcsContainer found part e quiet p loaded line = absurd (clash quiet)
  quiet_passes out Ec2InstanceMetadata found part e quiet p loaded line = absurd (clash quiet)

  unset_is_passed_over : (out : Answer) (found : List Value) (part : List Pair) (e : CredentialsError) → is_token_answer out ≡ false →
      IsPart s EcsContainer found part (Err e) → IsPassedOver s EcsContainer found part → why_passed_over over out EcsContainer ≡ Some e
  unset_is_passed_over out found part e clear p line =
      ap (λ b. if b then None else without_address env) clear
      ∙ container_passes relative full services.container (container_settings over.configuration).dns part (token_fault env part) (answer_fault part) e
      names.container p.cause line.token line.relative line.full

  asks_nothing : (m : Member) (found : List Value) (part : List Pair) → is_quiet m ≡ true → IsPassedOver s m found part → part ≡ []
  asks_nothing Environment found part quiet line = line.0
  asks_nothing Profile found part quiet line = line.0
  asks_nothing WebIdentityToken found part quiet line = line.0
  asks_nothing EcsContainer found part quiet line = absurd (clash quiet)
  asks_nothing Ec2InstanceMetadata found part quiet line = absurd (clash quiet)

  own_whole : (m : Member) (journal : List Pair) → is_quiet m ≡ true → own_part env m journal ≡ journal
  own_whole Environment journal quiet = refl
  own_whole Profile journal quiet = refl
  own_whole WebIdentityToken journal quiet = refl
  own_whole EcsContainer journal quiet = absurd (clash quiet)
  own_whole Ec2InstanceMetadata journal quiet = absurd (clash quiet)

  behind_token : (file : Option (List ℕ)) (part answered : List Pair) → IsTokenPart file part →
      drop (length (option_to_list file)) ((part ++ []) ++ answered) ≡ answered
  behind_token (Some path) part answered asks = ap (λ (x : List Pair). drop 1 ((x ++ []) ++ answered)) asks.1
  behind_token None part answered asks = ap (λ (x : List Pair). (x ++ []) ++ answered) asks

  -- ---- lists of members

  first_is : (m n : Member) (ms ns : List Member) → m ∷ ms ≡ n ∷ ns → m ≡ n
  first_is m n ms ns h = cc

  rest_is : (m n : Member) (ms ns : List Member) → m ∷ ms ≡ n ∷ ns → ms ≡ ns
  rest_is m n ms ns h = cc

  none_there : (ms : List Member) (m : Member) (rest : List Member) → [] ≡ ms ++ m ∷ rest → ⊥
  none_there [] m rest h = absurd cc
  none_there (n ∷ ms) m rest h = absurd cc

  -- each was passed over by its error
  abbrev ArePassedOver : Answer → List Passed → Type 0
  ArePassedOver out passed = AllByRecursion (λ p. why_passed_over over out p.who ≡ Some p.error) passed

  -- the reasons behind members that were passed over
  behind_passed : (out : Answer) (passed : List Passed) (rest : List Member) → ArePassedOver out passed →
      reasons_among over out (members_in passed ++ rest) ≡ behind (map told_of passed) (reasons_among over out rest)
  behind_passed out [] rest why = refl
  behind_passed out (p ∷ passed) rest why =
      ap (λ w. reasons_from p.who w (reasons_among over out (members_in passed ++ rest))) why.0
      ∙ ap (λ r. behind (told_of p ∷ []) r) (behind_passed out passed rest why.1)

  last_passes : (out : Answer) (p : Passed) → Ec2InstanceMetadata ≡ p.who → WasNotLoaded s p →
      (is_metadata_error p.error ≡ true → without_metadata out ≡ Some p.error) → why_passed_over over out p.who ≡ Some p.error
  last_passes out p same lost told =
      let there = subst (λ m. IsPart s m p.found p.part (Err p.error)) (sym same) lost.answers in
      ap (why_passed_over over out) (sym same) ∙ told (metadata_was_not_loaded s p.found p.part p.error there lost.not_loaded)

  container_is_passed_over : (out : Answer) (p : Passed) → EcsContainer ≡ p.who → WasNotLoaded s p → is_token_answer out ≡ false →
      why_passed_over over out p.who ≡ Some p.error
  container_is_passed_over out p same lost clear =
      let there = subst (λ m. IsPart s m p.found p.part (Err p.error)) (sym same) lost.answers in
      let line = subst (λ m. IsPassedOver s m p.found p.part) (sym same) lost.line in
      ap (why_passed_over over out) (sym same) ∙ unset_is_passed_over out p.found p.part p.error clear there line

  abbrev last_two : List Member
  last_two = EcsContainer ∷ Ec2InstanceMetadata ∷ []

  -- A container was, since no error of its token ended the call; and instance metadata by what the answer tells of it.
  passed_behind : (out : Answer) (passed : List Passed) (rest : List Member) → last_two ≡ members_in passed ++ rest → AllByRecursion (WasNotLoaded s) passed →
      (rest ≡ Ec2InstanceMetadata ∷ [] → is_token_answer out ≡ false) → (rest ≡ [] → is_token_answer out ≡ false) →
      (rest ≡ [] → (u : Passed) → slice_get passed 1 ≡ Some u → is_metadata_error u.error ≡ true → without_metadata out ≡ Some u.error) → ArePassedOver out passed
  passed_behind out [] rest order lost clear none told = tt
  passed_behind out (p ∷ []) rest order lost clear none told =
      let first : EcsContainer ≡ p.who = first_is EcsContainer p.who (Ec2InstanceMetadata ∷ []) rest order in
      let behind_it : Ec2InstanceMetadata ∷ [] ≡ rest = rest_is EcsContainer p.who (Ec2InstanceMetadata ∷ []) rest order in
      (container_is_passed_over out p first lost.0 (clear (sym behind_it)), tt)
  passed_behind out (p ∷ q ∷ []) rest order lost clear none told =
      let first : EcsContainer ≡ p.who = first_is EcsContainer p.who (Ec2InstanceMetadata ∷ []) (q.who ∷ rest) order in
      let behind_it = rest_is EcsContainer p.who (Ec2InstanceMetadata ∷ []) (q.who ∷ rest) order in
      let second : Ec2InstanceMetadata ≡ q.who = first_is Ec2InstanceMetadata q.who [] rest behind_it in
      let nothing : rest ≡ [] = sym (rest_is Ec2InstanceMetadata q.who [] rest behind_it) in
      (container_is_passed_over out p first lost.0 (none nothing), (last_passes out q second lost.1.0 (told nothing q refl), tt))
  passed_behind out (p ∷ q ∷ u ∷ passed) rest order lost clear none told =
      absurd (none_there [] u.who (members_in passed ++ rest) (rest_is Ec2InstanceMetadata q.who [] (u.who ∷ (members_in passed ++ rest))
      (rest_is EcsContainer p.who (Ec2InstanceMetadata ∷ []) (q.who ∷ (u.who ∷ (members_in passed ++ rest))) order)))

  passed_over_by : (out : Answer) (quiet : List Member) → AllByRecursion (λ m. is_quiet m ≡ true) quiet →
      (passed : List Passed) (rest : List Member) → quiet ++ last_two ≡ members_in passed ++ rest → AllByRecursion (WasNotLoaded s) passed →
      (rest ≡ Ec2InstanceMetadata ∷ [] → is_token_answer out ≡ false) → (rest ≡ [] → is_token_answer out ≡ false) →
      (rest ≡ [] → (u : Passed) → slice_get passed (suc (length quiet)) ≡ Some u → is_metadata_error u.error ≡ true → without_metadata out ≡ Some u.error) →
      ArePassedOver out passed
  passed_over_by out [] all passed rest order lost clear none told = passed_behind out passed rest order lost clear none told
  passed_over_by out (m ∷ quiet) all [] rest order lost clear none told = tt
  passed_over_by out (m ∷ quiet) all (p ∷ passed) rest order lost clear none told =
      let same : m ≡ p.who = first_is m p.who (quiet ++ last_two) (members_in passed ++ rest) order in
      let why = quiet_passes out p.who p.found p.part p.error (ap is_quiet (sym same) ∙ all.0) lost.0.answers lost.0.not_loaded lost.0.line in (
        why,
        passed_over_by out quiet all.1 passed rest (rest_is m p.who (quiet ++ last_two) (members_in passed ++ rest) order) lost.1 clear none
            (λ nothing u there is. told nothing u there is),
      )

  -- of the members that were passed over a container alone asked something
  asked_by_container : (passed : List Passed) (who : Member) (rest : List Member) (answered : List Pair) →
      EcsContainer ∷ Ec2InstanceMetadata ∷ [] ≡ members_in passed ++ who ∷ rest →
      AllByRecursion (WasNotLoaded s) passed → answered ≡ own_part env who (parts_in passed ++ answered)
  asked_by_container [] who rest answered order lost =
      subst (λ w. answered ≡ own_part env w answered) (first_is EcsContainer who (Ec2InstanceMetadata ∷ []) rest order) refl
  asked_by_container (p ∷ []) who rest answered order lost =
      let is_container : EcsContainer ≡ p.who = first_is EcsContainer p.who (Ec2InstanceMetadata ∷ []) (who ∷ rest) order in
      let is_last : Ec2InstanceMetadata ≡ who =
      first_is Ec2InstanceMetadata who [] rest (rest_is EcsContainer p.who (Ec2InstanceMetadata ∷ []) (who ∷ rest) order) in
      let unset = subst (λ m. IsPassedOver s m p.found p.part) (sym is_container) lost.0.line in
      subst (λ w. answered ≡ own_part env w ((p.part ++ []) ++ answered)) is_last (sym (behind_token (token_file env) p.part answered unset.asks))
  asked_by_container (p ∷ q ∷ passed) who rest answered order lost =
      absurd (none_there (members_in passed) who rest (rest_is Ec2InstanceMetadata q.who [] (members_in passed ++ who ∷ rest)
      (rest_is EcsContainer p.who (Ec2InstanceMetadata ∷ []) (q.who ∷ (members_in passed ++ who ∷ rest)) order)))

  asked_by_others : (quiet : List Member) → AllByRecursion (λ m. is_quiet m ≡ true) quiet →
      (passed : List Passed) (who : Member) (rest : List Member) (answered : List Pair) →
      quiet ++ EcsContainer ∷ Ec2InstanceMetadata ∷ [] ≡ members_in passed ++ who ∷ rest → AllByRecursion (WasNotLoaded s) passed →
      answered ≡ own_part env who (parts_in passed ++ answered)
  asked_by_others [] all passed who rest answered order lost = asked_by_container passed who rest answered order lost
  asked_by_others (m ∷ quiet) all [] who rest answered order lost =
      sym (own_whole who answered (ap is_quiet (sym (first_is m who (quiet ++ EcsContainer ∷ Ec2InstanceMetadata ∷ []) rest order)) ∙ all.0))
  asked_by_others (m ∷ quiet) all (p ∷ passed) who rest answered order lost =
      let behind_it : List Member = quiet ++ EcsContainer ∷ Ec2InstanceMetadata ∷ [] in
      let same : m ≡ p.who = first_is m p.who behind_it (members_in passed ++ who ∷ rest) order in
      let nothing = asks_nothing p.who p.found p.part (ap is_quiet (sym same) ∙ all.0) lost.0.line in
      asked_by_others quiet all.1 passed who rest answered (rest_is m p.who behind_it (members_in passed ++ who ∷ rest) order) lost.1
      ∙ ap (λ (x : List Pair). own_part env who ((x ++ parts_in passed) ++ answered)) (sym nothing)

  abbrev quiet : List Member
  quiet = Environment ∷ Profile ∷ WebIdentityToken ∷ []

  all_quiet : AllByRecursion (λ m. is_quiet m ≡ true) quiet
  all_quiet = (refl, (refl, (refl, tt)))

  -- a member's answer ended the call
  ended_by : (found : List Value) (journal : List Pair) (out : Answer) → IsAnsweredBy s default_members found journal out → AreReasonsOf over found journal out (reasons_of over out)
  ended_by found journal out a =
      let none : why_passed_over over out a.who ≡ None = answers a.who a.found_there a.answered out a.answers a.loaded in
      let clear : a.who ∷ a.not_asked ≡ Ec2InstanceMetadata ∷ [] → is_token_answer out ≡ false =
      λ last. metadata_is_no_token s a.found_there a.answered out (subst (λ m. IsPart s m a.found_there a.answered out) (first_is a.who Ec2InstanceMetadata a.not_asked [] last) a.answers) in
      let why = passed_over_by out quiet all_quiet a.passed_over (a.who ∷ a.not_asked) a.order a.not_loaded clear
      (λ nothing. absurd (none_there [] a.who a.not_asked (sym nothing))) (λ nothing u there is. absurd (none_there [] a.who a.not_asked (sym nothing))) in
      let told : reasons_of over out ≡ record { passed_over = map told_of a.passed_over; answered = Some a.who } =
      ap (reasons_among over out) a.order
      ∙ behind_passed out a.passed_over (a.who ∷ a.not_asked) why
      ∙ ap (λ w. behind (map told_of a.passed_over) (reasons_from a.who w (reasons_among over out a.not_asked))) none
      ∙ ap (λ (ps : List PassedOver). record { passed_over = ps; answered = Some a.who }) (append-nil (map told_of a.passed_over)) in
      let asked = asked_by_others quiet all_quiet a.passed_over a.who a.not_asked a.answered a.order a.not_loaded in
      subst (AreReasonsOf over found journal out) (sym told) (record {
        services = services;
        names = names;
        call = a;
        passed_over = refl;
        answered = refl;
        part = asked ∙ ap (own_part env a.who) (sym a.asks);
      })

  -- no member was loaded
  ended_by_none : (found : List Value) (journal : List Pair) (out : Answer) → IsAnsweredByNone s default_members found journal out → AreReasonsOf over found journal out (reasons_of over out)
  ended_by_none found journal out n =
      let clear = none_loaded_is_no_token out (map attempt_of n.passed_over) n.tells in
      let order : default_members ≡ members_in n.passed_over ++ [] = n.order ∙ sym (append-nil (members_in n.passed_over)) in
      let why = passed_over_by out quiet all_quiet n.passed_over [] order n.not_loaded (λ h. clear) (λ h. clear)
      (λ nothing u there is. last_is_told out n.passed_over u n.order n.tells there is) in
      let told : reasons_of over out ≡ record { passed_over = map told_of n.passed_over; answered = None } =
      ap (reasons_among over out) order
      ∙ behind_passed out n.passed_over [] why
      ∙ ap (λ (ps : List PassedOver). record { passed_over = ps; answered = None }) (append-nil (map told_of n.passed_over)) in
      subst (AreReasonsOf over found journal out) (sym told) (record { services = services; names = names; call = n; passed_over = refl })

reasons_by : (over : ChainSetting) (found : List Value) (journal : List Pair) (out : Answer) (b : Bool) → is_not_loaded_answer out ≡ b → TellsWho over found [] journal out →
    AreReasonsOf over found journal out (reasons_of over out)
reasons_by over found journal out true is t =
    ended_by_none over t.services t.names found journal out (subst (λ j. IsAnsweredByNone (setting over t.services) default_members found j out) (sym t.grows) (t.by_none is))
reasons_by over found journal out false is t =
    ended_by over t.services t.names found journal out (subst (λ j. IsAnsweredBy (setting over t.services) default_members found j out) (sym t.grows) (t.by_one is))

pub reasons_of_call : (over : ChainSetting) (old new : States) (found : List Value) (journal : List Pair) (out : Answer) →
    IsCall over old new found journal out → AreReasonsOf over found journal out (reasons_of over out)
reasons_of_call over old new found journal out call =
    reasons_by over found journal out (is_not_loaded_answer out) refl (call_tells over found [] journal journal out refl (found_call over old new found journal out call))
