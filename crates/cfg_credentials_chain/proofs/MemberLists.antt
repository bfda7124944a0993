-- Members as contracts see them.
use Rattle.std.proofs.Common.{◌≡◌, List, [], ◌∷◌, true, false, Option, Result, Ok, Err, map, refl, sym, ap, ◌∙◌, subst}
use Rattle.std.specs.Option.{option_or}
use Rattle.std.specs.Prelude.{IfOk}
use Rattle.std.proofs.lemmas.Simd.{map-map}
use Rattle.cfg_world.specs.declared.asking.Asking.{Ghosts as AskingGhosts}
use Rattle.cfg_world.specs.declared.asking.Stop.{Stop}
use Rattle.cfg_world.specs.declared.devices.Devices.{Ghosts}
use Rattle.cfg_world.specs.Held.{Held}
use Rattle.cfg_kept.specs.Kinds.{States}
use Rattle.cfg_meta.specs.AnswerRules.{is_memory_answer}
use Rattle.cfg_meta.specs.Fallbacks.{first_there}
use Rattle.cfg_meta.specs.FollowsMembers.{FollowsMembers}
use Rattle.cfg_meta.specs.MemberParts.{Keeping}
use Rattle.cfg_meta.specs.Provides.{ProvidesByMembers, InterruptedMembers}
use Rattle.cfg_meta.proofs.Mapped.{mapped_follows, mapped_provides, mapped_interrupted}
use Rattle.cfg_providers.specs.CustomSources.{Answer}
use Rattle.cfg_types.specs.Classes.{is_memory}
use Rattle.cfg_meta.specs.CredentialsAnswers.{credentials_rules}
use Rattle.cfg_credentials_chain.specs.Members.{NamedAsked, name_in, IsNamedTree}

-- an answer that says that memory ran out
pub memory_same : (out : Answer) → is_memory_answer credentials_rules out ≡ is_memory out
memory_same (Ok keys) = refl
memory_same (Err e) = refl

first_mapped : {L M V : Type 0} (f : L → M) (fallback : M → States → Option V) (items : List L) (kept : List States) → first_there (λ l. fallback (f l)) items kept ≡ first_there fallback (map f items) kept
first_mapped f fallback [] kept = refl
first_mapped f fallback (l ∷ items) [] = refl
first_mapped f fallback (l ∷ items) (s ∷ kept) = ap (λ rest. option_or (fallback (f l) s) rest) (first_mapped f fallback items kept)

module _ {L : Type 0} (f : L → NamedAsked) (items given : List L) (same : given ≡ items) (members : List NamedAsked) (are : map f items ≡ members) where
  one_by_one : {C : Type 0} (g : NamedAsked → C) → map g members ≡ map (λ l. g (f l)) given
  one_by_one g =
      ap (λ t. map g t) (sym are)
      ∙ map-map g f items
      ∙ ap (λ t. map (λ l. g (f l)) t) (sym same)

  -- what is said of members is said of what contracts see of them, and the other way round
  pub said_of : {C : Type 0} (g : NamedAsked → C) (list : List C) → list ≡ map g members → list ≡ map (λ l. g (f l)) given
  said_of g list h = h ∙ one_by_one g

  pub said_back : {C K E : Type 0} (g : NamedAsked → C) (view : K → List C) (r : Result K E) → IfOk r (λ k. view k ≡ map (λ l. g (f l)) given) → IfOk r (λ k. view k ≡ map g members)
  said_back g view (Ok k) h = h ∙ sym (one_by_one g)
  said_back g view (Err e) h = h

  -- the first value that is there
  first_same : {V : Type 0} (fallback : NamedAsked → States → Option V) (kept : List States) → first_there (λ l. fallback (f l)) given kept ≡ first_there fallback members kept
  first_same fallback kept =
      ap (λ t. first_there (λ l. fallback (f l)) t kept) same
      ∙ first_mapped f fallback items kept
      ∙ ap (λ t. first_there fallback t kept) are

  pub first_said : {V E : Type 0} (fallback : NamedAsked → States → Option V) (kept : List States) (r : Result (Option V) E) →
      IfOk r (λ v. v ≡ first_there (λ l. fallback (f l)) given kept) → IfOk r (λ v. v ≡ first_there fallback members kept)
  first_said fallback kept (Ok v) h = h ∙ first_same fallback kept
  first_said fallback kept (Err e) h = h

  module _ (olds news : List Keeping) where
    pub follows_said : {A : Type 0} (a : AskingGhosts A) (old new : A) (out : Result Answer Stop) →
        FollowsMembers a credentials_rules (λ l. name_in (f l)) (λ l. IsNamedTree (f l)) given olds news old new out →
        FollowsMembers a credentials_rules name_in IsNamedTree members olds news old new out
    follows_said a old new out h =
        subst (λ ms. FollowsMembers a credentials_rules name_in IsNamedTree ms olds news old new out) are
        (mapped_follows credentials_rules f name_in IsNamedTree a items olds news old new out
        (subst (λ ms. FollowsMembers a credentials_rules (λ l. name_in (f l)) (λ l. IsNamedTree (f l)) ms olds news old new out) same h))

    module _ {D : Type 0} (d : Ghosts D) (before later : Held D) (out : Answer) where
      pub provides_said : (is_memory_answer credentials_rules out ≡ false → ProvidesByMembers d credentials_rules (λ l. name_in (f l)) (λ l. IsNamedTree (f l)) given olds news before later out) →
          is_memory out ≡ false → ProvidesByMembers d credentials_rules name_in IsNamedTree members olds news before later out
      provides_said h other =
          subst (λ ms. ProvidesByMembers d credentials_rules name_in IsNamedTree ms olds news before later out) are
          (mapped_provides credentials_rules f name_in IsNamedTree d items olds news before later out
          (subst (λ ms. ProvidesByMembers d credentials_rules (λ l. name_in (f l)) (λ l. IsNamedTree (f l)) ms olds news before later out) same (h (memory_same out ∙ other))))

      pub interrupted_said : (is_memory_answer credentials_rules out ≡ true → InterruptedMembers d credentials_rules (λ l. name_in (f l)) (λ l. IsNamedTree (f l)) given olds news before later) →
          is_memory out ≡ true → InterruptedMembers d credentials_rules name_in IsNamedTree members olds news before later
      interrupted_said h no_memory =
          subst (λ ms. InterruptedMembers d credentials_rules name_in IsNamedTree ms olds news before later) are
          (mapped_interrupted credentials_rules f name_in IsNamedTree d items olds news before later
          (subst (λ ms. InterruptedMembers d credentials_rules (λ l. name_in (f l)) (λ l. IsNamedTree (f l)) ms olds news before later) same (h (memory_same out ∙ no_memory))))
