-- Members as contracts see them.
use Rattle.std.proofs.Common.{◌≡◌, List, true, false, Result, Ok, Err, map, refl, sym, ap, ◌∙◌, subst}
use Rattle.std.specs.Prelude.{IfOk}
use Rattle.std.proofs.lemmas.Simd.{map-map}
use Rattle.cfg_world.specs.declared.asking.Asking.{Ghosts as AskingGhosts}
use Rattle.cfg_world.specs.declared.asking.Stop.{Stop}
use Rattle.cfg_world.specs.declared.devices.Devices.{Ghosts}
use Rattle.cfg_world.specs.Held.{Held}
use Rattle.cfg_meta.specs.AnswerRules.{is_memory_answer}
use Rattle.cfg_meta.specs.FollowsMembers.{FollowsMembers}
use Rattle.cfg_meta.specs.MemberParts.{Keeping}
use Rattle.cfg_meta.specs.Provides.{ProvidesByMembers, InterruptedMembers}
use Rattle.cfg_meta.proofs.Mapped.{mapped_follows, mapped_provides, mapped_interrupted}
use Rattle.cfg_sso.specs.BearerTokens.{Bearer, is_memory}
use Rattle.cfg_token_chain.specs.Members.{NamedAsked, name_in, IsTokenTree}
use Rattle.cfg_token_chain.specs.Provides.{ProvidesTokens, InterruptedTokens}
use Rattle.cfg_meta.specs.TokenAnswers.{token_rules}

-- an answer that says that memory ran out
memory_same : (out : Bearer) → is_memory_answer token_rules out ≡ is_memory out
memory_same (Ok token) = refl
memory_same (Err e) = refl

module _ {L B C : Type 0} (g : B → C) (f : L → B) (items lent : List L) (same : lent ≡ items) where
  one_by_one : map g (map f items) ≡ map (λ x. g (f x)) lent
  one_by_one = map-map g f items ∙ ap (λ l. map (λ x. g (f x)) l) (sym same)

  -- what is said of members is said of what contracts see of them, and the other way round
  pub said_lent : (list : List C) → list ≡ map g (map f items) → list ≡ map (λ x. g (f x)) lent
  said_lent list h = h ∙ one_by_one

  pub said_back : {K E : Type 0} (view : K → List C) (given : Result K E) → IfOk given (λ k. view k ≡ map (λ x. g (f x)) lent) → IfOk given (λ k. view k ≡ map g (map f items))
  said_back view (Ok k) h = h ∙ sym one_by_one
  said_back view (Err e) h = h

module _ {L : Type 0} (f : L → NamedAsked) (items lent : List L) (same : lent ≡ items) (olds news : List Keeping) where
  pub follows_said : {A : Type 0} (a : AskingGhosts A) (old new : A) (out : Result Bearer Stop) →
      FollowsMembers a token_rules (λ l. name_in (f l)) (λ l. IsTokenTree (f l)) lent olds news old new out → FollowsMembers a token_rules name_in IsTokenTree (map f items) olds news old new out
  follows_said a old new out h =
      mapped_follows token_rules f name_in IsTokenTree a items olds news old new out (subst (λ ms. FollowsMembers a token_rules (λ l. name_in (f l)) (λ l. IsTokenTree (f l)) ms olds news old new out) same h)

  module _ {D : Type 0} (d : Ghosts D) (before later : Held D) (out : Bearer) where
    pub provides_said : (is_memory_answer token_rules out ≡ false → ProvidesByMembers d token_rules (λ l. name_in (f l)) (λ l. IsTokenTree (f l)) lent olds news before later out) →
        is_memory out ≡ false → ProvidesTokens d (map f items) olds news before later out
    provides_said h other =
        mapped_provides token_rules f name_in IsTokenTree d items olds news before later out (subst (λ ms. ProvidesByMembers d token_rules (λ l. name_in (f l)) (λ l. IsTokenTree (f l)) ms olds news before later out) same (h (memory_same out ∙ other)))

    pub interrupted_said : (is_memory_answer token_rules out ≡ true → InterruptedMembers d token_rules (λ l. name_in (f l)) (λ l. IsTokenTree (f l)) lent olds news before later) →
        is_memory out ≡ true → InterruptedTokens d (map f items) olds news before later
    interrupted_said h no_memory =
        mapped_interrupted token_rules f name_in IsTokenTree d items olds news before later (subst (λ ms. InterruptedMembers d token_rules (λ l. name_in (f l)) (λ l. IsTokenTree (f l)) ms olds news before later) same (h (memory_same out ∙ no_memory)))
