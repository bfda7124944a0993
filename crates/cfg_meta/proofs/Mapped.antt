-- What holds of members holds of what contracts see of them.
use Rattle.std.proofs.Common.{ℕ, List, [], ◌∷◌, ◌++◌, Option, Some, None, IfSome, Result, Ok, Err, inl, inr, map}
use Rattle.cfg_types.specs.declared.errors.ProviderAttempt.{ProviderAttempt}
use Rattle.cfg_world.specs.declared.ask.Question.{Question}
use Rattle.cfg_world.specs.declared.asking.Asking.{Ghosts as AskingGhosts}
use Rattle.cfg_world.specs.declared.asking.Stop.{Stop}
use Rattle.cfg_world.specs.declared.asking.Stop.TheVariants.{OutOfMemory, Open}
use Rattle.cfg_world.specs.declared.devices.Devices.{Ghosts}
use Rattle.cfg_world.specs.Fits.{Pair}
use Rattle.cfg_world.specs.Held.{Held}
use Rattle.cfg_kept.specs.KeptInquiry.{KeptInquiry}
use Rattle.cfg_meta.specs.AnswerRules.{AnswerRules, attempt_of}
use Rattle.cfg_meta.specs.MemberParts.{Keeping, GoesThrough, AskNext}
use Rattle.cfg_meta.specs.FollowsMembers.{FollowsMembers, MembersEnd, MembersHalt}
use Rattle.cfg_meta.specs.Provides.{ProvidesByMembers, InterruptedMembers}

module _ {L M V E : Type 0} (rules : AnswerRules E) (f : L → M) (name_of : M → List ℕ) (is_tree : M → KeptInquiry (Result V E) → Type 0) where
  mapped_through : (at_member : M → Keeping → Keeping → List Pair → Type 0) (at_end : List (ProviderAttempt E) → Type 0) (members : List L) (attempts : List (ProviderAttempt E)) (olds news : List Keeping) (part : List Pair) →
      GoesThrough rules (λ l. name_of (f l)) (λ l. is_tree (f l)) (λ l. at_member (f l)) at_end members attempts olds news part → GoesThrough rules name_of is_tree at_member at_end (map f members) attempts olds news part
  mapped_through at_member at_end [] attempts olds news part h = h
  mapped_through at_member at_end (l ∷ members) attempts [] news part h = absurd h
  mapped_through at_member at_end (l ∷ members) attempts (old ∷ olds) [] part h = absurd h
  mapped_through at_member at_end (l ∷ members) attempts (old ∷ olds) (new ∷ news) part (inl h) =
      inl (h.0, h.1, h.2, h.3, h.4, h.5, h.6, mapped_through at_member at_end members (attempts ++ attempt_of (name_of (f l)) h.3 ∷ []) olds news h.1 h.7)
  mapped_through at_member at_end (l ∷ members) attempts (old ∷ olds) (new ∷ news) part (inr h) = inr h

  module _ {A : Type 0} (a : AskingGhosts A) (members : List L) (olds news : List Keeping) (old new : A) where
    mapped_next : (part : List Pair) (left : Option Question) → IfSome left (λ q. AskNext rules (λ l. name_of (f l)) (λ l. is_tree (f l)) members olds news part q) → IfSome left (λ q. AskNext rules name_of is_tree (map f members) olds news part q)
    mapped_next part None h = h
    mapped_next part (Some q) h = mapped_through _ _ members [] olds news part h

    mapped_end : (out : Result V E) → MembersEnd a rules (λ l. name_of (f l)) (λ l. is_tree (f l)) members olds news old new out → MembersEnd a rules name_of is_tree (map f members) olds news old new out
    mapped_end out h = record { part = h.part; grew = h.grew; stands = h.stands; parts = mapped_through _ _ members [] olds news h.part h.parts }

    mapped_halt : (stop : Stop) → MembersHalt a rules (λ l. name_of (f l)) (λ l. is_tree (f l)) members olds news old new stop → MembersHalt a rules name_of is_tree (map f members) olds news old new stop
    mapped_halt Open h = record { part = h.part; grew = h.grew; stands = h.stands; asks = mapped_next h.part (a.open_question new) h.asks; is_open = h.is_open }
    mapped_halt OutOfMemory h = record { part = h.part; grew = h.grew; begun = mapped_through _ _ members [] olds news h.part h.begun }

    pub mapped_follows : (out : Result (Result V E) Stop) → FollowsMembers a rules (λ l. name_of (f l)) (λ l. is_tree (f l)) members olds news old new out → FollowsMembers a rules name_of is_tree (map f members) olds news old new out
    mapped_follows (Ok out) h = mapped_end out h
    mapped_follows (Err stop) h = mapped_halt stop h

  module _ {D : Type 0} (d : Ghosts D) (members : List L) (olds news : List Keeping) (before later : Held D) where
    pub mapped_provides : (out : Result V E) → ProvidesByMembers d rules (λ l. name_of (f l)) (λ l. is_tree (f l)) members olds news before later out → ProvidesByMembers d rules name_of is_tree (map f members) olds news before later out
    mapped_provides out h = record { part = h.part; grows = h.grows; parts = mapped_through _ _ members [] olds news h.part h.parts }

    pub mapped_interrupted : InterruptedMembers d rules (λ l. name_of (f l)) (λ l. is_tree (f l)) members olds news before later → InterruptedMembers d rules name_of is_tree (map f members) olds news before later
    mapped_interrupted h = record { part = h.part; stays = h.stays; begun = mapped_through _ _ members [] olds news h.part h.begun }
