-- Which member asks is decided by what was asked.
use Rattle.std.proofs.Common.{◌≡◌, List, [], ◌∷◌, ◌++◌, Option, Some, IsSome, inl, inr, refl, sym, ◌∙◌, ap, subst, append-nil}
use Rattle.std.proofs.lemmas.List.{append_cancel_left}
use Rattle.cfg_world.specs.declared.ask.Question.{Question}
use Rattle.cfg_world.specs.Agreeing.{AnswerAlike}
use Rattle.cfg_world.specs.Fits.{Pair}
use Rattle.cfg_kept.specs.Chains.{Chain}
use Rattle.cfg_kept.specs.Kinds.{Value, States}
use Rattle.cfg_kept.specs.KeptInquiry.{KeptInquiry, Runs, Asks, kept_after}
use Rattle.cfg_kept.proofs.Agreeing.{one_run}
use Rattle.cfg_kept.proofs.Beginnings.{begins_whole, next_no_end}
use Rattle.cfg_kept.proofs.Told.{told}
use Rattle.cfg_chain.specs.Askers.{IsAskedBy}
use Rattle.cfg_chain.specs.Members.{credentials_chain, default_members}
use Rattle.cfg_chain.specs.Settings.{ChainSetting, setting}
use Rattle.cfg_chain.specs.declared.member.Member.{Member}
use Rattle.cfg_chain.proofs.Calls.{one_answer}
use Rattle.cfg_run.specs.Runs.{IsWaitingCall}
use Rattle.cfg_run.proofs.TreeSteps.{asks_begins, alike_front, nothing_behind}

head_is : {A : Type 0} {x y : A} {xs ys : List A} → x ∷ xs ≡ y ∷ ys → x ≡ y
head_is e = cc

tail_is : {A : Type 0} {x y : A} {xs ys : List A} → x ∷ xs ≡ y ∷ ys → xs ≡ ys
tail_is e = cc

-- two beginnings of one journal have answers that agree
alike_parts : (one behind other rest : List Pair) → one ++ behind ≡ other ++ rest → AnswerAlike one other
alike_parts [] behind other rest h = tt
alike_parts (e ∷ one) behind [] rest h = tt
alike_parts (e ∷ one) behind (f ∷ other) rest h = λ asks. (ap (λ (p : Pair). p.1) (head_is h), alike_parts one behind other rest (tail_is h))

-- a tree that came to its end over the first part of a journal asks nothing behind the whole
asks_no_run : {R : Type 0} (p : KeptInquiry R) (old : States) (found more : List Value) (part rest : List Pair) (q : Question) (x : R) (new newer : Option States) →
    Asks p (Some old) found (part ++ rest) q new → Runs p (Some old) more part x newer → ⊥
asks_no_run p old found more part rest q x new newer h k =
    let on = begins_whole p old found more (part ++ rest) part x new newer (asks_begins p (Some old) new found (part ++ rest) q h) k (alike_front part rest) in
    let none = nothing_behind part rest on.asks.0 on.asks.1 in
    next_no_end p old found more part q x new newer (subst (λ j. Asks p (Some old) found j q new) (ap (λ t. part ++ t) none ∙ append-nil part) h) k

module _ {M V E : Type 0} (c : Chain M V E) where
  -- some member asks
  pub asked_by_some : (members : List M) (old : Option States) (found : List Value) (journal : List Pair) (who : Option M) (q : Question) (new : Option States) → IsAskedBy c members old found journal who q new → IsSome who
  asked_by_some [] old found journal who q new h = absurd h
  asked_by_some (member ∷ members) old found journal who q new (inl h) = asked_by_some members h.4 h.1 h.3 who q new h.11
  asked_by_some (member ∷ members) old found journal who q new (inr h) = subst IsSome (sym h.0) refl

  -- and it is one
  pub one_asker : (members : List M) (old : States) (found more : List Value) (journal : List Pair) (who whom : Option M) (q r : Question) (new newer : Option States) →
      IsAskedBy c members (Some old) found journal who q new → IsAskedBy c members (Some old) more journal whom r newer → who ≡ whom
  one_asker [] old found more journal who whom q r new newer h k = absurd h
  one_asker (member ∷ members) old found more journal who whom q r new newer (inl h) (inl k) =
      let p = c.tree member in
      let one = one_run p old h.0 k.0 h.2 k.2 h.5 k.5 h.4 k.4 h.9 k.9 (alike_parts h.2 h.3 k.2 k.3 (sym h.8 ∙ k.8)) in
      let rest : h.3 ≡ k.3 = append_cancel_left h.2 h.3 k.3 (sym h.8 ∙ k.8 ∙ ap (λ t. t ++ k.3) (sym one.0)) in
      let left = told p old h.4 h.0 h.2 h.5 h.9 in
      one_asker members (kept_after p old h.2) h.1 k.1 h.3 who whom q r new newer
      (subst (λ s. IsAskedBy c members s h.1 h.3 who q new) left.1 h.11)
      (subst (λ s. IsAskedBy c members s k.1 h.3 whom r newer) (sym one.3 ∙ left.1) (subst (λ j. IsAskedBy c members k.4 k.1 j whom r newer) (sym rest) k.11))
  one_asker (member ∷ members) old found more journal who whom q r new newer (inl h) (inr k) =
      absurd (asks_no_run (c.tree member) old more h.0 h.2 h.3 r h.5 newer h.4 (subst (λ j. Asks (c.tree member) (Some old) more j r newer) h.8 k.1) h.9)
  one_asker (member ∷ members) old found more journal who whom q r new newer (inr h) (inl k) =
      absurd (asks_no_run (c.tree member) old found k.0 k.2 k.3 q k.5 new k.4 (subst (λ j. Asks (c.tree member) (Some old) found j q new) k.8 h.1) k.9)
  one_asker (member ∷ members) old found more journal who whom q r new newer (inr h) (inr k) = h.0 ∙ sym k.0

-- of a call too
pub one_member : (over : ChainSetting) (old new newer : States) (found more : List Value) (part : List Pair) (q r : Question) (member other : Option Member) →
    IsWaitingCall over old new found part q member → IsWaitingCall over old newer more part r other → member ≡ other
one_member over old new newer found more part q r member other a b =
    let c = credentials_chain (setting over a.services) in
    one_asker c default_members old found more part member other q r (Some new) (Some newer) a.asker
    (subst (λ t. IsAskedBy (credentials_chain (setting over t)) default_members (Some old) more part other r (Some newer)) (one_answer over b.services a.services b.names a.names) b.asker)
