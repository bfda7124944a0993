-- Which member of a chain asks: what is left of the members after each one.
use Rattle.std.proofs.Common.{◌≡◌, ℕ, ◌+◌, ◌<◌, List, ◌∷◌, ◌++◌, Option, Some, None, IfSome, Result, Err, inl, inr, get_or, drop, length, refl, sym, ◌∙◌, ap, subst, add-one, append_assoc}
use Rattle.std.proofs.Math.Seq.{drop-cons}
use Rattle.cfg_world.specs.declared.ask.Question.{Question}
use Rattle.cfg_world.specs.declared.asking.Asking.{Ghosts}
use Rattle.cfg_world.specs.declared.asking.Stop.{Stop}
use Rattle.cfg_world.specs.declared.asking.Stop.TheVariants.{Open, OutOfMemory}
use Rattle.cfg_kept.specs.Chains.{Chain, passed}
use Rattle.cfg_kept.specs.Holds.{Holdings, HoldsEnds, HoldsWaits, HoldsHalts}
use Rattle.cfg_chain.specs.Askers.{MemberAsks, OnOpen}

-- more of a question that is shown
if_more : {P Q : Question → Type 0} → ((q : Question) → P q → Q q) → (shown : Option Question) → IfSome shown P → IfSome shown Q
if_more more None h = h
if_more more (Some q) h = more q h

module _ {M V E W : Type 0} (w : Ghosts W) (c : Chain M V E) (members : List M) (old : W) (before : Holdings) where
  -- The members led from old to mid, and others are left: what these ask, all of them ask.
  pub record AskerLeads (mid : W) (between : Holdings) (left : List M) : Type 0 where
    pub asks : (new : W) (later : Holdings) (who : Option M) → MemberAsks c w left mid between new later who → MemberAsks c w members old before new later who

module _ {M V E W : Type 0} {w : Ghosts W} (c : Chain M V E) where
  -- behind a member that was passed over
  behind : {mid new last : W} {between later final : Holdings} {r : Result V E} (member : M) (left : List M) (e : E) (who : Option M) → HoldsEnds w (c.tree member) mid between new later r → passed c r ≡ Some e →
      MemberAsks c w left new later last final who → MemberAsks c w (member ∷ left) mid between last final who
  behind {mid = mid} {last = last} {between = between} {later = later} {r = r} member left e who a is b = record {
    part = a.part ++ b.part;
    grows = b.grows ∙ ap (λ t. t ++ b.part) a.grows ∙ append_assoc (w.journal mid) a.part b.part;
    found = a.found ++ b.found;
    finds = b.finds ∙ ap (λ t. t ++ b.found) a.finds ∙ append_assoc between.found a.found b.found;
    asks = if_more (λ q h. inl (a.found, b.found, a.part, b.part, later.kept, r, e, refl, refl, a.runs, is, h)) (w.open_question last) b.asks;
  }

  here : {mid new : W} {between later : Holdings} (member : M) (left : List M) → HoldsWaits w (c.tree member) mid between new later → MemberAsks c w (member ∷ left) mid between new later (Some member)
  here {new = new} member left h = record {
    part = h.part;
    grows = h.grows;
    found = h.found;
    finds = h.finds;
    asks = if_more (λ q k. inr (refl, k)) (w.open_question new) h.asks;
  }

drop_is : {M : Type 0} (members : List M) (i : ℕ) (d : M) → i < length members → drop i members ≡ get_or members i d ∷ drop (i + 1) members
drop_is members i d lt = rw (add-one, drop-cons members i d lt) refl

module _ {M V E W : Type 0} {w : Ghosts W} (c : Chain M V E) (members : List M) {old : W} {before : Holdings} where
  pub asker_start : AskerLeads w c members old before old before members
  asker_start = record { asks = λ new later who h. h }

  at_asker : {mid : W} {between : Holdings} (i : ℕ) (d : M) → AskerLeads w c members old before mid between (drop i members) → i < length members →
      AskerLeads w c members old before mid between (get_or members i d ∷ drop (i + 1) members)
  at_asker {mid = mid} {between = between} i d leads lt = subst (λ left. AskerLeads w c members old before mid between left) (drop_is members i d lt) leads

  -- a member was passed over
  pub asker_passed : {mid new : W} {between later : Holdings} (i : ℕ) (d : M) {r : Result V E} (e : E) → AskerLeads w c members old before mid between (drop i members) → i < length members →
      HoldsEnds w (c.tree (get_or members i d)) mid between new later r → passed c r ≡ Some e → AskerLeads w c members old before new later (drop (i + 1) members)
  asker_passed i d e leads lt ends is =
      let at = at_asker i d leads lt in
      record { asks = λ last final who h. at.asks last final who (behind c (get_or members i d) (drop (i + 1) members) e who ends is h) }

  -- its question is open, or memory ran out in it
  pub asker_halts : {mid : W} {between : Holdings} (i : ℕ) (d : M) (new : W) (later : Holdings) (stop : Stop) (who : Option M) → AskerLeads w c members old before mid between (drop i members) → i < length members →
      HoldsHalts w (c.tree (get_or members i d)) mid between new later stop → who ≡ Some (get_or members i d) → OnOpen {R = Unit {0}} (Err stop) (MemberAsks c w members old before new later who)
  asker_halts i d new later Open who leads lt h is =
      subst (λ x. MemberAsks c w members old before new later x) (sym is) ((at_asker i d leads lt).asks new later (Some (get_or members i d)) (here c (get_or members i d) (drop (i + 1) members) h))
  asker_halts i d new later OutOfMemory who leads lt h is = tt
