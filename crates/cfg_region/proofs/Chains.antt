-- The parts of a chain are those of its tree.
use Rattle.std.proofs.Common.{◌≡◌, List, [], ◌∷◌, ◌++◌, inl, inr, Option, Some, None, refl, sym, ap, ◌∙◌, subst, append-nil}
use Rattle.cfg_world.specs.Fits.{Pair}
use Rattle.cfg_world.specs.Inquiry.{Inquiry, Done, Reads, Begun, after}
use Rattle.cfg_world.specs.declared.script.DeviceLists.{DeviceLists}
use Rattle.cfg_world.specs.Script.{Place, Given}
use Rattle.cfg_world.specs.Agreeing.{AnswerAlike}
use Rattle.cfg_world.proofs.Agreeing.{one_journal, given_alike}
use Rattle.cfg_world.proofs.Beginnings.{begun_splits, begun_joins}
use Rattle.cfg_world.proofs.Inquiries.{reads_after, split_after}
use Rattle.cfg_exchange.proofs.Checks.{read_begun}
use Rattle.cfg_region.specs.Chains.{or_others, first_given}
use Rattle.cfg_region.specs.ChainParts.{AreParts, NoneGives, AreBegunParts}

whole : (journal part rest : List Pair) → journal ≡ part ++ rest → rest ≡ [] → part ≡ journal
whole journal part rest e n = sym (append-nil part) ∙ ap (λ t. part ++ t) (sym n) ∙ sym e

module _ {R : Type 0} where
  abbrev others : List (Inquiry (Option R)) → Option R → Inquiry (Option R)
  others trees = or_others (first_given trees)

  -- an inquiry that is done has no more journal
  done_here : (value out : Option R) (rest : List Pair) → Reads (Done value) rest out → (rest ≡ []) × (value ≡ out)
  done_here value out [] h = (refl, h)
  done_here value out (e ∷ rest) h = absurd h

  done_begun : (value : Option R) (rest : List Pair) → Begun (Done value) rest → rest ≡ []
  done_begun value [] h = refl
  done_begun value (e ∷ rest) h = absurd h

  pub chain_parts : (trees : List (Inquiry (Option R))) (journal : List Pair) (out : Option R) → Reads (first_given trees) journal out → AreParts trees journal out
  unfolding first_given
  chain_parts [] journal out h = let d = done_here None out journal h in (d.0, sym d.1)
  chain_parts (tree ∷ trees) journal out h =
      let s = split_after tree (others trees) journal out h in
      elim s.middle as (λ m. Reads tree s.part m → Reads (others trees m) s.rest out → AreParts (tree ∷ trees) journal out) [
        | Some value ↦ λ r t.
            let d = done_here (Some value) out s.rest t in
            inl (value, sym d.1, subst (λ j. Reads tree j (Some value)) (whole journal s.part s.rest s.parts d.0) r)
        | None ↦ λ r t. inr (s.part, s.rest, s.parts, r, chain_parts trees s.rest out t)
      ] s.first s.then

  pub parts_chain : (trees : List (Inquiry (Option R))) (journal : List Pair) (out : Option R) → AreParts trees journal out → Reads (first_given trees) journal out
  unfolding first_given
  parts_chain [] journal out h = subst (λ j. Reads (Done None) j out) (sym h.0) (sym h.1)
  parts_chain (tree ∷ trees) journal out (inl a) =
      let r : Reads (after tree (others trees)) (journal ++ []) (Some a.0) = reads_after tree (others trees) journal [] (Some a.0) (Some a.0) a.2 refl in
      let s : Reads (after tree (others trees)) journal (Some a.0) = subst (λ j. Reads (after tree (others trees)) j (Some a.0)) (append-nil journal) r in
      subst (λ o. Reads (after tree (others trees)) journal o) (sym a.1) s
  parts_chain (tree ∷ trees) journal out (inr b) =
      subst (λ j. Reads (after tree (others trees)) j out) (sym b.2) (reads_after tree (others trees) b.0 b.1 None out b.3 (parts_chain trees b.1 out b.4))

  pub none_gives : (trees : List (Inquiry (Option R))) (journal : List Pair) → AreParts trees journal None → NoneGives trees journal
  none_gives [] journal h = h.0
  none_gives (tree ∷ trees) journal (inl a) = let e = a.1 in absurd cc
  none_gives (tree ∷ trees) journal (inr b) = (b.0, b.1, b.2, b.3, none_gives trees b.1 b.4)

  pub gives_none : (trees : List (Inquiry (Option R))) (journal : List Pair) → NoneGives trees journal → AreParts trees journal None
  gives_none [] journal h = (h, refl)
  gives_none (tree ∷ trees) journal b = inr (b.0, b.1, b.2, b.3, gives_none trees b.1 b.4)

  pub chain_begun : (trees : List (Inquiry (Option R))) (journal : List Pair) → Begun (first_given trees) journal → AreBegunParts trees journal
  unfolding first_given
  chain_begun [] journal h = done_begun None journal h
  chain_begun (tree ∷ trees) journal h = elim (begun_splits tree (others trees) journal h) [
    | inl b ↦ inl b
    | inr s ↦ elim s.2 as (λ m. Reads tree s.0 m → Begun (others trees m) s.1 → AreBegunParts (tree ∷ trees) journal) [
      | Some value ↦ λ r t.
          let n = done_begun (Some value) s.1 t in
          inl (subst (λ j. Begun tree j) (whole journal s.0 s.1 s.3 n) (read_begun tree s.0 (Some value) r))
      | None ↦ λ r t. inr (s.0, s.1, s.3, r, chain_begun trees s.1 t)
    ] s.4 s.5
  ]

  pub begun_chain : (trees : List (Inquiry (Option R))) (journal : List Pair) → AreBegunParts trees journal → Begun (first_given trees) journal
  unfolding first_given
  begun_chain [] journal h = let none : Inquiry (Option R) = Done None in subst (λ j. Begun none j) (sym h) tt
  begun_chain (tree ∷ trees) journal (inl b) = begun_joins tree (others trees) journal (inl b)
  begun_chain (tree ∷ trees) journal (inr b) = begun_joins tree (others trees) journal (inr (b.0, b.1, None, b.2, b.3, begun_chain trees b.1 b.4))

  -- over answers that agree a chain has one journal and one answer
  pub one_region : (trees : List (Inquiry (Option R))) (one other : List Pair) (x y : Option R) →
      AreParts trees one x → AreParts trees other y → AnswerAlike one other → (one ≡ other) × (x ≡ y)
  one_region trees one other x y a b alike = one_journal (first_given trees) one other x y (parts_chain trees one x a) (parts_chain trees other y b) alike

  pub one_region_told : (trees : List (Inquiry (Option R))) (lists : DeviceLists) (place : Place) (one other : List Pair) (x y : Option R) →
      AreParts trees one x → AreParts trees other y → Given lists place one → Given lists place other → (one ≡ other) × (x ≡ y)
  one_region_told trees lists place one other x y a b g h = one_region trees one other x y a b (given_alike lists place one other g h)
