-- What a chain that has begun is a prefix of, and what it asks next.
use Rattle.std.proofs.Common.{◌≡◌, List, [], ◌∷◌, ◌++◌, ◌⊎◌, inl, inr, Option, refl, sym, ◌∙◌}
use Rattle.cfg_world.specs.declared.ask.Question.{Question}
use Rattle.cfg_world.specs.Agreeing.{AnswerAlike}
use Rattle.cfg_world.specs.Beginnings.{IsPrefix}
use Rattle.cfg_world.specs.Fits.{Pair}
use Rattle.cfg_world.specs.Inquiry.{Inquiry, Done, Ask, Reads, Begun, AsksNext}
use Rattle.cfg_world.proofs.Beginnings.{begins_whole, read_begins}
use Rattle.cfg_region.specs.Chains.{first_given}
use Rattle.cfg_region.specs.ChainParts.{AreParts, AreBegunParts}
use Rattle.cfg_region.specs.BegunChains.{HasEnded, AsksOne}
use Rattle.cfg_region.proofs.Chains.{chain_parts, parts_chain, chain_begun, begun_chain}

-- ---- inquiries

-- a journal that has begun is whole, or a question is next
whole_or_next : {R : Type 0} (p : Inquiry R) (journal : List Pair) → Begun p journal → ((out : R) × Reads p journal out) ⊎ ((question : Question) × AsksNext p journal question)
whole_or_next (Done r) [] h = inl (r, refl)
whole_or_next (Done r) (e ∷ journal) h = absurd h
whole_or_next (Ask q next) [] h = inr (q, refl)
whole_or_next (Ask q next) (e ∷ journal) h = elim (whole_or_next (next e.1) journal h.1) [
  | inl r ↦ inl (r.0, (h.0, r.1))
  | inr r ↦ inr (r.0, (h.0, r.1))
]

-- there is one question
one_next : {R : Type 0} (p : Inquiry R) (journal : List Pair) (q r : Question) → AsksNext p journal q → AsksNext p journal r → q ≡ r
one_next (Done x) journal q r h k = absurd h
one_next (Ask s next) [] q r h k = sym h ∙ k
one_next (Ask s next) (e ∷ journal) q r h k = one_next (next e.1) journal q r h.1 k.1

-- and no end
next_no_end : {R : Type 0} (p : Inquiry R) (journal : List Pair) (q : Question) (x : R) → AsksNext p journal q → Reads p journal x → ⊥
next_no_end (Done r) journal q x h k = absurd h
next_no_end (Ask s next) [] q x h k = absurd k
next_no_end (Ask s next) (e ∷ journal) q x h k = next_no_end (next e.1) journal q x h.1 k.1

-- ---- chains

module _ {R : Type 0} (trees : List (Inquiry (Option R))) where
  pub begins_chain : (one other : List Pair) (x : Option R) → AreBegunParts trees one → AreParts trees other x → AnswerAlike one other → IsPrefix one other
  begins_chain one other x b p alike = begins_whole (first_given trees) one other x (begun_chain trees one b) (parts_chain trees other x p) alike

  pub prefix_begins : (one rest : List Pair) (x : Option R) → AreParts trees (one ++ rest) x → AreBegunParts trees one
  prefix_begins one rest x p = chain_begun trees one (read_begins (first_given trees) one rest x (parts_chain trees (one ++ rest) x p))

  asks_one : (journal : List Pair) (question : Question) → AsksNext (first_given trees) journal question → AsksOne trees journal
  asks_one journal question h = record {
    question = question;
    asked = h;
    alone = λ other k. one_next (first_given trees) journal other question k h;
    unfinished = λ e. next_no_end (first_given trees) journal question e.0 h (parts_chain trees journal e.0 e.1);
  }

  pub ended_or_one : (journal : List Pair) → AreBegunParts trees journal → HasEnded trees journal ⊎ AsksOne trees journal
  ended_or_one journal b = elim (whole_or_next (first_given trees) journal (begun_chain trees journal b)) [
    | inl r ↦ inl (r.0, chain_parts trees journal r.0 r.1)
    | inr r ↦ inr (asks_one journal r.0 r.1)
  ]
