-- The tree of attempts, judged as a finished piece.
use Rattle.std.proofs.Common.{◌≡◌, ℕ, zero, suc, ◌+◌, ◌<◌, Bool, true, false, List, [], ◌∷◌, ◌++◌, length, ◌⊎◌, inl, inr, refl, sym, ◌∙◌, ap, subst, arith}
use Rattle.std.specs.Prelude.{if◌then◌else◌}
use Rattle.std.specs.List.{AllByRecursion}
use Rattle.cfg_world.specs.declared.ask.Question.{Question}
use Rattle.cfg_world.specs.declared.ask.Answer.{Answer}
use Rattle.cfg_world.specs.Fits.{Pair}
use Rattle.cfg_world.specs.Inquiry.{Done, Reads}
use Rattle.cfg_exchange.specs.Attempts.{asked, attempts, Attempts}

same_answer : (q : Question) (e : Pair) (last : Pair) → e.0 ≡ q → (q, e.1) ≡ last → e ≡ last
same_answer q e last w h = ap (λ x. (x, e.1)) w ∙ h

one_more : (more : ℕ) (q : Question) (repeats : Answer → Bool) (e : Pair) (part : List Pair) (last : Pair) (b : Bool) → e.0 ≡ q → repeats e.1 ≡ b →
    (Reads (attempts more q repeats) part last → Attempts q (suc more) repeats part last) →
    Reads (if b then attempts more q repeats else Done (q, e.1)) part last → Attempts q (suc (suc more)) repeats (e ∷ part) last
one_more more q repeats e part last true w t others h = let r = others h in record {
  before = e ∷ r.before;
  parts = ap (λ x. e ∷ x) r.parts;
  each = ((w, t), r.each);
  asks = r.asks;
  most = omega (arith, r.most);
  stops = elim r.stops [ inl f ↦ inl f | inr f ↦ inr (omega (arith, f)) ];
}
one_more more q repeats e [] last false w t others h = let same = same_answer q e last w h in record {
  before = [];
  parts = ap (λ x. x ∷ []) same;
  each = tt;
  asks = ap (λ x. x.0) (sym same) ∙ w;
  most = omega arith;
  stops = inl (ap (λ x. repeats x.1) (sym same) ∙ t);
}
one_more more q repeats e (f ∷ part) last false w t others h = absurd h

pub attempts_piece : (more : ℕ) (q : Question) (repeats : Answer → Bool) (part : List Pair) (last : Pair) → Reads (attempts more q repeats) part last → Attempts q (suc more) repeats part last
unfolding attempts asked
attempts_piece zero q repeats [] last h = absurd h
attempts_piece zero q repeats (e ∷ []) last h = let same = same_answer q e last h.0 h.1 in record {
  before = [];
  parts = ap (λ x. x ∷ []) same;
  each = tt;
  asks = ap (λ x. x.0) (sym same) ∙ h.0;
  most = omega arith;
  stops = inr refl;
}
attempts_piece zero q repeats (e ∷ f ∷ part) last h = absurd h.1
attempts_piece (suc more) q repeats [] last h = absurd h
attempts_piece (suc more) q repeats (e ∷ part) last h = one_more more q repeats e part last (repeats e.1) h.0 refl (attempts_piece more q repeats part last) h.1

-- and back
piece_of : (more : ℕ) (q : Question) (repeats : Answer → Bool) (before : List Pair) (last : Pair) →
    AllByRecursion (λ e. (e.0 ≡ q) × (repeats e.1 ≡ true)) before → last.0 ≡ q → length before < suc more →
    (repeats last.1 ≡ false) ⊎ (length before + 1 ≡ suc more) → Reads (attempts more q repeats) (before ++ last ∷ []) last
unfolding attempts asked
piece_of zero q repeats [] last each w m s = (w, ap (λ x. (x, last.1)) (sym w))
piece_of zero q repeats (e ∷ before) last each w m s = absurd (omega (arith, m))
piece_of (suc more) q repeats [] last each w m (inl f) = (w, subst (λ b. Reads (if b then attempts more q repeats else Done (q, last.1)) [] last) (sym f) (ap (λ x. (x, last.1)) (sym w)))
piece_of (suc more) q repeats [] last each w m (inr f) = absurd (omega (arith, f))
piece_of (suc more) q repeats (e ∷ before) last each w m s = (
  each.0.0,
  subst (λ b. Reads (if b then attempts more q repeats else Done (q, e.1)) (before ++ last ∷ []) last) (sym each.0.1)
      (piece_of more q repeats before last each.1 w (omega (arith, m)) (elim s [ inl f ↦ inl f | inr f ↦ inr (omega (arith, f)) ])),
)

pub piece_attempts : (more : ℕ) (q : Question) (repeats : Answer → Bool) (part : List Pair) (last : Pair) → Attempts q (suc more) repeats part last → Reads (attempts more q repeats) part last
piece_attempts more q repeats part last h = subst (λ x. Reads (attempts more q repeats) x last) (sym h.parts) (piece_of more q repeats h.before last h.each h.asks h.most h.stops)
