-- How calls that keep receipts are put together.
use Rattle.std.proofs.Common.{List, [], ◌∷◌, ◌++◌, refl, sym, ◌∙◌, ap, append_assoc, append-nil}
use Rattle.cfg_world.specs.declared.asking.Asking.{Ghosts}
use Rattle.cfg_world.specs.Fits.{Pair, EachFits}
use Rattle.cfg_world.specs.Inquiry.{Inquiry, Done, after}
use Rattle.cfg_world.specs.Follows.{Ends, Waits, Breaks}
use Rattle.cfg_world.proofs.Counts.{Same-refl, Same-trans, StandsOn-none, StandsOn-then, Counted-none, Counted-then}
use Rattle.cfg_world.proofs.Inquiries.{reads_after, waits_after, waits_first, breaks_after, breaks_first, breaks_here}
use Rattle.cfg_token.specs.Notes.{NotedEnds}

fits_append : (one other : List Pair) → EachFits one → EachFits other → EachFits (one ++ other)
fits_append [] other h k = k
fits_append (e ∷ one) other h k = (h.0, fits_append one other h.1 k)

module _ {W : Type 0} {w : Ghosts W} where
  pub without_receipts : {A : Type 0} {p : Inquiry A} {old new : W} (r s : List Pair) {x : A} → NotedEnds w p old r new s x → Ends w p old new x
  without_receipts r s a = record { part = a.part; grows = a.grows; fits = a.fits; made = a.made; same = a.same; counted = a.counted; stands = a.stands; reads = a.reads }

  pub noted_after : {A B : Type 0} {p : Inquiry A} (f : A → Inquiry B) {old mid new : W} {r s u : List Pair} {x : A} {out : B} →
      NotedEnds w p old r mid s x → NotedEnds w (f x) mid s new u out → NotedEnds w (after p f) old r new u out
  noted_after {p = p} f {old = old} {mid = mid} {new = new} {r = r} {x = x} {out = out} a b = record {
    part = a.part ++ b.part;
    grows = b.grows ∙ ap (λ t. t ++ b.part) a.grows ∙ append_assoc (w.journal old) a.part b.part;
    receipts = b.receipts ∙ ap (λ t. t ++ b.part) a.receipts ∙ append_assoc r a.part b.part;
    fits = fits_append a.part b.part a.fits b.fits;
    made = b.made ∙ a.made;
    same = Same-trans a.same b.same;
    counted = Counted-then a.counted b.counted;
    stands = StandsOn-then (w.stands old) (w.stands mid) (w.stands new) a.part b.part a.stands b.stands;
    reads = reads_after p f a.part b.part x out a.reads b.reads;
  }

  pub noted_waits_after : {A B : Type 0} {p : Inquiry A} (f : A → Inquiry B) {old mid new : W} {r s : List Pair} {x : A} →
      NotedEnds w p old r mid s x → Waits w (f x) mid new → Waits w (after p f) old new
  noted_waits_after f {r = r} {s = s} a b = waits_after f (without_receipts r s a) b

  pub noted_breaks_after : {A B : Type 0} {p : Inquiry A} (f : A → Inquiry B) {old mid new : W} {r s : List Pair} {x : A} →
      NotedEnds w p old r mid s x → Breaks w (f x) mid new → Breaks w (after p f) old new
  noted_breaks_after f {r = r} {s = s} a b = breaks_after f (without_receipts r s a) b

  pub noted_done : {A : Type 0} {x : A} {old : W} {r : List Pair} → NotedEnds w (Done x) old r old r x
  noted_done {old = old} {r = r} = record { part = []; grows = sym (append-nil (w.journal old)); receipts = sym (append-nil r); fits = tt; made = refl; same = Same-refl _; counted = Counted-none _; stands = StandsOn-none (w.stands old); reads = refl }

pub ruleset noted_steps = (noted_after, noted_waits_after, noted_breaks_after, noted_done, waits_first, breaks_first, breaks_here)
