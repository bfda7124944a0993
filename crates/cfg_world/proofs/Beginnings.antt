-- Beginnings of one inquiry's journals.
use Rattle.std.proofs.Common.{◌≡◌, List, [], ◌∷◌, ◌++◌, ◌⊎◌, inl, inr, refl, sym, ap, ◌∙◌, subst}
use Rattle.cfg_world.specs.Fits.{Pair}
use Rattle.cfg_world.specs.Inquiry.{Inquiry, Done, Ask, Reads, Begun, after}
use Rattle.cfg_world.specs.Agreeing.{AnswerAlike}
use Rattle.cfg_world.specs.Beginnings.{IsPrefix, BegunInTurn}
use Rattle.cfg_world.proofs.Inquiries.{begun_first, begun_after}
use Rattle.cfg_world.proofs.Agreeing.{same_entry}

-- a whole journal has begun, and so has each prefix of it
pub read_begins : {R : Type 0} (p : Inquiry R) (one rest : List Pair) (x : R) → Reads p (one ++ rest) x → Begun p one
read_begins (Done r) [] rest x h = tt
read_begins (Done r) (e ∷ one) rest x h = absurd h
read_begins (Ask q next) [] rest x h = tt
read_begins (Ask q next) (e ∷ one) rest x h = (h.0, read_begins (next e.1) one rest x h.1)

pub begun_begins : {R : Type 0} (p : Inquiry R) (one rest : List Pair) → Begun p (one ++ rest) → Begun p one
begun_begins (Done r) [] rest h = tt
begun_begins (Done r) (e ∷ one) rest h = absurd h
begun_begins (Ask q next) [] rest h = tt
begun_begins (Ask q next) (e ∷ one) rest h = (h.0, begun_begins (next e.1) one rest h.1)

-- the same entry before both
prefix_more : (e f : Pair) (one other : List Pair) → e ≡ f → IsPrefix one other → IsPrefix (e ∷ one) (f ∷ other)
prefix_more e f one other same h = (h.0, ap (λ t. f ∷ t) h.1 ∙ ap (λ g. g ∷ (one ++ h.0)) (sym same))

-- of two beginnings whose answers agree one is a prefix of the other
pub one_beginning : {R : Type 0} (p : Inquiry R) (one other : List Pair) → Begun p one → Begun p other → AnswerAlike one other → IsPrefix one other ⊎ IsPrefix other one
one_beginning p [] other h k a = inl (other, refl)
one_beginning (Done r) (e ∷ one) other h k a = absurd h
one_beginning (Ask q next) (e ∷ one) [] h k a = inr (e ∷ one, refl)
one_beginning (Ask q next) (e ∷ one) (f ∷ other) h k a =
    let asks = h.0 ∙ sym k.0 in
    let alike = a asks in
    let same = same_entry e f asks alike.0 in
    elim (one_beginning (next e.1) one other h.1 (subst (λ b. Begun (next b) other) (sym alike.0) k.1) alike.1) [
      | inl r ↦ inl (prefix_more e f one other same r)
      | inr r ↦ inr (prefix_more f e other one (sym same) r)
    ]

-- a beginning is a prefix of each whole journal whose answers agree with its own
pub begins_whole : {R : Type 0} (p : Inquiry R) (one other : List Pair) (x : R) → Begun p one → Reads p other x → AnswerAlike one other → IsPrefix one other
begins_whole p [] other x h k a = (other, refl)
begins_whole (Done r) (e ∷ one) other x h k a = absurd h
begins_whole (Ask q next) (e ∷ one) [] x h k a = absurd k
begins_whole (Ask q next) (e ∷ one) (f ∷ other) x h k a =
    let asks = h.0 ∙ sym k.0 in
    let alike = a asks in
    prefix_more e f one other (same_entry e f asks alike.0)
    (begins_whole (next e.1) one other x h.1 (subst (λ b. Reads (next b) other x) (sym alike.0) k.1) alike.1)

-- one inquiry after another begins as the first does, or as the second does behind a whole journal of the first
pub begun_splits : {A B : Type 0} (p : Inquiry A) (f : A → Inquiry B) (journal : List Pair) → Begun (after p f) journal → BegunInTurn p f journal
begun_splits (Done x) f journal h = inr ([], journal, x, refl, refl, h)
begun_splits (Ask q next) f [] h = inl tt
begun_splits (Ask q next) f (e ∷ journal) h = elim (begun_splits (next e.1) f journal h.1) [
  | inl b ↦ inl (h.0, b)
  | inr s ↦ inr (e ∷ s.0, s.1, s.2, ap (λ t. e ∷ t) s.3, (h.0, s.4), s.5)
]

pub begun_joins : {A B : Type 0} (p : Inquiry A) (f : A → Inquiry B) (journal : List Pair) → BegunInTurn p f journal → Begun (after p f) journal
begun_joins p f journal (inl b) = begun_first p f journal b
begun_joins p f journal (inr s) = subst (λ j. Begun (after p f) j) (sym s.3) (begun_after p f s.0 s.1 s.2 s.4 s.5)
