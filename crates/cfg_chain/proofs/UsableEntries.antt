-- Over answers that are of use, what asks comes to a success, one piece after another.
use Rattle.std.proofs.Common.{◌≡◌, List, [], ◌∷◌, ◌++◌, ◌⊎◌, inl, inr, true, false, Result, Ok, Err, refl, ap, ◌∙◌, subst, append-nil}
use Rattle.std.specs.Prelude.{is_ok}
use Rattle.cfg_world.specs.declared.ask.Question.{Question}
use Rattle.cfg_world.specs.declared.ask.Answer.{Answer as Given}
use Rattle.cfg_world.specs.Fits.{Pair}
use Rattle.cfg_world.specs.Inquiry.{Inquiry, Done, Ask, Reads, after, if_ok, ◌>>=◌}
use Rattle.cfg_world.proofs.Inquiries.{split_after}
use Rattle.cfg_chain.specs.Valid.{Contents, IsOfUse, AreOfUse}

pub no_success : {X : Type 0} → false ≡ true → X
no_success h = absurd (clash h)
  where
    clash : false ≡ true → ⊥
    clash e = absurd cc

-- over a journal whose answers are of use, it comes to a success, where this is asked of files
abbrev pub Succeeds : {A E : Type 0} → (Contents → Type 0) → Inquiry (Result A E) → Type 0
Succeeds {A} {E} Files p = (part : List Pair) (out : Result A E) → Reads p part out → AreOfUse Files part → is_ok out ≡ true

-- nothing is asked
abbrev pub IsQuiet : {R : Type 0} → Inquiry R → Type 0
IsQuiet {R} p = (part : List Pair) (out : R) → Reads p part out → part ≡ []

pub done_quiet : {R : Type 0} (x : R) → IsQuiet (Done x)
done_quiet x [] out h = refl
done_quiet x (e ∷ part) out h = absurd h

pub done_succeeds : {A E : Type 0} (Files : Contents → Type 0) (r : Result A E) → is_ok r ≡ true → Succeeds Files (Done r)
done_succeeds Files r fine [] out h uses = subst (λ x. is_ok x ≡ true) h fine
done_succeeds Files r fine (e ∷ part) out h uses = absurd h

-- the answers behind a part
pub rest_of_use : (Files : Contents → Type 0) (part rest : List Pair) → AreOfUse Files (part ++ rest) → AreOfUse Files rest
rest_of_use Files [] rest h = h
rest_of_use Files (e ∷ part) rest h = rest_of_use Files part rest h.1

only_left : {A : Type 0} → A ⊎ ⊥ → A
only_left (inl x) = x
only_left (inr e) = absurd e

-- the last answer is of use: no entry follows it
pub last_of_use : (Files : Contents → Type 0) (before : List Pair) (last : Pair) → AreOfUse Files (before ++ last ∷ []) → IsOfUse Files last.0 last.1
last_of_use Files before last h = only_left (rest_of_use Files before (last ∷ []) h).0

-- one question
pub ask_succeeds : {A E : Type 0} (Files : Contents → Type 0) (q : Question) (read : Given → Result A E) → ((a : Given) → IsOfUse Files q a → is_ok (read a) ≡ true) → Succeeds Files (Ask q (λ a. Done (read a)))
ask_succeeds Files q read fine [] out h uses = absurd h
ask_succeeds Files q read fine (e ∷ []) out h uses =
    subst (λ r. is_ok r ≡ true) h.1 (fine e.1 (subst (λ x. IsOfUse Files x e.1) h.0 (only_left uses.0)))
ask_succeeds Files q read fine (e ∷ f ∷ part) out h uses = absurd h.1

-- behind what gives no error of its own
pub behind_succeeds : {A B E : Type 0} (Files : Contents → Type 0) (p : Inquiry A) (k : A → Inquiry (Result B E)) → ((x : A) → Succeeds Files (k x)) → Succeeds Files (after p k)
behind_succeeds Files p k goes part out h uses =
    let s = split_after p k part out h in
    goes s.middle s.rest out s.then (rest_of_use Files s.part s.rest (subst (AreOfUse Files) s.parts uses))

module _ {A B E F : Type 0} (Files : Contents → Type 0) (p : Inquiry (Result A E)) (k : Result A E → Inquiry (Result B F)) (fine : Succeeds Files p)
    (stops : (e : E) → IsQuiet (k (Err e))) (goes : (x : A) → Succeeds Files (k (Ok x))) where
  parts_succeed : (middle : Result A E) (journal part rest : List Pair) (out : Result B F) → journal ≡ part ++ rest → Reads p part middle → Reads (k middle) rest out →
      AreOfUse Files journal → is_ok out ≡ true
  parts_succeed (Ok x) journal part rest out parts first then uses = goes x rest out then (rest_of_use Files part rest (subst (AreOfUse Files) parts uses))
  parts_succeed (Err e) journal part rest out parts first then uses =
      no_success (fine part (Err e) first (subst (AreOfUse Files) (parts ∙ ap (λ r. part ++ r) (stops e rest out then) ∙ append-nil part) uses))

  -- one piece after another, which asks nothing behind an error of the first
  pub after_succeeds : Succeeds Files (after p k)
  after_succeeds journal out h uses =
      let s = split_after p k journal out h in
      parts_succeed s.middle journal s.part s.rest out s.parts s.first s.then uses

-- one piece after another
pub then_succeeds : {A B E : Type 0} (Files : Contents → Type 0) (p : Inquiry (Result A E)) (f : A → Inquiry (Result B E)) → Succeeds Files p → ((x : A) → Succeeds Files (f x)) → Succeeds Files (p >>= f)
then_succeeds Files p f fine goes = after_succeeds Files p (if_ok f) fine (λ e. done_quiet (Err e)) goes

-- what a success is read as
pub read_succeeds : {A B E F : Type 0} (Files : Contents → Type 0) (p : Inquiry (Result A E)) (read : Result A E → Result B F) → Succeeds Files p → ((x : A) → is_ok (read (Ok x)) ≡ true) →
    Succeeds Files (after p (λ r. Done (read r)))
read_succeeds Files p read fine keeps = after_succeeds Files p (λ r. Done (read r)) fine (λ e. done_quiet (read (Err e))) (λ x. done_succeeds Files (read (Ok x)) (keeps x))
