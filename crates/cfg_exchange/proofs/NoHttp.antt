-- Inquiries that send no `Http` request, and look up no host.
use Rattle.std.proofs.Common.{◌≡◌, ℕ, zero, suc, List, [], ◌∷◌, Bool, true, false, Result, Ok, Err, sym, subst}
use Rattle.std.specs.Prelude.{if◌then◌else◌}
use Rattle.cfg_world.specs.declared.ask.Question.{Question}
use Rattle.cfg_world.specs.declared.ask.Answer.{Answer}
use Rattle.cfg_world.specs.Fits.{Pair}
use Rattle.cfg_world.specs.Inquiry.{Inquiry, Done, Ask, Begun, after, if_ok}
use Rattle.cfg_exchange.specs.Attempts.{asked, attempts}
use Rattle.cfg_exchange.specs.SafeJournals.{is_http_or_look_up, AsksNoHttp}

-- None of the inquiry's questions is such a request or look-up, whatever is answered.
abbrev pub NeverAsksHttp : {R : Type 0} → Inquiry R → Type 0
NeverAsksHttp (Done r) = Unit {0}
NeverAsksHttp (Ask q next) = (is_http_or_look_up q ≡ false) × ((a : Answer) → NeverAsksHttp (next a))

pub begun_without : {R : Type 0} (p : Inquiry R) (part : List Pair) → NeverAsksHttp p → Begun p part → AsksNoHttp part
begun_without (Done r) [] n h = tt
begun_without (Done r) (e ∷ part) n h = absurd h
begun_without (Ask q next) [] n h = tt
begun_without (Ask q next) (e ∷ part) n h = (subst (λ x. is_http_or_look_up x ≡ false) (sym h.0) n.0, begun_without (next e.1) part (n.1 e.1) h.1)

-- ---- how such inquiries are put together

pub after_without : {A B : Type 0} (p : Inquiry A) (f : A → Inquiry B) → NeverAsksHttp p → ((x : A) → NeverAsksHttp (f x)) → NeverAsksHttp (after p f)
after_without (Done x) f n m = m x
after_without (Ask q next) f n m = (n.0, λ a. after_without (next a) f (n.1 a) m)

if_ok_without : {A B E : Type 0} (f : A → Inquiry (Result B E)) (r : Result A E) → ((x : A) → NeverAsksHttp (f x)) → NeverAsksHttp (if_ok f r)
if_ok_without f (Ok x) m = m x
if_ok_without f (Err e) m = tt

-- and those that go on after an Ok alone
pub bound_without : {A B E : Type 0} (p : Inquiry (Result A E)) (f : A → Inquiry (Result B E)) → NeverAsksHttp p → ((x : A) → NeverAsksHttp (f x)) → NeverAsksHttp (after p (if_ok f))
bound_without p f n m = after_without p (if_ok f) n (λ r. if_ok_without f r m)

pub either_without : {R : Type 0} (b : Bool) (p q : Inquiry R) → NeverAsksHttp p → NeverAsksHttp q → NeverAsksHttp (if b then p else q)
either_without true p q n m = n
either_without false p q n m = m

pub attempts_without : (more : ℕ) (q : Question) (repeats : Answer → Bool) → is_http_or_look_up q ≡ false → NeverAsksHttp (attempts more q repeats)
unfolding attempts asked
attempts_without zero q repeats n = (n, λ a. tt)
attempts_without (suc more) q repeats n = (n, λ a. either_without (repeats a) (attempts more q repeats) (Done (q, a)) (attempts_without more q repeats n) tt)
