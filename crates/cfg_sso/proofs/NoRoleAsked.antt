-- Trees that never ask for the credentials of a role.
use Rattle.std.proofs.Common.{◌≡◌, List, [], ◌∷◌, false, Option, Result, Ok, Err, sym, subst, inl, inr}
use Rattle.cfg_world.specs.declared.ask.Answer.{Answer as Given}
use Rattle.cfg_world.specs.declared.ask.Answer.TheVariants as answer
use Rattle.cfg_world.specs.Fits.{Pair}
use Rattle.cfg_world.specs.Inquiry.{Inquiry, Done, Ask, after, if_ok}
use Rattle.cfg_token.proofs.Outcomes.{Gives as AllGive}
use Rattle.cfg_kept.specs.Kinds.{Spot, Value, States}
use Rattle.cfg_kept.specs.KeptInquiry.{KeptInquiry, Gives, Puts, Finds, Leaves, Runs, Begins, leave, lift, onwards, onwards_if_ok}
use Rattle.cfg_kept.specs.Holds.{left_by, holding}
use Rattle.cfg_kept.proofs.Told.{run_begins}
use Rattle.cfg_sso.specs.RoleRequests.{is_role_request, AsksNoRole}

-- None of the tree's questions is such a request, whatever is answered and found.
abbrev pub NeverAsks : {R : Type 0} → KeptInquiry R → Type 0
NeverAsks (Gives r) = Unit {0}
NeverAsks (Puts q next) = (is_role_request q ≡ false) × ((a : Given) → NeverAsks (next a))
NeverAsks (Finds spot next) = (v : Value) → NeverAsks (next v)
NeverAsks (Leaves v rest) = NeverAsks rest

pub begins_without : {R : Type 0} (p : KeptInquiry R) (old new : Option States) (found : List Value) (part : List Pair) → NeverAsks p → Begins p old found part new → AsksNoRole part
begins_without (Gives r) old new [] [] n h = tt
begins_without (Gives r) old new [] (e ∷ part) n h = absurd h
begins_without (Gives r) old new (f ∷ found) part n h = absurd h
begins_without (Puts q next) old new [] [] n h = tt
begins_without (Puts q next) old new (f ∷ found) [] n h = absurd h
begins_without (Puts q next) old new found (e ∷ part) n h =
    (subst (λ x. is_role_request x ≡ false) (sym h.0) n.0, begins_without (next e.1) old new found part (n.1 e.1) h.1)
begins_without (Finds spot next) old new [] [] n h = tt
begins_without (Finds spot next) old new [] (e ∷ part) n h = absurd h
begins_without (Finds spot next) old new (f ∷ found) part n h = begins_without (next f) old new found part (n f) h.2
begins_without (Leaves v p) old new found part n (inl h) = subst AsksNoRole (sym h.1) tt
begins_without (Leaves v p) old new found part n (inr h) = begins_without p (leave old v) new found part n h

pub runs_without : {R : Type 0} (p : KeptInquiry R) (old new : Option States) (found : List Value) (part : List Pair) (out : R) → NeverAsks p → Runs p old found part out new → AsksNoRole part
runs_without p old new found part out n h = begins_without p old new found part n (run_begins p old new found part out h)

-- ---- how such trees are put together

pub onwards_without : {A B : Type 0} (p : KeptInquiry A) (f : A → KeptInquiry B) → NeverAsks p → ((x : A) → NeverAsks (f x)) → NeverAsks (onwards p f)
onwards_without (Gives x) f n m = m x
onwards_without (Puts q next) f n m = (n.0, λ a. onwards_without (next a) f (n.1 a) m)
onwards_without (Finds spot next) f n m = λ v. onwards_without (next v) f (n v) m
onwards_without (Leaves v p) f n m = onwards_without p f n m

pub after_without : {A B : Type 0} (p : Inquiry A) (f : A → Inquiry B) → NeverAsks (lift p) → ((x : A) → NeverAsks (lift (f x))) → NeverAsks (lift (after p f))
after_without (Done x) f n m = m x
after_without (Ask q next) f n m = (n.0, λ a. after_without (next a) f (n.1 a) m)

pub if_ok_without : {A B E : Type 0} (f : A → KeptInquiry (Result B E)) (r : Result A E) → ((x : A) → NeverAsks (f x)) → NeverAsks (onwards_if_ok f r)
if_ok_without f (Ok x) m = m x
if_ok_without f (Err e) m = tt

-- and of those that go on after an Ok alone
pub bound_without : {A B E : Type 0} (p : KeptInquiry (Result A E)) (f : A → KeptInquiry (Result B E)) → NeverAsks p → ((x : A) → NeverAsks (f x)) → NeverAsks (onwards p (onwards_if_ok f))
bound_without p f n m = onwards_without p (onwards_if_ok f) n (λ r. if_ok_without f r m)

asked_if_ok_without : {A B E : Type 0} (f : A → Inquiry (Result B E)) (r : Result A E) → ((x : A) → NeverAsks (lift (f x))) → NeverAsks (lift (if_ok f r))
asked_if_ok_without f (Ok x) m = m x
asked_if_ok_without f (Err e) m = tt

pub asked_bound_without : {A B E : Type 0} (p : Inquiry (Result A E)) (f : A → Inquiry (Result B E)) → NeverAsks (lift p) → ((x : A) → NeverAsks (lift (f x))) → NeverAsks (lift (after p (if_ok f)))
asked_bound_without p f n m = after_without p (if_ok f) n (λ r. asked_if_ok_without f r m)

-- one holding asks what is asked over the value that it found
pub holding_without : {R T : Type 0} (spot : Spot) (at : T → Value) (asks : Value → Inquiry (R × T)) → ((v : Value) → NeverAsks (lift (asks v))) → NeverAsks (holding spot at asks)
unfolding holding
holding_without spot at asks n = λ v. onwards_without (lift (asks v)) (left_by at) (n v) (λ made. tt)

-- ---- from what every part of an inquiry satisfies

-- some part comes of it
some_part : {R : Type 0} (p : Inquiry R) (P : List Pair → R → Type 0) → AllGive p P → (part : List Pair) × (out : R) × P part out
some_part (Done r) P g = ([], r, g)
some_part (Ask q next) P g =
    let s = some_part (next answer.Written) (λ part out. P ((q, answer.Written) ∷ part) out) (g answer.Written) in
    ((q, answer.Written) ∷ s.0, s.1, s.2)

pub all_without : {R : Type 0} (p : Inquiry R) (P : List Pair → R → Type 0) → AllGive p P → ((part : List Pair) (out : R) → P part out → AsksNoRole part) → NeverAsks (lift p)
all_without (Done r) P g m = tt
all_without (Ask q next) P g m =
    let s = some_part (next answer.Written) (λ part out. P ((q, answer.Written) ∷ part) out) (g answer.Written) in (
      (m ((q, answer.Written) ∷ s.0) s.1 s.2).0,
      λ a. all_without (next a) (λ part out. P ((q, a) ∷ part) out) (g a) (λ part out k. (m ((q, a) ∷ part) out k).1),
    )
