-- Trees that ask for no role.
use Rattle.std.proofs.Common.{◌≡◌, List, [], ◌∷◌, ◌++◌, Option, Some, None, Result, Ok, Err, refl, sym, ◌∙◌, ap, subst, inl, inr}
use Rattle.cfg_types.specs.Keys.{Keys}
use Rattle.cfg_world.specs.declared.ask.Answer.{Answer as Given}
use Rattle.cfg_world.specs.Fits.{Pair}
use Rattle.cfg_world.specs.Inquiry.{Inquiry, Done, Ask, after, if_ok}
use Rattle.cfg_kept.specs.Kinds.{Spot, Value, States}
use Rattle.cfg_kept.specs.KeptInquiry.{KeptInquiry, Gives, Puts, Finds, Leaves, Runs, Begins, leave, lift, onwards, onwards_if_ok}
use Rattle.cfg_kept.specs.Holds.{left_by, holding}
use Rattle.cfg_kept.proofs.Told.{run_begins}
use Rattle.cfg_run.specs.Roles.{signer_in, counted, roles_in}

-- None of the tree's questions is for a role, whatever is answered and found.
abbrev pub NeverForRole : {R : Type 0} → KeptInquiry R → Type 0
NeverForRole (Gives r) = Unit {0}
NeverForRole (Puts q next) = (signer_in q ≡ None) × ((a : Given) → NeverForRole (next a))
NeverForRole (Finds spot next) = (v : Value) → NeverForRole (next v)
NeverForRole (Leaves v rest) = NeverForRole rest

-- No entry is for a role.
abbrev pub NoneForRole : List Pair → Type 0
NoneForRole [] = Unit {0}
NoneForRole (e ∷ journal) = (signer_in e.0 ≡ None) × NoneForRole journal

pub begins_without : {R : Type 0} (p : KeptInquiry R) (old new : Option States) (found : List Value) (part : List Pair) → NeverForRole p → Begins p old found part new → NoneForRole part
begins_without (Gives r) old new [] [] n h = tt
begins_without (Gives r) old new [] (e ∷ part) n h = absurd h
begins_without (Gives r) old new (f ∷ found) part n h = absurd h
begins_without (Puts q next) old new [] [] n h = tt
begins_without (Puts q next) old new (f ∷ found) [] n h = absurd h
begins_without (Puts q next) old new found (e ∷ part) n h =
    (subst (λ x. signer_in x ≡ None) (sym h.0) n.0, begins_without (next e.1) old new found part (n.1 e.1) h.1)
begins_without (Finds spot next) old new [] [] n h = tt
begins_without (Finds spot next) old new [] (e ∷ part) n h = absurd h
begins_without (Finds spot next) old new (f ∷ found) part n h = begins_without (next f) old new found part (n f) h.2
begins_without (Leaves v p) old new found part n (inl h) = subst NoneForRole (sym h.1) tt
begins_without (Leaves v p) old new found part n (inr h) = begins_without p (leave old v) new found part n h

pub runs_without : {R : Type 0} (p : KeptInquiry R) (old new : Option States) (found : List Value) (part : List Pair) (out : R) → NeverForRole p → Runs p old found part out new → NoneForRole part
runs_without p old new found part out n h = begins_without p old new found part n (run_begins p old new found part out h)

-- ---- how such trees are put together

pub onwards_without : {A B : Type 0} (p : KeptInquiry A) (f : A → KeptInquiry B) → NeverForRole p → ((x : A) → NeverForRole (f x)) → NeverForRole (onwards p f)
onwards_without (Gives x) f n m = m x
onwards_without (Puts q next) f n m = (n.0, λ a. onwards_without (next a) f (n.1 a) m)
onwards_without (Finds spot next) f n m = λ v. onwards_without (next v) f (n v) m
onwards_without (Leaves v p) f n m = onwards_without p f n m

pub after_without : {A B : Type 0} (p : Inquiry A) (f : A → Inquiry B) → NeverForRole (lift p) → ((x : A) → NeverForRole (lift (f x))) → NeverForRole (lift (after p f))
after_without (Done x) f n m = m x
after_without (Ask q next) f n m = (n.0, λ a. after_without (next a) f (n.1 a) m)

if_ok_without : {A B E : Type 0} (f : A → KeptInquiry (Result B E)) (r : Result A E) → ((x : A) → NeverForRole (f x)) → NeverForRole (onwards_if_ok f r)
if_ok_without f (Ok x) m = m x
if_ok_without f (Err e) m = tt

-- and of those that go on after an Ok alone
pub bound_without : {A B E : Type 0} (p : KeptInquiry (Result A E)) (f : A → KeptInquiry (Result B E)) → NeverForRole p → ((x : A) → NeverForRole (f x)) → NeverForRole (onwards p (onwards_if_ok f))
bound_without p f n m = onwards_without p (onwards_if_ok f) n (λ r. if_ok_without f r m)

asked_if_ok_without : {A B E : Type 0} (f : A → Inquiry (Result B E)) (r : Result A E) → ((x : A) → NeverForRole (lift (f x))) → NeverForRole (lift (if_ok f r))
asked_if_ok_without f (Ok x) m = m x
asked_if_ok_without f (Err e) m = tt

pub asked_bound_without : {A B E : Type 0} (p : Inquiry (Result A E)) (f : A → Inquiry (Result B E)) → NeverForRole (lift p) → ((x : A) → NeverForRole (lift (f x))) → NeverForRole (lift (after p (if_ok f)))
asked_bound_without p f n m = after_without p (if_ok f) n (λ r. asked_if_ok_without f r m)

-- one holding asks what is asked over the value that it found
pub holding_without : {R T : Type 0} (spot : Spot) (at : T → Value) (asks : Value → Inquiry (R × T)) → ((v : Value) → NeverForRole (lift (asks v))) → NeverForRole (holding spot at asks)
unfolding holding
holding_without spot at asks n = λ v. onwards_without (lift (asks v)) (left_by at) (n v) (λ made. tt)

-- ---- journals

cons_head : {A : Type 0} {x y : A} {xs ys : List A} → x ∷ xs ≡ y ∷ ys → x ≡ y
cons_head h = cc

cons_tail : {A : Type 0} {x y : A} {xs ys : List A} → x ∷ xs ≡ y ∷ ys → xs ≡ ys
cons_tail h = cc

not_signed : {X : Type 0} (signer : Keys) (o : Option Keys) → o ≡ Some signer → o ≡ None → X
not_signed {X} signer o is none = absurd (differs (sym is ∙ none))
  where
    differs : ◌≡◌ {A = Option Keys} (Some signer) None → ⊥
    differs h = cc

-- an entry for a role is not among entries of which none is
pub none_there : {X : Type 0} (front : List Pair) (e : Pair) (behind : List Pair) (signer : Keys) → signer_in e.0 ≡ Some signer → NoneForRole (front ++ e ∷ behind) → X
none_there [] e behind signer is n = not_signed signer (signer_in e.0) is n.0
none_there (d ∷ front) e behind signer is n = none_there front e behind signer is n.1

-- It is behind them.
pub record IsBehind (part rest front : List Pair) (e : Pair) (behind : List Pair) : Type 0 where
  pub middle : List Pair
  pub before : front ≡ part ++ middle
  pub left : rest ≡ middle ++ e ∷ behind
  pub number : roles_in front ≡ roles_in middle

pub is_behind : (part rest front : List Pair) (e : Pair) (behind : List Pair) (signer : Keys) → signer_in e.0 ≡ Some signer → NoneForRole part → front ++ e ∷ behind ≡ part ++ rest → IsBehind part rest front e behind
is_behind [] rest front e behind signer is n h = record { middle = front; before = refl; left = sym h; number = refl }
is_behind (d ∷ part) rest [] e behind signer is n h = not_signed signer (signer_in e.0) is (subst (λ (x : Pair). signer_in x.0 ≡ None) (sym (cons_head h)) n.0)
is_behind (d ∷ part) rest (x ∷ front) e behind signer is n h =
    let r = is_behind part rest front e behind signer is n.1 (cons_tail h) in
    let same : x ≡ d = cons_head h in
    record {
      middle = r.middle;
      before = ap (λ t. x ∷ t) r.before ∙ ap (λ y. y ∷ (part ++ r.middle)) same;
      left = r.left;
      number = ap (λ o. counted o (roles_in front)) (ap (λ (y : Pair). signer_in y.0) same ∙ n.0) ∙ r.number;
    }
