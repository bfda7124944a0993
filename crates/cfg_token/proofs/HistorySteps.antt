-- A history with one load more.
use Rattle.std.proofs.Common.{◌≡◌, Bool, true, false, List, [], ◌∷◌, ◌++◌, Option, Some, None, Result, Ok, Err, refl, sym, subst, ◌∙◌, ap, inl, inr, append-nil}
use Rattle.std.specs.Prelude.{cond, IfOk}
use Rattle.cfg_world.specs.Fits.{Pair}
use Rattle.cfg_world.specs.Inquiry.{Inquiry, Done, after, Reads}
use Rattle.cfg_token.specs.declared.token_key.TokenKey.{TokenKey}
use Rattle.cfg_types.specs.Environment.{Variables}
use Rattle.cfg_base.specs.Moment.{Moment}
use Rattle.cfg_types.specs.declared.settings.CallSettings.{CallSettings}
use Rattle.cfg_token.specs.declared.loading.Loaded.{Loaded}
use Rattle.cfg_token.specs.declared.sections.Sectioned.{Sectioned}
use Rattle.cfg_token.specs.declared.sections.Sectioned.TheVariants.{Hit, Load}
use Rattle.cfg_token.specs.Rules.{Rules}
use Rattle.cfg_token.specs.Decisions.{outlasts_buffer}
use Rattle.cfg_token.specs.Sections
use Rattle.cfg_token.specs.Sections.{section, load, ok_of, noted_or}
use Rattle.cfg_world.specs.Leaves.{clock, moment_of}
use Rattle.cfg_token.specs.Histories.{FinishedLoad, TokenLoad, History, trimmed, load_in, Machine, IsLoad, kept_by, noted_by, load_made, load_by, token_in, last_in, kept_in, finished_by, with_section, AddsAtMostOne}

pub machine_more : {T E : Type 0} {t : Rules T E} (kept : Option T) (last : Option Moment) (records : List (FinishedLoad T E)) (r : FinishedLoad T E) →
    Machine t kept last records → IsLoad t (kept_by kept records) (noted_by last records) r → Machine t kept last (records ++ r ∷ [])
machine_more kept last [] r m l = (l, tt)
machine_more kept last (x ∷ records) r m l = (m.0, machine_more (ok_of x.outcome) (noted_or x.noted last) records r m.1 l)

-- the last of the records is a load from what the others leave
pub machine_last : {T E : Type 0} (t : Rules T E) (kept : Option T) (last : Option Moment) (records : List (FinishedLoad T E)) (r : FinishedLoad T E) →
    Machine t kept last (records ++ r ∷ []) → IsLoad t (kept_by kept records) (noted_by last records) r
machine_last t kept last [] r m = m.0
machine_last t kept last (x ∷ records) r m = machine_last t (ok_of x.outcome) (noted_or x.noted last) records r m.1

pub machine_front : {T E : Type 0} (t : Rules T E) (kept : Option T) (last : Option Moment) (records : List (FinishedLoad T E)) (r : FinishedLoad T E) →
    Machine t kept last (records ++ r ∷ []) → Machine t kept last records
machine_front t kept last [] r m = tt
machine_front t kept last (x ∷ records) r m = (m.0, machine_front t (ok_of x.outcome) (noted_or x.noted last) records r m.1)

-- a load is one from nothing kept
load_from_nothing : {T E : Type 0} (t : Rules T E) (key : TokenKey) (env : Variables) (settings : CallSettings) (kept : Option T) (last : Option Moment) (journal : List Pair) (l : Loaded T E) →
    Reads (section t key env settings kept last) journal (Load l) → Reads (section t key env settings None last) journal (Load l)
unfolding section clock Sections.by_reading
load_from_nothing t key env settings None last journal l h = h
load_from_nothing t key env settings (Some token) last [] l h = h
load_from_nothing {T} {E} t key env settings (Some token) last (e ∷ journal) l h = (h.0, either_way (outlasts_buffer t token (moment_of e.1)) h.1)
  where
    either_way : (fresh : Bool) → Reads (cond fresh (Done (Hit token)) (after (load t key env settings last) (λ l. Done (Load l)))) journal (Load l) →
        Reads (after (load t key env settings last) (λ l. Done (Load l))) journal (Load l)
    either_way true k = no_load journal k
      where
        no_load : (J : List Pair) → Reads (let d : Inquiry (Sectioned T E) = Done (Hit token) in d) J (Load l) → Reads (after (load t key env settings last) (λ l. Done (Load l))) J (Load l)
        no_load [] k = cc
        no_load (e ∷ J) k = absurd k
    either_way false k = k

pub is_load_from_nothing : {T E : Type 0} (t : Rules T E) (kept : Option T) (last : Option Moment) (r : FinishedLoad T E) → IsLoad t kept last r → IsLoad t None last r
is_load_from_nothing t kept last r i = record { key = i.key; env = i.env; settings = i.settings; of_kind = i.of_kind; reads = load_from_nothing t i.key i.env i.settings kept last r.receipts _ i.reads }

-- the load of the last record
pub load_by-more : {T E : Type 0} (load : Option (TokenLoad T E)) (last : Option Moment) (records : List (FinishedLoad T E)) (r : FinishedLoad T E) →
    load_by load last (records ++ r ∷ []) ≡ load_made (noted_by last records) r r.outcome
load_by-more load last [] r = refl
load_by-more load last (x ∷ records) r = load_by-more (load_made last x x.outcome) (noted_or x.noted last) records r

pub noted_by-more : {T E : Type 0} (last : Option Moment) (records : List (FinishedLoad T E)) (r : FinishedLoad T E) → noted_by last (records ++ r ∷ []) ≡ noted_or r.noted (noted_by last records)
noted_by-more last [] r = refl
noted_by-more last (x ∷ records) r = noted_by-more (noted_or x.noted last) records r

pub kept_by-more : {T E : Type 0} (kept : Option T) (records : List (FinishedLoad T E)) (r : FinishedLoad T E) → kept_by kept (records ++ r ∷ []) ≡ ok_of r.outcome
kept_by-more kept [] r = refl
kept_by-more kept (x ∷ records) r = kept_by-more (ok_of x.outcome) records r

-- two lists with one element more are one list before it
pub front_is : {A : Type 0} (one other : List A) (x y : A) → one ++ x ∷ [] ≡ other ++ y ∷ [] → one ≡ other
front_is [] [] x y h = refl
front_is [] (b ∷ []) x y h = cc
front_is [] (b ∷ c ∷ other) x y h = cc
front_is (a ∷ []) [] x y h = cc
front_is (a ∷ c ∷ one) [] x y h = cc
front_is (a ∷ one) (b ∷ other) x y h = let rest : one ++ x ∷ [] ≡ other ++ y ∷ [] = cc in let front : one ≡ other = front_is one other x y rest in cc

-- A kept token always has its load.
pub token_of_load : {T E : Type 0} (load : Option (TokenLoad T E)) (last : Option Moment) (records : List (FinishedLoad T E)) → token_in (load_by load last records) ≡ kept_by (token_in load) records
token_of_load load last [] = refl
token_of_load {T} {E} load last (r ∷ records) = token_of_load (load_made last r r.outcome) (noted_or r.noted last) records ∙ ap (λ k. kept_by k records) (made r.outcome refl)
  where
    made : (o : Result T E) → r.outcome ≡ o → token_in (load_made last r o) ≡ ok_of o
    made (Ok token) is = ap ok_of is
    made (Err e) is = refl

-- The last record as a load of its own, and what it leaves.
pub last_is_load : {T E : Type 0} (t : Rules T E) (kept : Option T) (last : Option Moment) (all records : List (FinishedLoad T E)) (r : FinishedLoad T E) →
    all ≡ records ++ r ∷ [] → Machine t kept last all → IsLoad t None (noted_by last records) r
last_is_load t kept last all records r is m = is_load_from_nothing t (kept_by kept records) (noted_by last records) r (machine_last t kept last records r (rw is at m))

pub last_load : {T E : Type 0} (load : Option (TokenLoad T E)) (last : Option Moment) (all records : List (FinishedLoad T E)) (r : FinishedLoad T E) →
    all ≡ records ++ r ∷ [] → load_by load last all ≡ load_made (noted_by last records) r r.outcome
last_load load last all records r is = rw is (load_by-more load last records r)

-- the load of the last record is the one that the history says
pub loaded_last : {T E : Type 0} (h : History T E) (records : List (FinishedLoad T E)) (r : FinishedLoad T E) (before : Option Moment) →
    h.records ≡ records ++ r ∷ [] → before ≡ noted_by h.last records → load_made before r r.outcome ≡ load_in h
loaded_last h records r before is b = rw (b, last_load h.load h.last h.records records r is) refl

pub is_trimmed : {T E : Type 0} (h : History T E) (records left : List (FinishedLoad T E)) (r : FinishedLoad T E) (load : Option (TokenLoad T E)) (before last : Option Moment) →
    h.records ≡ records ++ r ∷ [] → before ≡ noted_by h.last records → load ≡ load_made before r r.outcome → last ≡ last_in h → left ≡ [] →
    (let now : History T E = record { load = load; last = last; records = left } in now) ≡ trimmed h
is_trimmed h records left r load before last is b l n e = rw (e, n, l, b, last_load h.load h.last h.records records r is) refl

-- a section leaves the history as it was, or adds a record
pub adds_at_most_one : {T E : Type 0} (before : History T E) (part : List Pair) (made : Sectioned T E) → AddsAtMostOne before (with_section before part made)
adds_at_most_one {T} {E} before part (Hit token) = inl (ap (λ (r : List (FinishedLoad T E)). record before { records = r }) (append-nil before.records))
adds_at_most_one before part (Load l) = inr (finished_by part l, refl)

-- the state keeps what is kept, and the last attempt, where it becomes its own origin
pub kept_trimmed : {T E : Type 0} (h later : History T E) → later ≡ trimmed h → kept_in later ≡ kept_in h
kept_trimmed h later is = ap kept_in is ∙ token_of_load h.load h.last h.records

pub token_loaded : {T E : Type 0} (h : History T E) (load : Option (TokenLoad T E)) → load ≡ load_in h → token_in load ≡ kept_in h
token_loaded h load is = ap token_in is ∙ token_of_load h.load h.last h.records

-- a fact of the one value that an answer may have
pub if_ok_by : {A E : Type 0} (r : Result A E) (x : A) (P : A → Type 0) → IfOk r (λ y. y ≡ x) → P x → IfOk r P
if_ok_by (Ok y) x P e h = subst P (sym e) h
if_ok_by (Err e) x P h k = tt
