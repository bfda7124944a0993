-- The lines of callers, and the last one.
use Rattle.std.proofs.Common.{◌≡◌, ℕ, ◌+◌, ◌<◌, List, [], ◌∷◌, ◌++◌, Bool, true, false, refl, sym, ap, ◌∙◌, subst, inl, inr, length, get_or, take, append-nil}
use Rattle.std.specs.Prelude.{◌⊎◌, Option, Some, None, is_ok, is_some, IsSome, All, Contains, if◌then◌else◌}
use Rattle.std.specs.List.{flat_map, AllByRecursion}
use Rattle.std.proofs.lemmas.Grind.{flat_map-append}
use Rattle.std.proofs.lemmas.List.{take_more, map-append}
use Rattle.std.proofs.lemmas.List.Folds.{flat_map-map}
use Rattle.std.proofs.lemmas.List.Sorted.{length_permutation}
use Rattle.cfg_base.specs.Moment.{Moment}
use Rattle.cfg_types.specs.Classes.{is_memory}
use Rattle.cfg_world.specs.Fits.{Pair}
use Rattle.cfg_world.specs.Script.{Script}
use Rattle.cfg_token.specs.declared.token_key.TokenKey.{TokenKey}
use Rattle.cfg_kept.specs.declared.keyed.EitherState.{EitherState}
use Rattle.cfg_kept.specs.KeyedStates.{key_of as state_key}
use Rattle.cfg_kept.specs.KeptStates.{kept_key, kept_token}
use Rattle.cfg_sharing.specs.declared.shared.Called.{Called}
use Rattle.cfg_sharing.specs.declared.shared.Shared.{Shared}
use Rattle.cfg_sharing.specs.Readings.{handed_after, AreSorted}
use Rattle.cfg_sharing.specs.Receipts.{receipts_of}
use Rattle.cfg_sharing.specs.Strays.{IsStrayCount}
use Rattle.cfg_sharing.specs.Histories.{recorded_by, entries_in, receipts_in, handed_in, recorded_in}
use Rattle.cfg_sharing.specs.Agreement.{Agrees, Differs, HasStray}
use Rattle.cfg_sharing.proofs.OneOrder.{one_sorted_list}
use Rattle.cfg_sharing.proofs.Straying.{none_is_stray}
use Rattle.cfg_program.specs.declared.status.Status.{Status}
use Rattle.cfg_program.specs.declared.status.Status.TheVariants as status
use Rattle.cfg_program.specs.Lines.{shown}
use Rattle.cfg_program.specs.Shares.{Caller, caller_lines, last_is_given, entries_of, receipts_of_all, handed_of, shown_records, shown_difference, TellsRecords, TellsLast}
use Rattle.cfg_program.specs.Sharing.{caller_of, callers_of, TellsCallers, TellsAgreement, TellsDiffering}

-- ---- one caller more

last_behind : (callers : List Caller) (c : Caller) → last_is_given (callers ++ c ∷ []) ≡ is_ok c.out
last_behind [] c = refl
last_behind (a ∷ []) c = refl
last_behind (a ∷ b ∷ callers) c = last_behind (b ∷ callers) c

all_behind : {X : Type 0} (P : X → Type 0) (xs : List X) (x : X) → AllByRecursion P xs → P x → AllByRecursion P (xs ++ x ∷ [])
all_behind P [] x all p = (p, tt)
all_behind P (y ∷ xs) x all p = (all.0, all_behind P xs x all.1 p)

pub no_callers : (lines : List ℕ) → lines ≡ [] → TellsCallers [] false lines
no_callers lines none = record { answered = tt; given = refl; shows = none }

pub callers_more : (calls : List (Called Script)) (i : ℕ) (one : Called Script) (was is : Bool) (lines more : List ℕ)
    → i < length calls → one ≡ get_or calls i one → TellsCallers (callers_of (take i calls)) was lines
    → is_memory one.answered.outcome ≡ false
    → is ≡ is_ok one.answered.outcome → more ≡ lines ++ shown one.answered.outcome one.world.journal
    → TellsCallers (callers_of (take (i + 1) calls)) is more
callers_more calls i one was is lines more lt at so_far answered given shows =
    let so = callers_of (take i calls) in
    let line = shown one.answered.outcome one.world.journal in
    let mapped = sym (map-append caller_of (take i calls) (get_or calls i one ∷ [])) in
    let next : so ++ caller_of one ∷ [] ≡ callers_of (take (i + 1) calls) =
    ap (λ (x : Called Script). so ++ caller_of x ∷ []) at ∙ mapped ∙ ap callers_of (sym (take_more calls i one lt)) in
    let lines_next : caller_lines (so ++ caller_of one ∷ []) ≡ caller_lines so ++ line =
    flat_map-append (λ c. shown c.out c.journal) so (caller_of one ∷ []) ∙ ap (λ (l : List ℕ). caller_lines so ++ l) (append-nil line) in
    subst (λ (c : List Caller). TellsCallers c is more) next (record {
      answered = all_behind (λ c. is_memory c.out ≡ false) so (caller_of one) so_far.answered answered;
      given = given ∙ sym (last_behind so (caller_of one));
      shows = shows ∙ ap (λ (l : List ℕ). l ++ line) so_far.shows ∙ sym lines_next;
    })

-- ---- the last line

-- how many readings are recorded
recorded_count : (token : Option EitherState) (handed : List Moment)
    → (IsSome (state_key token) → (sorted : List Moment) × AreSorted sorted handed × AreSorted sorted (flat_map handed_after (recorded_by token)))
    → length (flat_map handed_after (recorded_by token)) ≡ (if is_some (state_key token) then length handed else 0)
recorded_count None handed same = refl
recorded_count (Some state) handed same =
    let s = same refl in
    sym (length_permutation (flat_map handed_after (recorded_by (Some state))) s.0 s.2.same) ∙ length_permutation handed s.0 s.1.same

module _ (shared : Shared Script) (key : Option TokenKey) (is_key : kept_key shared.kept ≡ key) where
  entries_is : entries_of (callers_of shared.calls) ≡ entries_in shared.calls
  entries_is = flat_map-map (λ c. c.journal) caller_of shared.calls

  receipts_is : receipts_of_all (callers_of shared.calls) ≡ receipts_in shared.calls
  receipts_is = flat_map-map (λ c. flat_map receipts_of c.found) caller_of shared.calls

  handed_is : handed_of (callers_of shared.calls) ≡ handed_in shared.calls
  handed_is = flat_map-map (λ c. handed_after c.journal) caller_of shared.calls

  pub tells_records : (recorded : List Moment) → AreSorted recorded (recorded_in shared.kept) → Agrees shared
      → TellsRecords key (callers_of shared.calls) (shown_records (length recorded))
  tells_records recorded sorted agrees = record {
    receipts = subst (λ (r : List Pair). All (Contains (entries_of (callers_of shared.calls))) r) (sym receipts_is)
        (subst (λ (e : List Pair). All (Contains e) (receipts_in shared.calls)) (sym entries_is) agrees.receipts);
    shows = ap shown_records (
        length_permutation (recorded_in shared.kept) recorded sorted.same
        ∙ recorded_count (kept_token shared.kept) (handed_in shared.calls) (λ k. let r = agrees.history k in (r.sorted, r.handed, r.recorded))
        ∙ ap (λ (o : Option TokenKey). if is_some o then length (handed_in shared.calls) else 0) is_key
        ∙ ap (λ (h : List Moment). if is_some key then length h else 0) (sym handed_is)
        );
  }

  by_last : (b : Bool) (ended : Status) (line : List ℕ) → last_is_given (callers_of shared.calls) ≡ b
      → ended ≡ (if b then status.Done else status.Refused) → TellsRecords key (callers_of shared.calls) line
      → TellsLast key (callers_of shared.calls) ended line
  by_last true ended line e is t = subst (λ (s : Status). TellsLast key (callers_of shared.calls) s line) (sym is) (e, t)
  by_last false ended line e is t = subst (λ (s : Status). TellsLast key (callers_of shared.calls) s line) (sym is) (e, t)

  pub agreement_told : (ended : Status) (lines : List ℕ) (t : TellsAgreement shared ended lines) → Agrees shared
      → TellsLast key (callers_of shared.calls) ended (shown_records (length t.recorded))
  agreement_told ended lines t agrees = by_last (last_is_given (callers_of shared.calls)) ended _ refl t.ends (tells_records t.recorded t.sorted agrees)

  differ_so : (handed recorded : List Moment) (strays : ℕ) → AreSorted handed (handed_in shared.calls)
      → AreSorted recorded (recorded_in shared.kept) → IsStrayCount (entries_in shared.calls) (receipts_in shared.calls) strays
      → Differs shared ⊎ HasStray shared → (IsSome key × ((handed ≡ recorded) → ⊥)) ⊎ ((strays ≡ 0) → ⊥)
  differ_so handed recorded strays h r s (inl d) =
      let one_handed : d.sorted_handed ≡ handed = one_sorted_list (handed_in shared.calls) d.sorted_handed handed d.handed h in
      let one_recorded : recorded ≡ d.sorted_recorded = one_sorted_list (recorded_in shared.kept) recorded d.sorted_recorded r d.recorded in
      inl (subst (λ (o : Option TokenKey). IsSome o) is_key d.key, λ same. d.differ (one_handed ∙ same ∙ one_recorded))
  differ_so handed recorded strays h r s (inr d) =
      inr (λ none. d.stray (none_is_stray (entries_in shared.calls) (receipts_in shared.calls) strays d.receipt s none d.carried))

  pub difference_told : (ended : Status) (lines : List ℕ) (t : TellsDiffering shared ended lines) → Differs shared ⊎ HasStray shared
      → TellsLast key (callers_of shared.calls) ended (shown_difference t.handed t.recorded t.strays)
  difference_told ended lines t cause =
      subst (λ (s : Status). TellsLast key (callers_of shared.calls) s (shown_difference t.handed t.recorded t.strays)) (sym t.ends) (record {
        handed = t.handed;
        recorded = t.recorded;
        strays = t.strays;
        sorted = subst (λ (h : List Moment). AreSorted t.handed h) (sym handed_is) t.sorted_handed;
        counted = subst (λ (r : List Pair). IsStrayCount (entries_of (callers_of shared.calls)) r t.strays) (sym receipts_is)
            (subst (λ (e : List Pair). IsStrayCount e (receipts_in shared.calls) t.strays) (sym entries_is) t.counted);
        differ = differ_so t.handed t.recorded t.strays t.sorted_handed t.sorted_recorded t.counted cause;
        shows = refl;
      })

-- ---- the status

pub ends_by_last : (callers : List Caller) (is_given : Bool) (told : List ℕ) (ended : Status)
    → ended ≡ (if is_given then status.Done else status.Refused) → TellsCallers callers is_given told
    → ended ≡ (if last_is_given callers then status.Done else status.Refused)
ends_by_last callers is_given told ended ends t = ends ∙ ap (λ (b : Bool). if b then status.Done else status.Refused) t.given
