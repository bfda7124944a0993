-- Calls that are made one after another.
use Rattle.std.proofs.Common.{◌≡◌, ℕ, ◌+◌, List, [], ◌∷◌, ◌++◌, length, Bool, false, refl, ◌∙◌, sym, ap, subst, length-append, append_assoc}
use Rattle.std.specs.Prelude.{is_ok}
use Rattle.std.proofs.lemmas.List.{append-nil}
use Rattle.std.proofs.lemmas.Grind.{flat_map-append}
use Rattle.cfg_world.specs.declared.devices.Devices.{Ghosts}
use Rattle.cfg_world.specs.Asked.{Same, StandsOn}
use Rattle.cfg_world.specs.Fits.{Pair}
use Rattle.cfg_world.specs.Held.{Held}
use Rattle.cfg_world.specs.Script.{Script, Allows, Stands, start}
use Rattle.cfg_providers.specs.CustomSources.{Answer}
use Rattle.cfg_kept.specs.Kinds.{Value}
use Rattle.cfg_program.specs.Calls.{MadeOn, Telling, InTurn, asked_by, lines_of, last_is_ok, MakesCall, MakesCalls, AnswersFrom}

-- calls behind other calls
pub last_of_both : {S : Type 0} (calls : List (MadeOn S)) (call : MadeOn S) (more : List (MadeOn S))
    → last_is_ok (calls ++ call ∷ more) ≡ last_is_ok (call ∷ more)
last_of_both [] call more = refl
last_of_both (c ∷ []) call more = refl
last_of_both (c ∷ d ∷ calls) call more = last_of_both (d ∷ calls) call more

pub asked_by_both : {S : Type 0} (calls more : List (MadeOn S)) → asked_by (calls ++ more) ≡ asked_by calls ++ asked_by more
asked_by_both calls more = flat_map-append (λ c. c.journal) calls more

pub lines_of_both : {S : Type 0} (tells : Telling) (calls more : List (MadeOn S)) → lines_of tells (calls ++ more) ≡ lines_of tells calls ++ lines_of tells more
lines_of_both tells calls more = flat_map-append (λ c. tells c.out c.journal) calls more

module _ {S : Type 0} (IsOne : S → MadeOn S → Type 0) where
  pub in_turn_both : (before between after : S) (calls more : List (MadeOn S)) → InTurn IsOne before calls between
      → InTurn IsOne between more after → InTurn IsOne before (calls ++ more) after
  in_turn_both before between after [] more made next = subst (λ k. InTurn IsOne k more after) made next
  in_turn_both before between after (c ∷ calls) more made next = (made.0, in_turn_both c.kept between after calls more made.1 next)

  module _ {D : Type 0} (d : Ghosts D) (tells : Telling) where
    -- one call, made and told, behind which this is kept
    pub one_call : (old new kept : S) (found : List Value) (before cleared later : Held D) (part : List Pair) (out : Answer) (ok : Bool) (lines more : List ℕ)
        → cleared ≡ record before { journal = [] } → later.journal ≡ cleared.journal ++ part
        → Same (d.allows cleared.devices) (d.allows later.devices) → StandsOn (d.stands cleared.devices) (d.stands later.devices) part
        → IsOne old (record { found = found; journal = part; out = out; kept = new }) → kept ≡ new → ok ≡ is_ok out
        → more ≡ lines ++ tells out later.journal
        → MakesCall IsOne d tells old kept before.devices later.devices ok lines more
    one_call old new kept found before cleared later part out ok lines more empty grows same stands made keeps credentials shows =
        let devices : cleared.devices ≡ before.devices = ap (λ w. w.devices) empty in
        let journal : later.journal ≡ part = grows ∙ ap (λ w. w.journal ++ part) empty in
        record {
          call = record { found = found; journal = part; out = out; kept = new };
          made = made;
          left = sym keeps;
          same = subst (λ x. Same (d.allows x) (d.allows later.devices)) devices same;
          stands = subst (λ x. StandsOn (d.stands x) (d.stands later.devices) part) devices stands;
          credentials = credentials;
          shows = shows ∙ ap (λ j. lines ++ tells out j) journal;
        }

    -- before the first
    pub none_made : (was : D) (kept : S) (lines : List ℕ) → MakesCalls IsOne d tells 0 kept kept was was false lines lines
    none_made was kept lines = record {
      calls = [];
      counted = refl;
      made = refl;
      same = record { to = λ entries h. h; from = λ entries h. h };
      stands = λ entries h. subst (d.stands was) (sym (append-nil entries)) h;
      credentials = refl;
      shows = sym (append-nil lines);
    }

    -- one more
    pub one_more : (was now later : D) (before kept left : S) (count : ℕ) (ok next : Bool) (none lines more : List ℕ)
        → MakesCalls IsOne d tells count before kept was now ok none lines
        → MakesCall IsOne d tells kept left now later next lines more → MakesCalls IsOne d tells (count + 1) before left was later next none more
    one_more was now later before kept left count ok next none lines more so_far makes =
        let call = makes.call in
        let asked : asked_by so_far.calls ++ call.journal ≡ asked_by (so_far.calls ++ call ∷ []) =
        sym (asked_by_both so_far.calls (call ∷ []) ∙ ap (λ j. asked_by so_far.calls ++ j) (append-nil call.journal)) in
        let line = tells call.out call.journal in
        let shown : lines_of tells so_far.calls ++ line ≡ lines_of tells (so_far.calls ++ call ∷ []) =
        sym (lines_of_both tells so_far.calls (call ∷ []) ∙ ap (λ l. lines_of tells so_far.calls ++ l) (append-nil line)) in
        record {
          calls = so_far.calls ++ call ∷ [];
          counted = length-append so_far.calls (call ∷ []) ∙ ap (λ n. n + 1) so_far.counted;
          made = in_turn_both before kept left so_far.calls (call ∷ []) so_far.made (makes.made, sym makes.left);
          same = record { to = λ entries h. makes.same.to entries (so_far.same.to entries h); from = λ entries h. so_far.same.from entries (makes.same.from entries h) };
          stands = λ entries h.
              subst (d.stands later) (append_assoc entries (asked_by so_far.calls) call.journal ∙ ap (λ l. entries ++ l) asked)
              (makes.stands (entries ++ asked_by so_far.calls) (so_far.stands entries h));
          credentials = makes.credentials ∙ sym (last_of_both so_far.calls call []);
          shows = makes.shows ∙ ap (λ l. l ++ line) so_far.shows ∙ append_assoc none (lines_of tells so_far.calls) line ∙ ap (λ l. none ++ l) shown;
        }

  -- the calls over scripted devices that nothing was asked of, on what is kept first
  pub all_made : (tells : Telling) (was now : Script) (first old kept : S) (count : ℕ) (ok : Bool) (none lines : List ℕ) (calls : List (MadeOn S)) →
      length calls ≡ count → InTurn IsOne old calls kept → Same (Allows was) (Allows now) → StandsOn (Stands was) (Stands now) (asked_by calls) →
      ok ≡ last_is_ok calls → lines ≡ none ++ lines_of tells calls →
      was.place ≡ start → old ≡ first → none ≡ [] → AnswersFrom IsOne first was.lists count tells ok lines
  all_made tells was now first old kept count ok none lines calls counted made same stands credentials shows fresh is_first empty = record {
    calls = calls;
    kept = kept;
    counted = counted;
    made = subst (λ k. InTurn IsOne k calls kept) is_first made;
    agrees = same.from (asked_by calls) (stands [] (tt, sym fresh)).0;
    credentials = credentials;
    shows = shows ∙ ap (λ l. l ++ lines_of tells calls) empty;
  }
