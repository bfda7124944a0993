-- What a chain over given members came to after each member.
use Rattle.std.proofs.Common.{◌≡◌, ℕ, zero, suc, ◌+◌, ◌<◌, ◌≤◌, List, [], ◌∷◌, ◌++◌, Option, Some, None, IfSome, IsSome, Result, Ok, Err, inl, inr, get_or, set, map, length, refl, sym, ap, ◌∙◌, subst, append_assoc, append-nil, add-one, arith}
use Rattle.std.proofs.lemmas.List.{length-map}
use Rattle.cfg_types.specs.declared.errors.ProviderAttempt.{ProviderAttempt}
use Rattle.cfg_world.specs.declared.ask.Question.{Question}
use Rattle.cfg_world.specs.declared.asking.Asking.{Ghosts}
use Rattle.cfg_world.specs.declared.asking.Stop.{Stop}
use Rattle.cfg_world.specs.declared.asking.Stop.TheVariants.{OutOfMemory, Open}
use Rattle.cfg_world.specs.Asked.{StandsOn}
use Rattle.cfg_world.specs.Fits.{Pair, EachFits}
use Rattle.cfg_world.proofs.Counts.{Same-refl, Same-trans, StandsOn-none, StandsOn-then, Counted-none, Counted-then}
use Rattle.cfg_kept.specs.declared.kept.Kept.{Kept}
use Rattle.cfg_kept.specs.Holds.{HoldsEnds}
use Rattle.cfg_kept.specs.KeptInquiry.{KeptInquiry, Asks, found_by, kept_after}
use Rattle.cfg_kept.specs.KeptStates.{kept_holdings, states_of}
use Rattle.cfg_kept.proofs.Told.{told, told_back, run_begins}
use Rattle.cfg_meta.specs.AnswerRules.{AnswerRules, passed_over, attempt_of}
use Rattle.cfg_meta.specs.MemberParts.{Keeping, keeping_of, IsMemberPart, IsMemberQuestion, IsMemberBeginning, HasBegun, GoesThrough, AreMemberParts, AskNext, AreBegunParts}
use Rattle.cfg_meta.specs.FollowsMembers.{FollowsMember, GrewBy, MembersEnd, MembersWait, MembersBreak, MembersHalt}
use Rattle.cfg_meta.proofs.PassedMembers.{Passed, passed_more, goes_to_end, goes_to_member}

pub some_is : {A : Type 0} (x y : A) → ◌≡◌ {A = Option A} (Some x) (Some y) → x ≡ y
some_is x y h = cc

abbrev answered : {A E : Type 0} → A → Result A E
answered x = Ok x

not_stopped : {A E : Type 0} (x : A) (e : E) → answered x ≡ Err e → ⊥
not_stopped x e h = absurd cc

not_waiting : {A : Type 0} → ◌≡◌ {A = Result A Stop} (Err Open) (Err OutOfMemory) → ⊥
not_waiting h = absurd cc

fits_append : (one other : List Pair) → EachFits one → EachFits other → EachFits (one ++ other)
fits_append [] other h k = k
fits_append (e ∷ one) other h k = (h.0, fits_append one other h.1 k)

-- what lists of one image say at a place
pub same_at : {A B C : Type 0} (f : A → C) (g : B → C) (xs : List A) (ys : List B) (i : ℕ) (d : A) (e : B) → map f xs ≡ map g ys → i < length ys → f (get_or xs i d) ≡ g (get_or ys i e)
same_at f g [] [] i d e h lt = absurd (omega arith)
same_at f g [] (y ∷ ys) i d e h lt = absurd cc
same_at f g (x ∷ xs) [] i d e h lt = absurd (omega arith)
same_at f g (x ∷ xs) (y ∷ ys) zero d e h lt = cc
same_at f g (x ∷ xs) (y ∷ ys) (suc i) d e h lt = let rest : map f xs ≡ map g ys = cc in same_at f g xs ys i d e rest (omega arith)

pub same_length : {A B C D : Type 0} (f : A → C) (g : B → C) (h : A → D) (xs : List A) (ys : List B) → map f xs ≡ map g ys → length (map h xs) ≡ length ys
same_length f g h xs ys e = length-map xs h ∙ sym (length-map xs f) ∙ ap length e ∙ length-map ys g

module _ {W : Type 0} {w : Ghosts W} where
  grew_none : (old : W) → GrewBy w [] old old
  grew_none old = record { grows = sym (append-nil (w.journal old)); fits = tt; made = refl; same = Same-refl _; counted = Counted-none _ }

  grew_then : {old mid new : W} {one other : List Pair} → GrewBy w one old mid → GrewBy w other mid new → GrewBy w (one ++ other) old new
  grew_then {old = old} {one = one} {other = other} a b = record {
    grows = b.grows ∙ ap (λ t. t ++ other) a.grows ∙ append_assoc (w.journal old) one other;
    fits = fits_append one other a.fits b.fits;
    made = b.made ∙ a.made;
    same = Same-trans a.same b.same;
    counted = Counted-then a.counted b.counted;
  }

-- a whole part is a beginning
pub part_begins : {R : Type 0} (is_tree : KeptInquiry R → Type 0) (old new : Keeping) (part : List Pair) (given : R) → IsMemberPart is_tree old new part given → IsMemberBeginning is_tree old new part
part_begins is_tree old new part given m =
    let found = found_by m.tree old.states part in
    record {
      tree = m.tree;
      is_its = m.is_its;
      found = found;
      finds = m.finds;
      begins = run_begins m.tree (Some old.states) (Some new.states) found part given (told_back m.tree old.states (Some new.states) found part given (refl, ap Some m.keeps, m.reads));
    }

-- ---- one member

same_keeping : (before later : Kept) → kept_holdings later ≡ kept_holdings before → keeping_of later ≡ keeping_of before
same_keeping before later h =
    let states : states_of later ≡ states_of before = some_is (states_of later) (states_of before) (ap (λ x. x.kept) h) in
    let found : (keeping_of later).found ≡ (keeping_of before).found = ap (λ x. x.found) h in
    λ i. record { states = states i; found = found i }

module _ {W R : Type 0} (w : Ghosts W) (is_tree : KeptInquiry R → Type 0) (old : W) (before : Kept) (new : W) (later : Kept) where
  -- It answered over a part of its own.
  pub record Answered (given : R) : Type 0 where
    pub part : List Pair
    pub grew : GrewBy w part old new
    pub stands : StandsOn (w.stands old) (w.stands new) part
    pub mine : IsMemberPart is_tree (keeping_of before) (keeping_of later) part given

  -- It waits for an answer.
  pub record Waits : Type 0 where
    pub part : List Pair
    pub grew : GrewBy w part old new
    pub stands : StandsOn (w.stands old) (w.stands new) part
    pub asks : IfSome (w.open_question new) (λ question. IsMemberQuestion is_tree (keeping_of before) (keeping_of later) part question)
    pub is_open : IsSome (w.open_question new)

  -- It has begun, or not yet.
  pub record Begun : Type 0 where
    pub part : List Pair
    pub grew : GrewBy w part old new
    pub mine : HasBegun is_tree (keeping_of before) (keeping_of later) part

  ends_answered : (tree : KeptInquiry R) → is_tree tree → (given : R) → HoldsEnds w tree old (kept_holdings before) new (kept_holdings later) given → Answered given
  ends_answered tree its given e =
      let t = told tree (states_of before) (Some (states_of later)) e.found e.part given e.runs in
      record {
        part = e.part;
        grew = record { grows = e.grows; fits = e.fits; made = e.made; same = e.same; counted = e.counted };
        stands = e.stands;
        mine = record {
          tree = tree;
          is_its = its;
          reads = t.2;
          finds = e.finds ∙ ap (λ f. (keeping_of before).found ++ f) t.0;
          keeps = some_is (states_of later) (kept_after tree (states_of before) e.part) t.1;
        };
      }

  pub member_answered : (given : R) → FollowsMember w is_tree old (kept_holdings before) new (kept_holdings later) (Ok given) → Answered given
  member_answered given (inl n) = absurd (not_stopped given OutOfMemory n.0)
  member_answered given (inr h) = ends_answered h.0 h.1 given h.2

  asks_if : (tree : KeptInquiry R) → is_tree tree → (found : List _) (part : List Pair) → (keeping_of later).found ≡ (keeping_of before).found ++ found → (left : Option Question) →
      IfSome left (λ q. Asks tree (Some (states_of before)) found part q (Some (states_of later))) → IfSome left (λ question. IsMemberQuestion is_tree (keeping_of before) (keeping_of later) part question)
  asks_if tree its found part finds None h = h
  asks_if tree its found part finds (Some q) h = record { tree = tree; is_its = its; found = found; finds = finds; asks = h }

  pub member_waits : FollowsMember w is_tree old (kept_holdings before) new (kept_holdings later) (Err Open) → Waits
  member_waits (inl n) = absurd (not_waiting n.0)
  member_waits (inr h) =
      let e = h.2 in
      record {
        part = e.part;
        grew = record { grows = e.grows; fits = e.fits; made = e.made; same = e.same; counted = e.counted };
        stands = e.stands;
        asks = asks_if h.0 h.1 e.found e.part e.finds (w.open_question new) e.asks;
        is_open = e.is_open;
      }

  pub member_begun : FollowsMember w is_tree old (kept_holdings before) new (kept_holdings later) (Err OutOfMemory) → Begun
  member_begun (inl n) = record {
    part = [];
    grew = subst (λ x. GrewBy w [] old x) (sym n.1) (grew_none old);
    mine = inr (refl, same_keeping before later n.2);
  }
  member_begun (inr h) =
      let e = h.2 in
      record {
        part = e.part;
        grew = record { grows = e.grows; fits = e.fits; made = e.made; same = e.same; counted = e.counted };
        mine = inl (record { tree = h.0; is_its = h.1; found = e.found; finds = e.finds; begins = e.begins });
      }

  answered_begun : (given : R) → FollowsMember w is_tree old (kept_holdings before) new (kept_holdings later) (Ok given) → Begun
  answered_begun given follows =
      let a = member_answered given follows in
      record { part = a.part; grew = a.grew; mine = inl (part_begins is_tree (keeping_of before) (keeping_of later) a.part given a.mine) }

-- ---- the members so far

module _ {W M V E : Type 0} (w : Ghosts W) (rules : AnswerRules E) (name_of : M → List ℕ) (is_tree : M → KeptInquiry (Result V E) → Type 0) (members : List M) (olds : List Keeping) (old : W) where
  -- So many members were passed over, and these attempts tell of them.
  pub record MembersPassed (news : List Keeping) (mid : W) (i : ℕ) (attempts : List (ProviderAttempt E)) : Type 0 where
    pub part : List Pair
    pub grew : GrewBy w part old mid
    pub stands : StandsOn (w.stands old) (w.stands mid) part
    pub passed : Passed rules name_of is_tree i members [] olds news part attempts

  pub members_start : MembersPassed olds old 0 []
  members_start = record { part = []; grew = grew_none old; stands = StandsOn-none (w.stands old); passed = (refl, refl, refl) }

  module _ (news then : List Keeping) (mid : W) (i : ℕ) (member : M) (k : Keeping) (attempts : List (ProviderAttempt E)) (one : Kept) (new : W) (later : Kept)
      (led : MembersPassed news mid i attempts) (lt : i < length members) (len : length olds ≡ length members)
      (is_member : member ≡ get_or members i member) (is_one : keeping_of one ≡ get_or news i k) (is_then : then ≡ set news i (keeping_of later)) where
    -- at the place of the member, in the lists that stand there
    here : (P : M → Keeping → Type 0) → P member (keeping_of one) → P (get_or members i member) (get_or news i k)
    here P p = subst (λ m. P m (get_or news i k)) is_member (subst (λ x. P member x) is_one p)

    -- a member was passed over
    pub members_passed : (given : Result V E) (e : E) (more : List (ProviderAttempt E)) → FollowsMember w (is_tree member) mid (kept_holdings one) new (kept_holdings later) (Ok given) → passed_over rules given ≡ Some e →
        more ≡ attempts ++ attempt_of (name_of member) e ∷ [] → MembersPassed then new (i + 1) more
    members_passed given e more follows is grown =
        let a = member_answered w (is_tree member) mid one new later given follows in
        let tells : more ≡ attempts ++ attempt_of (name_of (get_or members i member)) e ∷ [] = grown ∙ ap (λ m. attempts ++ attempt_of (name_of m) e ∷ []) is_member in
        subst (λ n. MembersPassed then new n more) (sym (add-one i))
        (record {
          part = led.part ++ a.part;
          grew = grew_then led.grew a.grew;
          stands = StandsOn-then (w.stands old) (w.stands mid) (w.stands new) led.part a.part led.stands a.stands;
          passed = subst (λ t. Passed rules name_of is_tree (suc i) members [] olds then (led.part ++ a.part) t) (sym tells)
              (subst (λ t. Passed rules name_of is_tree (suc i) members [] olds t (led.part ++ a.part) (attempts ++ attempt_of (name_of (get_or members i member)) e ∷ [])) (sym is_then)
              (passed_more rules name_of is_tree i members [] attempts olds news led.part a.part member k (keeping_of later) given e led.passed lt len (here (λ m x. IsMemberPart (is_tree m) x (keeping_of later) a.part given) a.mine) is));
        })

    -- its answer is the chain's
    pub members_answer : (given out : Result V E) → FollowsMember w (is_tree member) mid (kept_holdings one) new (kept_holdings later) (Ok given) → passed_over rules given ≡ None → out ≡ given →
        MembersEnd w rules name_of is_tree members olds then old new out
    members_answer given out follows is same_answer =
        let a = member_answered w (is_tree member) mid one new later given follows in
        subst (λ r. MembersEnd w rules name_of is_tree members olds then old new r) (sym same_answer)
        (subst (λ t. MembersEnd w rules name_of is_tree members olds t old new given) (sym is_then)
        (record {
          part = led.part ++ a.part;
          grew = grew_then led.grew a.grew;
          stands = StandsOn-then (w.stands old) (w.stands mid) (w.stands new) led.part a.part led.stands a.stands;
          parts = goes_to_member rules name_of is_tree _ _ i members [] attempts olds news led.part a.part member k (keeping_of later) led.passed lt len
              (here (λ m x. IsMemberPart (is_tree m) x (keeping_of later) a.part given) a.mine, is);
        }))

    asks_next : (part : List Pair) (left : Option Question) → IfSome left (λ question. IsMemberQuestion (is_tree member) (keeping_of one) (keeping_of later) part question) →
        IfSome left (λ question. AskNext rules name_of is_tree members olds (set news i (keeping_of later)) (led.part ++ part) question)
    asks_next part None h = h
    asks_next part (Some q) h =
        goes_to_member rules name_of is_tree (λ m o n p. IsMemberQuestion (is_tree m) o n p q) (λ _. ⊥) i members [] attempts olds news led.part part member k (keeping_of later) led.passed lt len
        (here (λ m x. IsMemberQuestion (is_tree m) x (keeping_of later) part q) h)

    members_wait : FollowsMember w (is_tree member) mid (kept_holdings one) new (kept_holdings later) (Err Open) → MembersWait w rules name_of is_tree members olds then old new
    members_wait follows =
        let a = member_waits w (is_tree member) mid one new later follows in
        subst (λ t. MembersWait w rules name_of is_tree members olds t old new) (sym is_then)
        (record {
          part = led.part ++ a.part;
          grew = grew_then led.grew a.grew;
          stands = StandsOn-then (w.stands old) (w.stands mid) (w.stands new) led.part a.part led.stands a.stands;
          asks = asks_next a.part (w.open_question new) a.asks;
          is_open = a.is_open;
        })

    breaks_by : Begun w (is_tree member) mid one new later → MembersBreak w rules name_of is_tree members olds then old new
    breaks_by a =
        subst (λ t. MembersBreak w rules name_of is_tree members olds t old new) (sym is_then)
        (record {
          part = led.part ++ a.part;
          grew = grew_then led.grew a.grew;
          begun = goes_to_member rules name_of is_tree (λ m o n p. HasBegun (is_tree m) o n p) (λ _. Unit {0}) i members [] attempts olds news led.part a.part member k (keeping_of later) led.passed lt len
              (here (λ m x. HasBegun (is_tree m) x (keeping_of later) a.part) a.mine);
        })

    -- it stopped: at an open question, or out of memory
    pub members_halt : (stop : Stop) → FollowsMember w (is_tree member) mid (kept_holdings one) new (kept_holdings later) (Err stop) → MembersHalt w rules name_of is_tree members olds then old new stop
    members_halt Open follows = members_wait follows
    members_halt OutOfMemory follows = breaks_by (member_begun w (is_tree member) mid one new later follows)

    -- memory ran out behind it
    pub members_break_later : (given : Result V E) → FollowsMember w (is_tree member) mid (kept_holdings one) new (kept_holdings later) (Ok given) → MembersBreak w rules name_of is_tree members olds then old new
    members_break_later given follows = breaks_by (answered_begun w (is_tree member) mid one new later given follows)

  -- all were passed over
  pub members_none : (news : List Keeping) (mid : W) (i : ℕ) (attempts : List (ProviderAttempt E)) (out : Result V E) → MembersPassed news mid i attempts → length members ≤ i → out ≡ Err (rules.none_loaded attempts) →
      MembersEnd w rules name_of is_tree members olds news old mid out
  members_none news mid i attempts out led le is = record {
    part = led.part;
    grew = led.grew;
    stands = led.stands;
    parts = goes_to_end rules name_of is_tree _ _ i members [] attempts olds news led.part led.passed le is;
  }

-- ---- a finished call is a beginning

module _ {M V E : Type 0} (rules : AnswerRules E) (name_of : M → List ℕ) (is_tree : M → KeptInquiry (Result V E) → Type 0) (out : Result V E) where
  begun_through : (members : List M) (attempts : List (ProviderAttempt E)) (olds news : List Keeping) (part : List Pair) →
      GoesThrough rules name_of is_tree (λ member old new mine. IsMemberPart (is_tree member) old new mine out × (passed_over rules out ≡ None)) (λ told. out ≡ Err (rules.none_loaded told)) members attempts olds news part →
      GoesThrough rules name_of is_tree (λ member old new mine. HasBegun (is_tree member) old new mine) (λ told. Unit {0}) members attempts olds news part
  begun_through [] attempts olds news part h = (h.0, h.1, tt)
  begun_through (member ∷ members) attempts [] news part h = absurd h
  begun_through (member ∷ members) attempts (old ∷ olds) [] part h = absurd h
  begun_through (member ∷ members) attempts (old ∷ olds) (new ∷ news) part (inl h) =
      inl (h.0, h.1, h.2, h.3, h.4, h.5, h.6, begun_through members (attempts ++ attempt_of (name_of member) h.3 ∷ []) olds news h.1 h.7)
  begun_through (member ∷ members) attempts (old ∷ olds) (new ∷ news) part (inr h) = inr (inl (part_begins (is_tree member) old new part out h.0.0), h.1)

  pub parts_begun : (members : List M) (olds news : List Keeping) (part : List Pair) → AreMemberParts rules name_of is_tree members olds news part out → AreBegunParts rules name_of is_tree members olds news part
  parts_begun members olds news part h = begun_through members [] olds news part h
