-- What scripted devices allow, each list in its own order.
use Rattle.std.proofs.Common.{arith, ◌≡◌, ℕ, zero, suc, ◌+◌, Bool, true, false, List, [], ◌∷◌, ◌++◌, Some, refl, sym, ap, ◌∙◌, subst}
use Rattle.std.specs.Prelude.{get_or, set, unwrap_or, slice_get, min, length, nat_lt, if◌then◌else◌}
use Rattle.std.proofs.lemmas.List.{append_assoc, append-nil, get_or-set_other}
use Rattle.std.proofs.lemmas.Option.{slice_get_past}
use Rattle.std.proofs.lemmas.Bool.{ltb-true, ltb-false, eqb-true, eqb-false, eq-eqb}
use Rattle.cfg_types.specs.declared.reply.FailKind.TheVariants.{Io}
use Rattle.cfg_world.specs.declared.ask.Question.{Question}
use Rattle.cfg_world.specs.declared.ask.Question.TheVariants as question
use Rattle.cfg_world.specs.declared.ask.Answer.{Answer}
use Rattle.cfg_world.specs.declared.ask.Answer.TheVariants as answer
use Rattle.cfg_world.specs.declared.script.DeviceLists.{DeviceLists}
use Rattle.cfg_world.specs.Fits.{Pair}
use Rattle.cfg_world.specs.Script.{Channel, Clock, Jitter, Commands, LookUps, Http, ImdsToken, ImdsGet, AssumeRole, WebIdentity, RoleCredentials, CreateToken, SignIn, queue_of, Place, start, place_at, with_place, items_in, behind, nth_answer, step, one_further, contents_at, read_answer, is_unwritable, answer_at, place_after, Given}
use Rattle.cfg_world.specs.Ordered.{number_of, is_list, is_answered_from, answers_in, granted, writes_in, InOrder}

-- the list of this number
abbrev list_of : ℕ → Channel
list_of n = get_or (Clock ∷ Jitter ∷ Commands ∷ LookUps ∷ Http ∷ ImdsToken ∷ ImdsGet ∷ AssumeRole ∷ WebIdentity ∷ RoleCredentials ∷ CreateToken ∷ SignIn ∷ []) n SignIn

list_back : (c : Channel) → list_of (number_of c) ≡ c
list_back Clock = refl
list_back Jitter = refl
list_back Commands = refl
list_back LookUps = refl
list_back Http = refl
list_back ImdsToken = refl
list_back ImdsGet = refl
list_back AssumeRole = refl
list_back WebIdentity = refl
list_back RoleCredentials = refl
list_back CreateToken = refl
list_back SignIn = refl

same_list : (c d : Channel) → number_of c ≡ number_of d → c ≡ d
same_list c d h = sym (list_back c) ∙ ap list_of h ∙ list_back d

-- how far each list was read, by their numbers
abbrev counters : Place → List ℕ
counters p = p.clock ∷ p.jitter ∷ p.commands ∷ p.lookups ∷ p.http ∷ p.imds_token ∷ p.imds_get ∷ p.assume_role ∷ p.web_identity ∷ p.role_credentials ∷ p.create_token ∷ p.sign_in ∷ []

counted : (p : Place) (c : Channel) → place_at p c ≡ get_or (counters p) (number_of c) 0
counted p Clock = refl
counted p Jitter = refl
counted p Commands = refl
counted p LookUps = refl
counted p Http = refl
counted p ImdsToken = refl
counted p ImdsGet = refl
counted p AssumeRole = refl
counted p WebIdentity = refl
counted p RoleCredentials = refl
counted p CreateToken = refl
counted p SignIn = refl

counters_set : (p : Place) (d : Channel) (n : ℕ) → counters (with_place p d n) ≡ set (counters p) (number_of d) n
counters_set p Clock n = refl
counters_set p Jitter n = refl
counters_set p Commands n = refl
counters_set p LookUps n = refl
counters_set p Http n = refl
counters_set p ImdsToken n = refl
counters_set p ImdsGet n = refl
counters_set p AssumeRole n = refl
counters_set p WebIdentity n = refl
counters_set p RoleCredentials n = refl
counters_set p CreateToken n = refl
counters_set p SignIn n = refl

this_set : (p : Place) (d : Channel) (n : ℕ) → place_at (with_place p d n) d ≡ n
this_set p Clock n = refl
this_set p Jitter n = refl
this_set p Commands n = refl
this_set p LookUps n = refl
this_set p Http n = refl
this_set p ImdsToken n = refl
this_set p ImdsGet n = refl
this_set p AssumeRole n = refl
this_set p WebIdentity n = refl
this_set p RoleCredentials n = refl
this_set p CreateToken n = refl
this_set p SignIn n = refl

writes_kept : (p : Place) (d : Channel) (n : ℕ) → (with_place p d n).writes ≡ p.writes
writes_kept p Clock n = refl
writes_kept p Jitter n = refl
writes_kept p Commands n = refl
writes_kept p LookUps n = refl
writes_kept p Http n = refl
writes_kept p ImdsToken n = refl
writes_kept p ImdsGet n = refl
writes_kept p AssumeRole n = refl
writes_kept p WebIdentity n = refl
writes_kept p RoleCredentials n = refl
writes_kept p CreateToken n = refl
writes_kept p SignIn n = refl

other_set : (p : Place) (d c : Channel) (n : ℕ) → is_list c d ≡ false → place_at (with_place p d n) c ≡ place_at p c
other_set p d c n other =
    counted (with_place p d n) c
    ∙ ap (λ l. get_or l (number_of c) 0) (counters_set p d n)
    ∙ get_or-set_other (counters p) (number_of d) (number_of c) n 0 (eqb-false (number_of c) (number_of d) other)
    ∙ sym (counted p c)

-- the place of a list of n items that was asked so often, and one place further
step_by : (b : Bool) (asked n : ℕ) → nat_lt (min asked n) n ≡ b → (if b then min asked n + 1 else min asked n) ≡ min (asked + 1) n
step_by true asked n h = let e : min asked n + 1 ≡ min (asked + 1) n = omega (arith, ltb-true (min asked n) n h) in e
step_by false asked n h = let e : min asked n ≡ min (asked + 1) n = omega (arith, ltb-false (min asked n) n h) in e

stepped : (asked n : ℕ) → step (min asked n) n ≡ min (asked + 1) n
stepped asked n = step_by (nat_lt (min asked n) n) asked n refl

item_by : (b : Bool) (items : List Answer) (asked : ℕ) → nat_lt asked (length items) ≡ b → slice_get items (min asked (length items)) ≡ slice_get items asked
item_by true items asked h = ap (slice_get items) (let e : min asked (length items) ≡ asked = omega (arith, ltb-true asked (length items) h) in e)
item_by false items asked h =
    slice_get_past items (min asked (length items)) (omega (arith, ltb-false asked (length items) h))
    ∙ sym (slice_get_past items asked (ltb-false asked (length items) h))

-- From here on the n-th answer of this list is that of the place so many further.
abbrev FromOn : List Answer → (ℕ → Answer) → ℕ → Type 0
FromOn answers nth asked = (n : ℕ) (given : Answer) → slice_get answers n ≡ Some given → given ≡ nth (asked + n)

some_is : {X : Type 0} (a b : X) → Some a ≡ Some b → a ≡ b
some_is a b h = cc

each_more : (b : Bool) (nth : ℕ → Answer) (asked : ℕ) (a : Answer) (answers : List Answer) → (b ≡ true → a ≡ nth asked) → FromOn answers nth (if b then asked + 1 else asked) → FromOn (if b then a ∷ answers else answers) nth asked
each_more true nth asked a answers is rest zero given h = sym (some_is a given h) ∙ is refl ∙ ap nth (let e : asked ≡ asked + 0 = omega arith in e)
each_more true nth asked a answers is rest (suc n) given h = rest n given h ∙ ap nth (let e : asked + 1 + n ≡ asked + suc n = omega arith in e)
each_more false nth asked a answers is rest n given h = rest n given h

each_first : (b : Bool) (nth : ℕ → Answer) (asked : ℕ) (a : Answer) (answers : List Answer) → FromOn (if b then a ∷ answers else answers) nth asked → b ≡ true → a ≡ nth asked
each_first true nth asked a answers all h = all 0 a refl ∙ ap nth (let e : asked + 0 ≡ asked = omega arith in e)
each_first false nth asked a answers all h = absurd cc

each_rest : (b : Bool) (nth : ℕ → Answer) (asked : ℕ) (a : Answer) (answers : List Answer) → FromOn (if b then a ∷ answers else answers) nth asked → FromOn answers nth (if b then asked + 1 else asked)
each_rest true nth asked a answers all n given h = all (suc n) given h ∙ ap nth (let e : asked + suc n ≡ asked + 1 + n = omega arith in e)
each_rest false nth asked a answers all n given h = all n given h

-- A question gets the answer that its list or its file has for it.
record First (lists : DeviceLists) (asked : Channel → ℕ) (written : List (List ℕ × List ℕ)) (q : Question) (a : Answer) : Type 0 where
  each : (c : Channel) → is_answered_from c q ≡ true → a ≡ nth_answer lists c (asked c)
  reads : (path : List ℕ) → q ≡ question.Read path → a ≡ read_answer (contents_at lists written path)
  writes : (path bytes : List ℕ) → q ≡ question.Write path bytes → a ≡ (if is_unwritable lists path then answer.Failed Io else answer.Written)

-- The entries are in order behind others that asked each list so often and wrote so.
record Onward (lists : DeviceLists) (asked : Channel → ℕ) (written : List (List ℕ × List ℕ)) (entries : List Pair) : Type 0 where
  each : (c : Channel) → FromOn (answers_in c entries) (nth_answer lists c) (asked c)
  reads : (before after : List Pair) (path : List ℕ) (given : Answer) → entries ≡ before ++ (question.Read path, given) ∷ after → given ≡ read_answer (contents_at lists (written ++ writes_in lists before) path)
  writes : (before after : List Pair) (path bytes : List ℕ) (given : Answer) → entries ≡ before ++ (question.Write path bytes, given) ∷ after → given ≡ (if is_unwritable lists path then answer.Failed Io else answer.Written)

unread_at : (c : Channel) → place_at start c ≡ 0
unread_at Clock = refl
unread_at Jitter = refl
unread_at Commands = refl
unread_at LookUps = refl
unread_at Http = refl
unread_at ImdsToken = refl
unread_at ImdsGet = refl
unread_at AssumeRole = refl
unread_at WebIdentity = refl
unread_at RoleCredentials = refl
unread_at CreateToken = refl
unread_at SignIn = refl

not_split : (before after : List Pair) (e : Pair) → [] ≡ before ++ e ∷ after → ⊥
not_split [] after e h = absurd cc
not_split (b ∷ before) after e h = absurd cc

module _ (lists : DeviceLists) where
  abbrev size : Channel → ℕ
  size c = length (items_in lists c)

  -- each list was read as far as it was asked, up to its end
  abbrev ReadTo : Place → (Channel → ℕ) → Type 0
  ReadTo p asked = (c : Channel) → place_at p c ≡ min (asked c) (size c)

  abbrev asked_after : (Channel → ℕ) → Question → Channel → ℕ
  asked_after asked q c = if is_answered_from c q then asked c + 1 else asked c

  abbrev written_after : List (List ℕ × List ℕ) → Question → List (List ℕ × List ℕ)
  written_after written q = written ++ granted lists q

  moved_by : (b : Bool) (p : Place) (asked : Channel → ℕ) (d c : Channel) → is_list c d ≡ b → ReadTo p asked → place_at (one_further lists p d) c ≡ min (if b then asked c + 1 else asked c) (size c)
  moved_by true p asked d c same at = subst (λ x. place_at (one_further lists p d) x ≡ min (asked x + 1) (size x)) (sym (same_list c d (eqb-true (number_of c) (number_of d) same)))
      (this_set p d (step (place_at p d) (size d)) ∙ ap (λ n. step n (size d)) (at d) ∙ stepped (asked d) (size d))
  moved_by false p asked d c other at = other_set p d c (step (place_at p d) (size d)) other ∙ at c

  moved : (p : Place) (asked : Channel → ℕ) (d : Channel) → ReadTo p asked → (c : Channel) → place_at (one_further lists p d) c ≡ min (if is_list c d then asked c + 1 else asked c) (size c)
  moved p asked d at c = moved_by (is_list c d) p asked d c refl at

  written_read : (b : Bool) (p : Place) (asked : Channel → ℕ) (written : List (List ℕ × List ℕ)) → ReadTo p asked → ReadTo (if b then p else record p { writes = written }) asked
  written_read true p asked written at c = at c
  written_read false p asked written at c = counted (record p { writes = written }) c ∙ sym (counted p c) ∙ at c

  read_after : (p : Place) (asked : Channel → ℕ) (q : Question) → ReadTo p asked → ReadTo (place_after lists p q) (asked_after asked q)
  read_after p asked question.Now at = moved p asked Clock at
  read_after p asked question.Jitter at = moved p asked Jitter at
  read_after p asked (question.Read path) at = at
  read_after p asked (question.Write path bytes) at = written_read (is_unwritable lists path) p asked (p.writes ++ (path, bytes) ∷ []) at
  read_after p asked (question.Run command) at = moved p asked Commands at
  read_after p asked (question.LookUp host) at = moved p asked LookUps at
  read_after p asked (question.Send request) at = moved p asked (queue_of request) at

  written_by : (b : Bool) (p : Place) (path bytes : List ℕ) → (let next : Place = if b then p else record p { writes = p.writes ++ (path, bytes) ∷ [] } in next).writes ≡ p.writes ++ (if b then [] else (path, bytes) ∷ [])
  written_by true p path bytes = sym (append-nil p.writes)
  written_by false p path bytes = refl

  writes_after : (p : Place) (q : Question) → (place_after lists p q).writes ≡ written_after p.writes q
  writes_after p question.Now = sym (append-nil p.writes)
  writes_after p question.Jitter = sym (append-nil p.writes)
  writes_after p (question.Read path) = sym (append-nil p.writes)
  writes_after p (question.Write path bytes) = written_by (is_unwritable lists path) p path bytes
  writes_after p (question.Run command) = sym (append-nil p.writes)
  writes_after p (question.LookUp host) = sym (append-nil p.writes)
  writes_after p (question.Send request) = writes_kept p (queue_of request) (step (place_at p (queue_of request)) (size (queue_of request))) ∙ sym (append-nil p.writes)

  there : (p : Place) (asked : Channel → ℕ) (c : Channel) → ReadTo p asked → nth_answer lists c (place_at p c) ≡ nth_answer lists c (asked c)
  there p asked c at = ap (nth_answer lists c) (at c) ∙ ap (λ o. unwrap_or o (behind lists c)) (item_by (nat_lt (asked c) (size c)) (items_in lists c) (asked c) refl)

  from_list : (p : Place) (asked : Channel → ℕ) (d : Channel) (a : Answer) → ReadTo p asked → a ≡ nth_answer lists d (place_at p d) → (c : Channel) → is_list c d ≡ true → a ≡ nth_answer lists c (asked c)
  from_list p asked d a at is c same = subst (λ x. a ≡ nth_answer lists x (asked x)) (sym (same_list c d (eqb-true (number_of c) (number_of d) same))) (is ∙ there p asked d at)

  is_first : (p : Place) (asked : Channel → ℕ) (q : Question) (a : Answer) → ReadTo p asked → a ≡ answer_at lists p q → First lists asked p.writes q a
  is_first p asked question.Now a at is = record { each = from_list p asked Clock a at is; reads = λ path h. absurd cc; writes = λ path bytes h. absurd cc }
  is_first p asked question.Jitter a at is = record { each = from_list p asked Jitter a at is; reads = λ path h. absurd cc; writes = λ path bytes h. absurd cc }
  is_first p asked (question.Read path) a at is = record {
    each = λ c h. absurd cc;
    reads = λ other h. is ∙ ap (λ x. read_answer (contents_at lists p.writes x)) (let e : path ≡ other = cc in e);
    writes = λ other bytes h. absurd cc;
  }
  is_first p asked (question.Write path bytes) a at is = record {
    each = λ c h. absurd cc;
    reads = λ other h. absurd cc;
    writes = λ other held h. is ∙ ap (λ x. if is_unwritable lists x then answer.Failed Io else answer.Written) (let e : path ≡ other = cc in e);
  }
  is_first p asked (question.Run command) a at is = record { each = from_list p asked Commands a at is; reads = λ path h. absurd cc; writes = λ path bytes h. absurd cc }
  is_first p asked (question.LookUp host) a at is = record { each = from_list p asked LookUps a at is; reads = λ path h. absurd cc; writes = λ path bytes h. absurd cc }
  is_first p asked (question.Send request) a at is = record { each = from_list p asked (queue_of request) a at is; reads = λ path h. absurd cc; writes = λ path bytes h. absurd cc }

  first_is : (p : Place) (asked : Channel → ℕ) (q : Question) (a : Answer) → ReadTo p asked → First lists asked p.writes q a → a ≡ answer_at lists p q
  first_is p asked question.Now a at first = first.each Clock refl ∙ sym (there p asked Clock at)
  first_is p asked question.Jitter a at first = first.each Jitter refl ∙ sym (there p asked Jitter at)
  first_is p asked (question.Read path) a at first = first.reads path refl
  first_is p asked (question.Write path bytes) a at first = first.writes path bytes refl
  first_is p asked (question.Run command) a at first = first.each Commands refl ∙ sym (there p asked Commands at)
  first_is p asked (question.LookUp host) a at first = first.each LookUps refl ∙ sym (there p asked LookUps at)
  first_is p asked (question.Send request) a at first = first.each (queue_of request) (eq-eqb (number_of (queue_of request)) (number_of (queue_of request)) refl) ∙ sym (there p asked (queue_of request) at)

  module _ (asked : Channel → ℕ) (written : List (List ℕ × List ℕ)) (e : Pair) (entries : List Pair) where
    -- the writes before an entry, with those of the first one
    one_before : (before : List Pair) (path : List ℕ) → read_answer (contents_at lists (written_after written e.0 ++ writes_in lists before) path) ≡ read_answer (contents_at lists (written ++ writes_in lists (e ∷ before)) path)
    one_before before path = ap (λ w. read_answer (contents_at lists w path)) (append_assoc written (granted lists e.0) (writes_in lists before))

    onward : First lists asked written e.0 e.1 → Onward lists (asked_after asked e.0) (written_after written e.0) entries → Onward lists asked written (e ∷ entries)
    onward first rest = record {
      each = λ c. each_more (is_answered_from c e.0) (nth_answer lists c) (asked c) e.1 (answers_in c entries) (first.each c) (rest.each c);
      reads = reads;
      writes = writes;
    } where
      reads : (before after : List Pair) (path : List ℕ) (given : Answer) → e ∷ entries ≡ before ++ (question.Read path, given) ∷ after → given ≡ read_answer (contents_at lists (written ++ writes_in lists before) path)
      reads [] after path given is =
          let same : given ≡ e.1 = cc in
          same ∙ first.reads path (cc) ∙ ap (λ w. read_answer (contents_at lists w path)) (sym (append-nil written))
      reads (b ∷ before) after path given is =
          let same : e ≡ b = cc in
          rest.reads before after path given (cc) ∙ one_before before path ∙ ap (λ b. read_answer (contents_at lists (written ++ writes_in lists (b ∷ before)) path)) same

      writes : (before after : List Pair) (path bytes : List ℕ) (given : Answer) → e ∷ entries ≡ before ++ (question.Write path bytes, given) ∷ after → given ≡ (if is_unwritable lists path then answer.Failed Io else answer.Written)
      writes [] after path bytes given is = let same : given ≡ e.1 = cc in same ∙ first.writes path bytes cc
      writes (b ∷ before) after path bytes given is = rest.writes before after path bytes given cc

    first_of_all : Onward lists asked written (e ∷ entries) → First lists asked written e.0 e.1
    first_of_all all = record {
      each = λ c. each_first (is_answered_from c e.0) (nth_answer lists c) (asked c) e.1 (answers_in c entries) (all.each c);
      reads = λ path h. all.reads [] entries path e.1 (ap (λ q. (q, e.1) ∷ entries) h) ∙ ap (λ w. read_answer (contents_at lists w path)) (append-nil written);
      writes = λ path bytes h. all.writes [] entries path bytes e.1 (ap (λ q. (q, e.1) ∷ entries) h);
    }

    rest_of_all : Onward lists asked written (e ∷ entries) → Onward lists (asked_after asked e.0) (written_after written e.0) entries
    rest_of_all all = record {
      each = λ c. each_rest (is_answered_from c e.0) (nth_answer lists c) (asked c) e.1 (answers_in c entries) (all.each c);
      reads = λ before after path given h. all.reads (e ∷ before) after path given (ap (λ l. e ∷ l) h) ∙ sym (one_before before path);
      writes = λ before after path bytes given h. all.writes (e ∷ before) after path bytes given (ap (λ l. e ∷ l) h);
    }

  given_onward : (entries : List Pair) (p : Place) (asked : Channel → ℕ) → ReadTo p asked → Given lists p entries → Onward lists asked p.writes entries
  given_onward [] p asked at g = record {
    each = λ c n given h. absurd cc;
    reads = λ before after path given h. absurd (not_split before after (question.Read path, given) h);
    writes = λ before after path bytes given h. absurd (not_split before after (question.Write path bytes, given) h);
  }
  given_onward (e ∷ entries) p asked at g = onward asked p.writes e entries
      (is_first p asked e.0 e.1 at g.0)
      (subst (λ w. Onward lists (asked_after asked e.0) w entries) (writes_after p e.0)
      (given_onward entries (place_after lists p e.0) (asked_after asked e.0) (read_after p asked e.0 at) g.1))

  onward_given : (entries : List Pair) (p : Place) (asked : Channel → ℕ) → ReadTo p asked → Onward lists asked p.writes entries → Given lists p entries
  onward_given [] p asked at all = tt
  onward_given (e ∷ entries) p asked at all = (
    first_is p asked e.0 e.1 at (first_of_all asked p.writes e entries all),
    onward_given entries (place_after lists p e.0) (asked_after asked e.0) (read_after p asked e.0 at)
        (subst (λ w. Onward lists (asked_after asked e.0) w entries) (sym (writes_after p e.0)) (rest_of_all asked p.writes e entries all)),
  )

  unread : ReadTo start (λ c. 0)
  unread c = unread_at c ∙ (let e : 0 ≡ min 0 (size c) = omega arith in e)

  pub allowed_in_order : (entries : List Pair) → Given lists start entries → InOrder lists entries
  allowed_in_order entries g =
      let all = given_onward entries start (λ c. 0) unread g in
      record {
        each = λ c n given h. all.each c n given h ∙ ap (nth_answer lists c) (let e : 0 + n ≡ n = omega arith in e);
        reads = all.reads;
        writes = all.writes;
      }

  pub in_order_allowed : (entries : List Pair) → InOrder lists entries → Given lists start entries
  in_order_allowed entries o = onward_given entries start (λ c. 0) unread (record {
    each = λ c n given h. o.each c n given h ∙ ap (nth_answer lists c) (let e : n ≡ 0 + n = omega arith in e);
    reads = o.reads;
    writes = o.writes;
  })
