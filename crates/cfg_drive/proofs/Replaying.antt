-- Lines of a conversation, put together, answer its call.
use Rattle.std.proofs.Common.{◌≡◌, ℕ, List, [], ◌∷◌, ◌++◌, map, Bool, true, false, ◌||◌, bytes_eq, Option, Some, None, Result, inl, inr, ◌⊎◌, refl, sym, ap, subst, ◌∙◌, arith}
use Rattle.std.specs.Prelude.{All, Contains, IfSome, codes, fold, is_ok, slice_get, unwrap_or, if◌then◌else◌}
use Rattle.std.specs.List.{list_any, AllByRecursion}
use Rattle.std.proofs.lemmas.Bool.{and_parts}
use Rattle.std.proofs.lemmas.List.{append-nil, map-append}
use Rattle.std.proofs.lemmas.List.Elements.{recursion_from_All, All-weaker, Contains-append_left, Contains-append_right}
use Rattle.std.proofs.lemmas.List.Folds.{list_any-append}
use Rattle.std.proofs.lemmas.List.Sums.{fold-append}
use Rattle.std.proofs.lemmas.Slice.Eq.{bytes_eq-Decides}
use Rattle.cfg_base.specs.Moment.{Moment}
use Rattle.cfg_base.specs.declared.address.Address.{Address}
use Rattle.cfg_types.specs.declared.command.Finished.{Finished}
use Rattle.cfg_types.specs.declared.reply.FailKind.{FailKind}
use Rattle.cfg_types.specs.declared.reply.FailKind.TheVariants.{Io}
use Rattle.cfg_types.specs.declared.request.Request.{Request}
use Rattle.cfg_types.specs.declared.request.Request.TheVariants as request
use Rattle.cfg_world.specs.declared.ask.Question.{Question}
use Rattle.cfg_world.specs.declared.ask.Question.TheVariants as question
use Rattle.cfg_world.specs.declared.ask.Answer.{Answer}
use Rattle.cfg_world.specs.declared.ask.Answer.TheVariants as answer
use Rattle.cfg_world.specs.declared.script.DeviceLists.{DeviceLists}
use Rattle.cfg_world.specs.Fits.{Pair}
use Rattle.cfg_world.specs.Ordered.{is_list, is_answered_from, answers_in, granted, writes_in, InOrder}
use Rattle.cfg_world.specs.Script.{Channel, Clock, Jitter, Commands, LookUps, Http, ImdsToken, ImdsGet, AssumeRole, WebIdentity, RoleCredentials, CreateToken, SignIn, queue_of, no_answers, start, Given, answered, sent, items_in, behind, latest, contents_of, contents_at, read_answer, is_unwritable, answer_at}
use Rattle.cfg_world.proofs.Ordered.{in_order_allowed}
use Rattle.cfg_types.specs.Keys.{Keys}
use Rattle.cfg_types.specs.declared.errors.CredentialsError.{CredentialsError}
use Rattle.cfg_chain.specs.Settings.{with_sources}
use Rattle.cfg_script.specs.Devices.{lists_of}
use Rattle.cfg_script.specs.Script.{Plain}
use Rattle.cfg_program.specs.declared.causes.Below.TheVariants.{Nothing}
use Rattle.cfg_program.specs.declared.lines.LineForm.TheVariants.{Call}
use Rattle.cfg_program.specs.Calls.{Answers, configuration_of}
use Rattle.cfg_program.specs.Lines.{shown}
use Rattle.cfg_program.specs.Streams.{SourceSeen, SinkSeen}
use Rattle.cfg_lines.proofs.Alone.{one_item_alone}
use Rattle.cfg_lines.specs.Alone.{Sent, reply_alone, IsOneItem}
use Rattle.cfg_lines.specs.Lines.{IsAnswer}
use Rattle.cfg_drive.specs.Conversations.{Exchange, IsExchange, journal_of}
use Rattle.cfg_drive.specs.Driven.{TellsCall}
use Rattle.cfg_drive.specs.Replays.{lists_in, lists_said, together, answers_said, script_made, written, written_in, HasOneContent, IsReplayable}

-- ---- what one line says

-- one item of what is asked, which gives this answer
record Says (q : Question) (a : Answer) (lists : DeviceLists) : Type 0 where
  item : IsOneItem q lists
  gives : a ≡ answer_at lists start q

says : (q : Question) (line : List ℕ) (a : Answer) → IsAnswer q line a → Says q a (lists_said line)
says q line a h =
    let same : lists_said line ≡ lists_of h.said = ap lists_in h.script in
    subst (Says q a) (sym same) (record {
      item = (one_item_alone q (lists_of h.said)).0 (and_parts _ _ h.alone).1;
      gives = h.gives.0;
    })

-- the line that was read says the answer
abbrev SaysIt : Exchange → Type 0
SaysIt x = Says x.entry.0 x.entry.1 (lists_said x.said)

abbrev SaysAll : List Exchange → Type 0
SaysAll xs = AllByRecursion SaysIt xs

says_all : (xs : List Exchange) → All IsExchange xs → SaysAll xs
says_all xs each = recursion_from_All SaysIt xs (All-weaker IsExchange SaysIt (λ x h. says x.entry.0 x.said x.entry.1 h.answers) xs each)

-- ---- the lists that are answered from in order

abbrev if_asked : Bool → Answer → List Answer
if_asked b a = if b then a ∷ [] else []

clock_item : (m : Moment) (c : Channel) → items_in (record no_answers { clock = m ∷ [] }) c ≡ if_asked (is_list c Clock) (answer.Moment m)
clock_item m Clock = refl
clock_item m _ = refl

jitter_item : (n : ℕ) (c : Channel) → items_in (record no_answers { jitter = n ∷ [] }) c ≡ if_asked (is_list c Jitter) (answer.Jitter n)
jitter_item n Jitter = refl
jitter_item n _ = refl

command_item : (left : Result Finished FailKind) (c : Channel) → items_in (record no_answers { commands = left ∷ [] }) c ≡ if_asked (is_list c Commands) (answered answer.Finished left)
command_item left Commands = refl
command_item left _ = refl

look_up_item : (found : Result (List Address) FailKind) (c : Channel) → items_in (record no_answers { lookups = found ∷ [] }) c ≡ if_asked (is_list c LookUps) (answered answer.Addresses found)
look_up_item found LookUps = refl
look_up_item found _ = refl

no_item : (c : Channel) → items_in no_answers c ≡ []
no_item Clock = refl
no_item _ = refl

file_item : (files : List (List ℕ × Option (List ℕ))) (c : Channel) → items_in (record no_answers { files = files }) c ≡ []
file_item files Clock = refl
file_item files _ = refl

unwritable_item : (paths : List (List ℕ)) (c : Channel) → items_in (record no_answers { unwritable = paths }) c ≡ []
unwritable_item paths Clock = refl
unwritable_item paths _ = refl

reply_item : (r : Request) (s : Sent) (c : Channel) → items_in (reply_alone r s) c ≡ if_asked (is_list c (queue_of r)) (sent s)
reply_item (request.Http call) s Http = refl
reply_item (request.Http call) s _ = refl
reply_item (request.MetadataToken call) s ImdsToken = refl
reply_item (request.MetadataToken call) s _ = refl
reply_item (request.MetadataGet call) s ImdsGet = refl
reply_item (request.MetadataGet call) s _ = refl
reply_item (request.AssumeRole call) s AssumeRole = refl
reply_item (request.AssumeRole call) s _ = refl
reply_item (request.AssumeRoleWithWebIdentity call) s WebIdentity = refl
reply_item (request.AssumeRoleWithWebIdentity call) s _ = refl
reply_item (request.GetRoleCredentials call) s RoleCredentials = refl
reply_item (request.GetRoleCredentials call) s _ = refl
reply_item (request.CreateToken call) s CreateToken = refl
reply_item (request.CreateToken call) s _ = refl
reply_item (request.CreateOAuth2Token call) s SignIn = refl
reply_item (request.CreateOAuth2Token call) s _ = refl

reply_given : (r : Request) (s : Sent) → answer_at (reply_alone r s) start (question.Send r) ≡ sent s
reply_given (request.Http call) s = refl
reply_given (request.MetadataToken call) s = refl
reply_given (request.MetadataGet call) s = refl
reply_given (request.AssumeRole call) s = refl
reply_given (request.AssumeRoleWithWebIdentity call) s = refl
reply_given (request.GetRoleCredentials call) s = refl
reply_given (request.CreateToken call) s = refl
reply_given (request.CreateOAuth2Token call) s = refl

no_paths : (r : Request) (s : Sent) (path : List ℕ) → is_unwritable (reply_alone r s) path ≡ false
no_paths (request.Http call) s path = refl
no_paths _ s path = refl

no_files : (r : Request) (s : Sent) → (reply_alone r s).files ≡ []
no_files (request.Http call) s = refl
no_files _ s = refl

-- each list has the answer, if it is the one that the question is answered from, and else no item
items_said : (q : Question) (a : Answer) (lists : DeviceLists) → Says q a lists → (c : Channel) → items_in lists c ≡ if_asked (is_answered_from c q) a
items_said question.Now a lists s c = ap (λ l. items_in l c) s.item.1 ∙ clock_item s.item.0 c ∙ ap (if_asked (is_list c Clock)) (sym (s.gives ∙ ap (λ l. answer_at l start question.Now) s.item.1))
items_said question.Jitter a lists s c = ap (λ l. items_in l c) s.item.1 ∙ jitter_item s.item.0 c ∙ ap (if_asked (is_list c Jitter)) (sym (s.gives ∙ ap (λ l. answer_at l start question.Jitter) s.item.1))
items_said (question.Read path) a lists s c = ap (λ l. items_in l c) s.item.1 ∙ file_item ((path, s.item.0) ∷ []) c
items_said (question.Write path bytes) a lists s c = elim s.item [
  | inl none ↦ ap (λ l. items_in l c) none ∙ no_item c
  | inr one ↦ ap (λ l. items_in l c) one ∙ unwritable_item (path ∷ []) c
]
items_said (question.Run command) a lists s c = ap (λ l. items_in l c) s.item.1 ∙ command_item s.item.0 c ∙ ap (if_asked (is_list c Commands)) (sym (s.gives ∙ ap (λ l. answer_at l start (question.Run command)) s.item.1))
items_said (question.LookUp host) a lists s c = ap (λ l. items_in l c) s.item.1 ∙ look_up_item s.item.0 c ∙ ap (if_asked (is_list c LookUps)) (sym (s.gives ∙ ap (λ l. answer_at l start (question.LookUp host)) s.item.1))
items_said (question.Send r) a lists s c = ap (λ l. items_in l c) s.item.1 ∙ reply_item r s.item.0 c ∙ ap (if_asked (is_list c (queue_of r))) (sym (s.gives ∙ ap (λ l. answer_at l start (question.Send r)) s.item.1 ∙ reply_given r s.item.0))

-- ---- and of all lines

answers_more : (b : Bool) (a : Answer) (answers : List Answer) → (if b then a ∷ answers else answers) ≡ if_asked b a ++ answers
answers_more true a answers = refl
answers_more false a answers = refl

joined : (lists : DeviceLists) (parts : List DeviceLists) (c : Channel) → items_in (together (lists ∷ parts)) c ≡ items_in lists c ++ items_in (together parts) c
joined lists parts Clock = map-append answer.Moment lists.clock (together parts).clock
joined lists parts Jitter = map-append answer.Jitter lists.jitter (together parts).jitter
joined lists parts Commands = map-append (answered answer.Finished) lists.commands (together parts).commands
joined lists parts LookUps = map-append (answered answer.Addresses) lists.lookups (together parts).lookups
joined lists parts Http = map-append sent lists.http (together parts).http
joined lists parts ImdsToken = map-append sent lists.imds_token (together parts).imds_token
joined lists parts ImdsGet = map-append sent lists.imds_get (together parts).imds_get
joined lists parts AssumeRole = map-append sent lists.assume_role (together parts).assume_role
joined lists parts WebIdentity = map-append sent lists.web_identity (together parts).web_identity
joined lists parts RoleCredentials = map-append sent lists.role_credentials (together parts).role_credentials
joined lists parts CreateToken = map-append sent lists.create_token (together parts).create_token
joined lists parts SignIn = map-append sent lists.sign_in (together parts).sign_in

no_items : (c : Channel) → items_in (together []) c ≡ []
no_items Clock = refl
no_items _ = refl

-- the answers from each list are its items
answers_are : (xs : List Exchange) → SaysAll xs → (c : Channel) → answers_in c (journal_of xs) ≡ items_in (answers_said xs) c
answers_are [] all c = sym (no_items c)
answers_are (x ∷ xs) all c =
    answers_more (is_answered_from c x.entry.0) x.entry.1 (answers_in c (journal_of xs))
    ∙ ap (λ l. l ++ answers_in c (journal_of xs)) (sym (items_said x.entry.0 x.entry.1 (lists_said x.said) all.0 c))
    ∙ ap (λ l. items_in (lists_said x.said) c ++ l) (answers_are xs all.1 c)
    ∙ sym (joined (lists_said x.said) (map (λ y. lists_said y.said) xs) c)

-- ---- entries of a journal

Among : Pair → List Pair → Type 0
Among e [] = ⊥
Among e (x ∷ journal) = (x ≡ e) ⊎ Among e journal

contains : (e : Pair) (journal : List Pair) → Among e journal → Contains journal e
unfolding Among
contains e [] h = absurd h
contains e (x ∷ journal) (inl is) = Contains-append_left (x ∷ []) journal e (0, omega arith, is)
contains e (x ∷ journal) (inr later) = Contains-append_right (x ∷ []) journal e (contains e journal later)

among_split : (before after : List Pair) (e : Pair) → Among e (before ++ e ∷ after)
unfolding Among
among_split [] after e = inl refl
among_split (x ∷ before) after e = inr (among_split before after e)

among_before : (e : Pair) (before after : List Pair) → Among e before → Among e (before ++ after)
unfolding Among
among_before e [] after h = absurd h
among_before e (x ∷ before) after (inl is) = inl is
among_before e (x ∷ before) after (inr later) = inr (among_before e before after later)

or_true : (b : Bool) → (b || true) ≡ true
or_true true = refl
or_true false = refl

any_among : (test : Pair → Bool) (journal : List Pair) (e : Pair) → Among e journal → test e ≡ true → list_any test journal ≡ true
unfolding Among
any_among test [] e h passes = absurd h
any_among test (x ∷ journal) e (inl is) passes = ap (λ b. b || list_any test journal) (ap test is ∙ passes)
any_among test (x ∷ journal) e (inr later) passes = ap (λ b. test x || b) (any_among test journal e later passes) ∙ or_true (test x)

none_among : (test : Pair → Bool) (journal : List Pair) → ((e : Pair) → Among e journal → test e ≡ false) → list_any test journal ≡ false
unfolding Among
none_among test [] fails = refl
none_among test (x ∷ journal) fails = ap (λ b. b || list_any test journal) (fails x (inl refl)) ∙ none_among test journal (λ e h. fails e (inr h))

says_among : (xs : List Exchange) → SaysAll xs → (e : Pair) → Among e (journal_of xs) → (lists : DeviceLists) × Says e.0 e.1 lists
unfolding Among
says_among [] all e h = absurd h
says_among (x ∷ xs) all e (inl is) = (lists_said x.said, subst (λ (e : Pair). Says e.0 e.1 (lists_said x.said)) is all.0)
says_among (x ∷ xs) all e (inr later) = says_among xs all.1 e later

-- ---- writes that are refused

-- a write to this path that was refused
abbrev refused : List ℕ → Question → Answer → Bool
refused path (question.Write other bytes) (answer.Failed kind) = bytes_eq other path
refused path _ _ = false

itself : (path : List ℕ) → bytes_eq path path ≡ true
itself path = (bytes_eq-Decides path path).1 refl

or_none : (b : Bool) → (b || false) ≡ b
or_none true = refl
or_none false = refl

abbrev write_answer : Bool → Answer
write_answer unwritable = if unwritable then answer.Failed Io else answer.Written

refuses : (q : Question) (a : Answer) (lists : DeviceLists) → Says q a lists → (path : List ℕ) → is_unwritable lists path ≡ refused path q a
refuses question.Now a lists s path = ap (λ l. is_unwritable l path) s.item.1
refuses question.Jitter a lists s path = ap (λ l. is_unwritable l path) s.item.1
refuses (question.Read other) a lists s path = ap (λ l. is_unwritable l path) s.item.1
refuses (question.Write other bytes) a lists s path = elim s.item [
  | inl none ↦ ap (λ l. is_unwritable l path) none ∙ sym (ap (refused path (question.Write other bytes)) (s.gives ∙ ap (λ l. answer_at l start (question.Write other bytes)) none))
  | inr one ↦
      ap (λ l. is_unwritable l path) one ∙ or_none (bytes_eq other path)
      ∙ sym (ap (refused path (question.Write other bytes)) (s.gives ∙ ap (λ l. answer_at l start (question.Write other bytes)) one ∙ ap write_answer (or_none (bytes_eq other other) ∙ itself other)))
]
refuses (question.Run command) a lists s path = ap (λ l. is_unwritable l path) s.item.1
refuses (question.LookUp host) a lists s path = ap (λ l. is_unwritable l path) s.item.1
refuses (question.Send r) a lists s path = ap (λ l. is_unwritable l path) s.item.1 ∙ no_paths r s.item.0 path

are_refused : (xs : List Exchange) → SaysAll xs → (path : List ℕ) → is_unwritable (answers_said xs) path ≡ list_any (λ e. refused path e.0 e.1) (journal_of xs)
are_refused [] all path = refl
are_refused (x ∷ xs) all path =
    list_any-append (λ p. bytes_eq p path) (lists_said x.said).unwritable (answers_said xs).unwritable
    ∙ ap (λ b. b || is_unwritable (answers_said xs) path) (refuses x.entry.0 x.entry.1 (lists_said x.said) all.0 path)
    ∙ ap (λ b. refused path x.entry.0 x.entry.1 || b) (are_refused xs all.1 path)

-- ---- files that are read

abbrev Listed : Type 0
Listed = List ℕ × Option (List ℕ)

-- what the last listing of a path says, behind what others say
abbrev listed : List ℕ → Option (Option (List ℕ)) → List Listed → Option (Option (List ℕ))
listed path before files = fold (λ found e. if bytes_eq e.0 path then Some e.1 else found) before files

-- there is a listing, which answers so
abbrev Tells : Answer → Option (Option (List ℕ)) → Type 0
Tells given None = ⊥
Tells given (Some contents) = given ≡ read_answer contents

module _ (given : Answer) (path : List ℕ) where
  told_by : (b : Bool) (contents : Option (List ℕ)) (before : Option (Option (List ℕ))) → (b ≡ true → given ≡ read_answer contents) → Tells given before → Tells given (if b then Some contents else before)
  told_by true contents before is h = is refl
  told_by false contents before is h = h

  -- the answer to a reading, by its listing
  reads_so : (other : List ℕ) (a : Answer) (lists : DeviceLists) (s : Says (question.Read other) a lists) → a ≡ read_answer s.item.0
  reads_so other a lists s =
      s.gives ∙ ap (λ l. answer_at l start (question.Read other)) s.item.1
      ∙ ap (λ b. read_answer (contents_of None (if b then Some s.item.0 else None))) (itself other)

  still_told : (q : Question) (a : Answer) (lists : DeviceLists) → Says q a lists → (q ≡ question.Read path → a ≡ given) → (before : Option (Option (List ℕ))) → Tells given before → Tells given (listed path before lists.files)
  still_told question.Now a lists s same before h = subst (λ (l : DeviceLists). Tells given (listed path before l.files)) (sym s.item.1) h
  still_told question.Jitter a lists s same before h = subst (λ (l : DeviceLists). Tells given (listed path before l.files)) (sym s.item.1) h
  still_told (question.Read other) a lists s same before h = subst (λ (l : DeviceLists). Tells given (listed path before l.files)) (sym s.item.1)
      (told_by (bytes_eq other path) s.item.0 before (λ e. sym (same (ap question.Read ((bytes_eq-Decides other path).0 e))) ∙ reads_so other a lists s) h)
  still_told (question.Write other bytes) a lists s same before h = elim s.item [
    | inl none ↦ subst (λ (l : DeviceLists). Tells given (listed path before l.files)) (sym none) h
    | inr one ↦ subst (λ (l : DeviceLists). Tells given (listed path before l.files)) (sym one) h
  ]
  still_told (question.Run command) a lists s same before h = subst (λ (l : DeviceLists). Tells given (listed path before l.files)) (sym s.item.1) h
  still_told (question.LookUp host) a lists s same before h = subst (λ (l : DeviceLists). Tells given (listed path before l.files)) (sym s.item.1) h
  still_told (question.Send r) a lists s same before h = subst (λ (l : DeviceLists). Tells given (listed path before l.files)) (sym s.item.1) (subst (λ files. Tells given (listed path before files)) (sym (no_files r s.item.0)) h)

  -- each reading of the path has this answer
  abbrev ReadsOne : List Exchange → Type 0
  ReadsOne xs = (a : Answer) → Among (question.Read path, a) (journal_of xs) → a ≡ given

  told_first : (lists : DeviceLists) (more : List Listed) (before : Option (Option (List ℕ))) → Tells given (listed path (listed path before lists.files) more) → Tells given (listed path before (lists.files ++ more))
  told_first lists more before h = subst (Tells given) (sym (fold-append (λ (found : Option (Option (List ℕ))) (e : Listed). if bytes_eq e.0 path then Some e.1 else found) before lists.files more)) h

  later_one : (x : Exchange) (xs : List Exchange) → ReadsOne (x ∷ xs) → ReadsOne xs
  unfolding Among
  later_one x xs one a h = one a (inr h)

  first_one : (x : Exchange) (xs : List Exchange) → ReadsOne (x ∷ xs) → x.entry.0 ≡ question.Read path → x.entry.1 ≡ given
  unfolding Among
  first_one x xs one is = let with_answer : Question → Pair = λ q. (q, x.entry.1) in one x.entry.1 (inl (ap with_answer is))

  all_told : (xs : List Exchange) → SaysAll xs → ReadsOne xs → (before : Option (Option (List ℕ))) → Tells given before → Tells given (listed path before (answers_said xs).files)
  all_told [] all one before h = h
  all_told (x ∷ xs) all one before h = told_first (lists_said x.said) (answers_said xs).files before
      (all_told xs all.1 (later_one x xs one) (listed path before (lists_said x.said).files) (still_told x.entry.0 x.entry.1 (lists_said x.said) all.0 (first_one x xs one) before h))

  read_here : (lists : DeviceLists) → Says (question.Read path) given lists → (before : Option (Option (List ℕ))) → Tells given (listed path before lists.files)
  read_here lists s before = subst (λ (l : DeviceLists). Tells given (listed path before l.files)) (sym s.item.1)
      (subst (λ b. Tells given (if b then Some s.item.0 else before)) (sym (itself path)) (reads_so path given lists s))

  is_told : (xs : List Exchange) → SaysAll xs → ReadsOne xs → Among (question.Read path, given) (journal_of xs) → (before : Option (Option (List ℕ))) → Tells given (listed path before (answers_said xs).files)
  unfolding Among
  is_told [] all one h before = absurd h
  is_told (x ∷ xs) all one (inl is) before = told_first (lists_said x.said) (answers_said xs).files before
      (all_told xs all.1 (later_one x xs one) (listed path before (lists_said x.said).files)
      (read_here (lists_said x.said) (subst (λ (e : Pair). Says e.0 e.1 (lists_said x.said)) is all.0) before))
  is_told (x ∷ xs) all one (inr later) before = told_first (lists_said x.said) (answers_said xs).files before
      (is_told xs all.1 (later_one x xs one) later (listed path before (lists_said x.said).files))

  by_listing : (listing : Option (Option (List ℕ))) → Tells given listing → given ≡ read_answer (contents_of None listing)
  by_listing None h = absurd h
  by_listing (Some contents) h = h

  by_writes : (last : Option (List ℕ)) (listing : Option (Option (List ℕ))) → IfSome last (λ bytes. given ≡ answer.Contents bytes) → Tells given listing → given ≡ read_answer (contents_of last listing)
  by_writes (Some bytes) listing last h = last
  by_writes None listing last h = by_listing listing h

-- ---- the whole journal

grants : (b : Bool) (path bytes : List ℕ) → written (question.Write path bytes) (write_answer b) ≡ (if b then [] else (path, bytes) ∷ [])
grants true path bytes = refl
grants false path bytes = refl

module _ (xs : List Exchange) (all : SaysAll xs) (one : HasOneContent (journal_of xs)) where
  not_refused : (path bytes : List ℕ) → Among (question.Write path bytes, answer.Written) (journal_of xs) → (q : Question) (a : Answer) → Among (q, a) (journal_of xs) → refused path q a ≡ false
  not_refused path bytes granted (question.Write other more) (answer.Failed kind) h = differs (bytes_eq other path) refl where
    differs : (b : Bool) → bytes_eq other path ≡ b → b ≡ false
    differs true e =
        let same : other ≡ path = (bytes_eq-Decides other path).0 e in
        let there : Among (question.Write path more, answer.Failed kind) (journal_of xs) = subst (λ p. Among (question.Write p more, answer.Failed kind) (journal_of xs)) same h in
        let alike : answer.Failed kind ≡ answer.Written = one.writes path more bytes (answer.Failed kind) answer.Written (contains (question.Write path more, answer.Failed kind) (journal_of xs) there) (contains (question.Write path bytes, answer.Written) (journal_of xs) granted) in
        absurd cc
    differs false e = refl
  not_refused path bytes granted _ _ h = refl

  unwritable_is : (b : Bool) (path bytes : List ℕ) → Among (question.Write path bytes, write_answer b) (journal_of xs) → is_unwritable (answers_said xs) path ≡ b
  unwritable_is true path bytes h = are_refused xs all path ∙ any_among (λ e. refused path e.0 e.1) (journal_of xs) (question.Write path bytes, answer.Failed Io) h (itself path)
  unwritable_is false path bytes h = are_refused xs all path ∙ none_among (λ e. refused path e.0 e.1) (journal_of xs) (λ e there. not_refused path bytes h e.0 e.1 there)

  write_is : (path bytes : List ℕ) (given : Answer) → Among (question.Write path bytes, given) (journal_of xs) → given ≡ write_answer (is_unwritable (answers_said xs) path)
  write_is path bytes given h =
      let s = says_among xs all (question.Write path bytes, given) h in
      let so : given ≡ write_answer (is_unwritable s.0 path) = s.1.gives in
      so ∙ ap write_answer (sym (unwritable_is (is_unwritable s.0 path) path bytes (subst (λ a. Among (question.Write path bytes, a) (journal_of xs)) so h)))

  grant_is : (q : Question) (a : Answer) → Among (q, a) (journal_of xs) → granted (answers_said xs) q ≡ written q a
  grant_is (question.Write path bytes) a h = sym (grants (is_unwritable (answers_said xs) path) path bytes) ∙ ap (written (question.Write path bytes)) (sym (write_is path bytes a h))
  grant_is _ a h = refl

  writes_are : (part : List Pair) → ((e : Pair) → Among e part → Among e (journal_of xs)) → writes_in (answers_said xs) part ≡ written_in part
  unfolding Among
  writes_are [] within = refl
  writes_are (e ∷ part) within =
      ap (λ l. l ++ writes_in (answers_said xs) part) (grant_is e.0 e.1 (within e (inl refl)))
      ∙ ap (λ l. written e.0 e.1 ++ l) (writes_are part (λ f h. within f (inr h)))

  there : (before after : List Pair) (e : Pair) → journal_of xs ≡ before ++ e ∷ after → Among e (journal_of xs)
  there before after e is = subst (Among e) (sym is) (among_split before after e)

  read_is : (before after : List Pair) (path : List ℕ) (given : Answer) → journal_of xs ≡ before ++ (question.Read path, given) ∷ after → given ≡ read_answer (contents_at (answers_said xs) (writes_in (answers_said xs) before) path)
  read_is before after path given is =
      let here = there before after (question.Read path, given) is in
      let alike = λ (a : Answer) (h : Among (question.Read path, a) (journal_of xs)). one.reads path a given (contains (question.Read path, a) (journal_of xs) h) (contains (question.Read path, given) (journal_of xs) here) in
      by_writes given path (latest path (written_in before)) (latest path (answers_said xs).files) (one.behind before after path given is) (is_told given path xs all alike here None)
      ∙ ap (λ w. read_answer (contents_at (answers_said xs) w path)) (sym (writes_are before (λ e h. subst (Among e) (sym is) (among_before e before ((question.Read path, given) ∷ after) h))))

  in_order : InOrder (answers_said xs) (journal_of xs)
  in_order = record {
    each = λ c n given h. ap (λ o. unwrap_or o (behind (answers_said xs) c)) (sym h ∙ ap (λ l. slice_get l n) (answers_are xs all c));
    reads = read_is;
    writes = λ before after path bytes given is. write_is path bytes given (there before after (question.Write path bytes, given) is);
  }

pub answers_call : (xs : List Exchange) → All IsExchange xs → HasOneContent (journal_of xs) → Given (answers_said xs) start (journal_of xs)
answers_call xs each one = in_order_allowed (answers_said xs) (journal_of xs) (in_order xs (says_all xs each) one)

-- ---- the call of the script

pub replays : (first : Plain) (xs : List Exchange) (out : Result Keys CredentialsError) → IsReplayable first xs out
    → Answers [] (Call Nothing) (script_made first xs) (is_ok out) (shown out (journal_of xs))
replays first xs out r = record {
  calls = record { found = r.call.found; journal = journal_of xs; out = out; kept = r.call.kept } ∷ [];
  kept = r.call.kept;
  counted = sym r.one_call;
  made = (r.call.call, refl);
  agrees = subst (Given (answers_said xs) start) (sym (append-nil (journal_of xs))) (answers_call xs r.each r.one_content);
  credentials = refl;
  shows = sym (append-nil (shown out (journal_of xs) ++ []) ∙ append-nil (shown out (journal_of xs)));
}

pub told_replays : (first : Plain) (source : SourceSeen) (sink : SinkSeen) (is_credentials : Bool)
    (told : TellsCall (with_sources (configuration_of first) []) source sink is_credentials) → first.calls ≡ 1 → HasOneContent (journal_of told.exchanges)
    → Answers [] (Call Nothing) (script_made first told.exchanges) is_credentials (told.tells.resolved ++ codes "\n")
told_replays first source sink is_credentials told once one =
    let script : Plain = script_made first told.exchanges in
    let replayed : Answers [] (Call Nothing) script (is_ok told.out) (shown told.out (journal_of told.exchanges)) =
    replays first told.exchanges told.out (record { one_call = once; each = told.each; call = told.call; one_content = one }) in
    subst (λ (lines : List ℕ). Answers [] (Call Nothing) script is_credentials lines) told.tells.shows
    (subst (λ (b : Bool). Answers [] (Call Nothing) script b (shown told.out (journal_of told.exchanges))) (sym told.credentials) replayed)
