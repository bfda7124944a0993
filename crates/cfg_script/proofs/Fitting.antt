-- What a script says fits the devices that it is said of, and makes as many calls as there may be.
use Rattle.std.proofs.Common.{◌≡◌, ℕ, ◌+◌, List, [], ◌∷◌, Bool, true, false, cond, Option, Some, None, Result, Ok, Err, refl, sym, ap, subst, arith, length}
use Rattle.std.specs.Prelude.{ℤ, pos, negsuc, ◌≤ℤ◌, All, bytes_eq, codes, unwrap_or, is_some, int_lt, IsTrue, if◌then◌else◌}
use Rattle.std.proofs.lemmas.Int.{ints}
use Rattle.std.specs.List.{AllByRecursion}
use Rattle.std.proofs.lemmas.List.Elements.{All-from_recursion}
use Rattle.serde_json.specs.Data.{Data, Items, no_items, item, Members}
use Rattle.serde_json.specs.Find.{as_array, as_object, as_str, as_null, get, get_member}
use Rattle.cfg_base.specs.Gives.{◌>>=◌}
use Rattle.cfg_base.specs.Moment.{Moment}
use Rattle.cfg_base.specs.declared.address.Address.{Address}
use Rattle.cfg_types.specs.declared.command.Finished.{Finished}
use Rattle.cfg_types.specs.declared.reply.Reply.{Reply}
use Rattle.cfg_types.specs.declared.reply.FailKind.{FailKind}
use Rattle.cfg_types.specs.declared.reply.FailKind.TheVariants as fail
use Rattle.cfg_world.specs.Fits.{IsTransport}
use Rattle.cfg_world.specs.Script.{AllFit, IsSentAs, FailsByIo, IsHttp, IsSts, IsRole, IsToken, IsSignIn}
use Rattle.cfg_script.specs.declared.fault.Fault.{Fault}
use Rattle.cfg_script.specs.declared.fault.Step.{Step}
use Rattle.cfg_script.specs.declared.fault.Wanted.{Wanted}
use Rattle.cfg_script.specs.declared.fault.Wanted.TheVariants as wanted
use Rattle.cfg_script.specs.Json.{without}
use Rattle.cfg_script.specs.Faults.{under, under_place, wanting, unless}
use Rattle.cfg_script.specs.Forms.{Form, each, list_by, list_of, whole_form, word_or}
use Rattle.cfg_script.specs.Objects.{MemberForm, ObjectForm, ◌&◌, nothing_more, list_member, optional_member, required_member, or_missing, unknown_name, only}
use Rattle.cfg_script.specs.Scalars.{text, characters_of, boolean, unsigned_of, unsigned_integer, is_call_count, call_count_of, call_count}
use Rattle.cfg_script.specs.Moments.{moment_from, clock_from, clock_moment}
use Rattle.cfg_script.specs.Replies.{fail_kind, failed_send, failed, command, look_up, http_reply, refusal, refusal_or, reply_or, reply_of, sts_grant, role_grant, token_grant, sign_in_grant, no_sts, no_role, no_sign_in, sts_reply, role_reply, token_reply, sign_in_reply}
use Rattle.cfg_script.specs.Sections.{variable, section}
use Rattle.cfg_script.specs.Services.{service_member}
use Rattle.cfg_world.specs.declared.script.DeviceLists.{DeviceLists}
use Rattle.cfg_script.specs.Script.{Plain, PlainShare}
use Rattle.cfg_script.specs.Settings.{file, Queues, queue_members, replies, no_queues, DeviceRows, device_members, lists_in, devices, settings, ScriptRows, script_members, plain_in, script}
use Rattle.cfg_script.specs.Shares.{caller, is_caller_count, counted_callers, callers, ShareRows, share_members, share_in, share}
use Rattle.cfg_script.specs.Reading.{beside_fault, members_said, value_said, json_value, json_said, or_reason, bytes_said}
use Rattle.cfg_script.specs.Devices.{lists_of}
use Rattle.cfg_script.proofs.Steps.{went_some}

-- ---- steps

pub record Went {A B E : Type 0} (r : Result A E) (f : A → Result B E) (y : B) : Type 0 where
  pub value : A
  pub is : r ≡ Ok value
  pub next : f value ≡ Ok y

pub went : {A B E : Type 0} (r : Result A E) (f : A → Result B E) (y : B) → (r >>= f) ≡ Ok y → Went r f y
went (Ok x) f y e = record { value = x; is = refl; next = e }
went (Err x) f y e = cc

was_there : {A : Type 0} (w : Wanted) (o : Option A) (a : A) → wanting w o ≡ Ok a → o ≡ Some a
was_there w (Some x) a e = cc
was_there w None a e = cc

seen_within : {A : Type 0} (step : Step) (r : Result A Fault) (a : A) → under step r ≡ Ok a → r ≡ Ok a
seen_within step (Ok x) a e = e
seen_within step (Err f) a e = cc

no_other : {A : Type 0} (o : Option Fault) (r : Result A Fault) (a : A) → unless o r ≡ Ok a → r ≡ Ok a
no_other None r a e = e
no_other (Some f) r a e = cc

unchosen : {A : Type 0} (b : Bool) (o : Option A) (y : A) → cond b None o ≡ Some y → (b ≡ false) × (o ≡ Some y)
unchosen true o y e = cc
unchosen false o y e = (refl, e)

-- both parts of a member and of what stands behind it
parts : {A B : Type 0} (step : Step) (r : Result A Fault) (q : Result B Fault) (p : A × B) → (under step r >>= λ a. q >>= λ b. Ok (a, b)) ≡ Ok p → (r ≡ Ok p.0) × (q ≡ Ok p.1)
parts {A} {B} step (Ok a) (Ok b) p e = let is : ◌≡◌ {A = A × B} (a, b) p = cc in (ap (λ (x : A × B). Ok x.0) is, ap (λ (x : A × B). Ok x.1) is)
parts step (Ok a) (Err f) p e = cc
parts step (Err f) q p e = cc

module _ {A : Type 0} (P : A → Type 0) where
  each_all : (form : Form A) → ((d : Data) (a : A) → form d ≡ Ok a → P a) → (place : ℕ) (ds : Items) (xs : List A) → each form place ds ≡ Ok xs → AllByRecursion P xs
  each_all form good place no_items [] e = tt
  each_all form good place no_items (x ∷ xs) e = cc
  each_all form good place (item d ds) xs e =
      let first = went (under_place place (form d)) (λ a. each form (place + 1) ds >>= λ rest. Ok (a ∷ rest)) xs e in
      let rest = went (each form (place + 1) ds) (λ rest. Ok (first.value ∷ rest)) xs first.next in
      let is : (first.value ∷ rest.value) ≡ xs = cc in
      subst (λ (l : List A). AllByRecursion P l) is (good d first.value (seen_within _ (form d) first.value first.is), each_all form good (place + 1) ds rest.value rest.is)

  list_items : (form : Form A) → ((d : Data) (a : A) → form d ≡ Ok a → P a) → (m : Option Data) (xs : List A) → or_missing [] (list_of form) m ≡ Ok xs → AllByRecursion P xs
  list_items form good None [] e = tt
  list_items form good None (x ∷ xs) e = cc
  list_items form good (Some d) xs e = let w = went (wanting wanted.List (as_array d)) (each form 0) xs e in each_all form good 0 w.value xs w.next

  -- each item of a member's list is what its form gives
  list_good : (form : Form A) → ((d : Data) (a : A) → form d ≡ Ok a → P a) → (m : Option Data) (xs : List A) → or_missing [] (list_of form) m ≡ Ok xs → All P xs
  list_good form good m xs e = All-from_recursion P xs (list_items form good m xs e)

  standing_good : {B : Type 0} (g : B → A) (r : Result B Fault) (a : A) → (r >>= λ b. Ok (g b)) ≡ Ok a → ((b : B) → P (g b)) → P a
  standing_good g (Err f) a e good = cc
  standing_good g (Ok b) a e good = subst P (let is : g b ≡ a = cc in is) (good b)

  text_good : (w : Wanted) (word : List ℕ → Option A) (t : Option (List ℕ)) (r : Result A Fault) (a : A) → word_or w word t r ≡ Ok a → ((s : List ℕ) → word s ≡ Some a → P a) → (r ≡ Ok a → P a) → P a
  text_good w word None r a e good other = other e
  text_good w word (Some s) r a e good other = good s (was_there w (word s) a e)

  either_good : (b : Bool) (r q : Result A Fault) (a : A) → cond b r q ≡ Ok a → (r ≡ Ok a → P a) → (q ≡ Ok a → P a) → P a
  either_good true r q a e good other = good e
  either_good false r q a e good other = other e

  none_good : All P []
  none_good = All-from_recursion P [] tt

some_good : {A : Type 0} (P : A → Type 0) (said a : A) → Some said ≡ Some a → P said → P a
some_good P said a e good = subst P (let is : said ≡ a = cc in is) good

pub ok_good : {A : Type 0} (P : A → Type 0) (said a : A) → ◌≡◌ {A = Result A Fault} (Ok said) (Ok a) → P said → P a
ok_good P said a e good = subst P (let is : said ≡ a = cc in is) good

-- ---- items

not_below : (z : ℤ) → int_lt z (pos 0) ≡ false → pos 0 ≤ℤ z
not_below (pos n) e = omega (arith, ints)
not_below (negsuc n) e = cc

pub clock_good : (d : Data) (m : Moment) → clock_moment d ≡ Ok m → pos 0 ≤ℤ m.seconds
unfolding clock_from
clock_good d m e =
    let w = went_some (moment_from d) (λ x. if int_lt x.seconds (pos 0) then None else Some x) m (was_there wanted.ClockMoment (clock_from d) m e) in
    let s = unchosen (int_lt w.value.seconds (pos 0)) (Some w.value) m w.next in
    let is : w.value ≡ m = cc in
    subst (λ (x : Moment). pos 0 ≤ℤ x.seconds) is (not_below w.value.seconds s.0)

io_good : {A : Type 0} (b : Bool) (r : Result A FailKind) → cond b (Some (Err fail.Io)) None ≡ Some r → FailsByIo r
io_good true r e = some_good FailsByIo (Err fail.Io) r e tt
io_good false r e = cc

command_good : (d : Data) (r : Result Finished FailKind) → command d ≡ Ok r → FailsByIo r
command_good d r e = text_good FailsByIo wanted.Command failed (as_str d) _ r e (λ s h. io_good (bytes_eq s (codes "fail")) r h) (λ h. standing_good FailsByIo _ _ r h (λ t. tt))

look_up_good : (d : Data) (r : Result (List Address) FailKind) → look_up d ≡ Ok r → FailsByIo r
look_up_good d r e = text_good FailsByIo wanted.LookUp failed (as_str d) _ r e (λ s h. io_good (bytes_eq s (codes "fail")) r h) (λ h. standing_good FailsByIo _ _ r h (λ t. tt))

kind_good : (a b c : Bool) (k : FailKind) → (if a then Some fail.Dispatch else (if b then Some fail.Timeout else (if c then Some fail.Broken else None))) ≡ Some k → IsTransport k
kind_good true b c k e = some_good IsTransport fail.Dispatch k e tt
kind_good false true c k e = some_good IsTransport fail.Timeout k e tt
kind_good false false true k e = some_good IsTransport fail.Broken k e tt
kind_good false false false k e = cc

module _ (P : Reply → Type 0) where
  send_good : (s : List ℕ) (r : Result Reply FailKind) → failed_send s ≡ Some r → IsSentAs P r
  send_good s r e =
      let w = went_some (fail_kind s) (λ k. Some (Err k)) r e in
      some_good (IsSentAs P) (Err w.value) r w.next (kind_good (bytes_eq s (codes "dispatch")) (bytes_eq s (codes "timeout")) (bytes_eq s (codes "broken")) w.value w.is)

  sent_good : (said : Result Reply Fault) (r : Result Reply FailKind) → (said >>= λ x. Ok (Ok x)) ≡ Ok r → ((x : Reply) → said ≡ Ok x → P x) → IsSentAs P r
  sent_good (Err f) r e good = cc
  sent_good (Ok x) r e good = ok_good (IsSentAs P) (Ok x) r e (good x refl)

  null_good : (o : Option Reply) (said : Result Reply Fault) (x : Reply) → reply_or o said ≡ Ok x → ((y : Reply) → o ≡ Some y → P y) → (said ≡ Ok x → P x) → P x
  null_good None said x e null other = other e
  null_good (Some y) said x e null other = ok_good P y x e (null y refl)

  reply_good : (null_reply : Option Reply) (grant : Form Reply) → ((x : Reply) → null_reply ≡ Some x → P x) → ((d : Data) (x : Reply) → refusal d ≡ Ok x → P x) → ((d : Data) (x : Reply) → grant d ≡ Ok x → P x)
      → (d : Data) (r : Result Reply FailKind) → reply_of null_reply grant d ≡ Ok r → IsSentAs P r
  reply_good null_reply grant null refused good d r e =
      let granted : (x : Reply) → refusal_or grant d ≡ Ok x → P x = λ x i. either_good P (is_some (get (codes "refused") d)) (refusal d) (grant d) x i (refused d x) (good d x) in
      text_good (IsSentAs P) wanted.Reply failed_send (as_str d) _ r e (λ s h. send_good s r h)
      (λ h. sent_good _ r h (λ x i. either_good P (is_some (as_null d)) _ (refusal_or grant d) x i (λ j. null_good null_reply (refusal_or grant d) x j null (granted x)) (granted x)))

http_good : (d : Data) (r : Result Reply FailKind) → http_reply d ≡ Ok r → IsSentAs IsHttp r
http_good d r e = text_good (IsSentAs IsHttp) wanted.HttpReply failed_send (as_str d) _ r e (λ s h. send_good IsHttp s r h) (λ h. standing_good (IsSentAs IsHttp) _ _ r h (λ t. tt))

sts_good : (d : Data) (r : Result Reply FailKind) → sts_reply d ≡ Ok r → IsSentAs IsSts r
sts_good = reply_good IsSts (Some no_sts) sts_grant (λ x h. some_good IsSts _ x h tt) (λ d x i. standing_good IsSts _ _ x i (λ p. tt)) (λ d x i. standing_good IsSts _ _ x i (λ p. tt))

role_good : (d : Data) (r : Result Reply FailKind) → role_reply d ≡ Ok r → IsSentAs IsRole r
role_good = reply_good IsRole (Some no_role) role_grant (λ x h. some_good IsRole _ x h tt) (λ d x i. standing_good IsRole _ _ x i (λ p. tt)) (λ d x i. standing_good IsRole _ _ x i (λ p. tt))

token_good : (d : Data) (r : Result Reply FailKind) → token_reply d ≡ Ok r → IsSentAs IsToken r
token_good = reply_good IsToken None token_grant (λ x h. cc) (λ d x i. standing_good IsToken _ _ x i (λ p. tt)) (λ d x i. standing_good IsToken _ _ x i (λ p. tt))

sign_in_good : (d : Data) (r : Result Reply FailKind) → sign_in_reply d ≡ Ok r → IsSentAs IsSignIn r
sign_in_good = reply_good IsSignIn (Some no_sign_in) sign_in_grant (λ x h. some_good IsSignIn _ x h tt) (λ d x i. standing_good IsSignIn _ _ x i (λ p. tt)) (λ d x i. standing_good IsSignIn _ _ x i (λ p. tt))

-- ---- members

-- what each member says, and each object
pub record MemberSays {A : Type 0} (m : MemberForm A) (P : A → Type 0) : Type 0 where
  pub says : (value : Option Data) (a : A) → m.read value ≡ Ok a → P a

pub record ObjectSays {A : Type 0} (object : ObjectForm A) (P : A → Type 0) : Type 0 where
  pub says : (ms : Members) (a : A) → object.read ms ≡ Ok a → P a

pub free : {A : Type 0} (m : MemberForm A) → MemberSays m (λ a. Unit {0})
free m = record { says = λ value a e. tt }

pub items : {A : Type 0} (name : List ℕ) (form : Form A) (P : A → Type 0) → ((d : Data) (a : A) → form d ≡ Ok a → P a) → MemberSays (list_member name form) (All P)
items name form P good = record { says = list_good P form good }

pub none_left : ObjectSays nothing_more (λ u. Unit {0})
none_left = record { says = λ ms u e. tt }

pub and : {A B : Type 0} {m : MemberForm A} {others : ObjectForm B} {P : A → Type 0} {Q : B → Type 0} → MemberSays m P → ObjectSays others Q → ObjectSays (m & others) (λ p. P p.0 × Q p.1)
and {A} {B} {m} {others} h k = record {
  says = λ ms p e.
      let both = parts _ (m.read (get_member m.name ms)) (others.read (without m.name ms)) p e in
      (h.says (get_member m.name ms) p.0 both.0, k.says (without m.name ms) p.1 both.1);
}

abbrev QueuesFit : Queues → Type 0
QueuesFit q = All (IsSentAs IsHttp) q.0 × (All (IsSentAs IsHttp) q.1.0 × (All (IsSentAs IsHttp) q.1.1.0
    × (All (IsSentAs IsSts) q.1.1.1.0 × (All (IsSentAs IsSts) q.1.1.1.1.0 × (All (IsSentAs IsRole) q.1.1.1.1.1.0
    × (All (IsSentAs IsToken) q.1.1.1.1.1.1.0 × (All (IsSentAs IsSignIn) q.1.1.1.1.1.1.1.0 × Unit {0})))))))

queues_say : ObjectSays queue_members QueuesFit
queues_say =
    and (items (codes "http") http_reply (IsSentAs IsHttp) http_good)
    (and (items (codes "imds-token") http_reply (IsSentAs IsHttp) http_good)
    (and (items (codes "imds-get") http_reply (IsSentAs IsHttp) http_good)
    (and (items (codes "assume-role") sts_reply (IsSentAs IsSts) sts_good)
    (and (items (codes "web-identity") sts_reply (IsSentAs IsSts) sts_good)
    (and (items (codes "role-credentials") role_reply (IsSentAs IsRole) role_good)
    (and (items (codes "create-token") token_reply (IsSentAs IsToken) token_good)
    (and (items (codes "sign-in") sign_in_reply (IsSentAs IsSignIn) sign_in_good)
    none_left)))))))

queues_good : (d : Data) (q : Queues) → replies d ≡ Ok q → QueuesFit q
queues_good d q e =
    let ms = went (wanting wanted.Replies (as_object d)) (only queue_members) q e in
    queues_say.says ms.value q (no_other (unknown_name queue_members.has ms.value) (queue_members.read ms.value) q ms.next)

no_queues_good : QueuesFit no_queues
no_queues_good = (
  none_good (IsSentAs IsHttp),
  (
    none_good (IsSentAs IsHttp),
    (
      none_good (IsSentAs IsHttp),
      (
        none_good (IsSentAs IsSts),
        (
          none_good (IsSentAs IsSts),
          (
            none_good (IsSentAs IsRole),
            (none_good (IsSentAs IsToken), (none_good (IsSentAs IsSignIn), tt)),
          ),
        ),
      ),
    ),
  ),
)

replies_good : (m : Option Data) (q : Queues) → or_missing no_queues replies m ≡ Ok q → QueuesFit q
replies_good None q e = ok_good QueuesFit no_queues q e no_queues_good
replies_good (Some d) q e = queues_good d q e

abbrev DevicesFit : DeviceRows → Type 0
DevicesFit rows = Unit {0} × (Unit {0} × (All (λ m. pos 0 ≤ℤ m.seconds) rows.1.1.0 × (Unit {0}
    × (All FailsByIo rows.1.1.1.1.0 × (All FailsByIo rows.1.1.1.1.1.0 × (QueuesFit rows.1.1.1.1.1.1.0 × Unit {0}))))))

devices_say : ObjectSays device_members DevicesFit
devices_say =
    and (free (list_member (codes "files") file))
    (and (free (list_member (codes "unwritable") characters_of))
    (and (items (codes "clock") clock_moment (λ m. pos 0 ≤ℤ m.seconds) clock_good)
    (and (free (list_member (codes "jitter") unsigned_integer))
    (and (items (codes "commands") command FailsByIo command_good)
    (and (items (codes "lookups") look_up FailsByIo look_up_good)
    (and (record { says = replies_good })
    none_left))))))

lists_fit : (rows : DeviceRows) → DevicesFit rows → AllFit (lists_in rows)
unfolding lists_in
lists_fit rows fit =
    let queues = fit.1.1.1.1.1.1.0 in
    record {
      clock = fit.1.1.0;
      commands = fit.1.1.1.1.0;
      lookups = fit.1.1.1.1.1.0;
      http = queues.0;
      imds_token = queues.1.0;
      imds_get = queues.1.1.0;
      assume_role = queues.1.1.1.0;
      web_identity = queues.1.1.1.1.0;
      role_credentials = queues.1.1.1.1.1.0;
      create_token = queues.1.1.1.1.1.1.0;
      sign_in = queues.1.1.1.1.1.1.1.0;
    }

lists_say : ObjectSays devices AllFit
lists_say = record {
  says = λ ms lists e.
      let w = went (device_members.read ms) (λ rows. Ok (lists_in rows)) lists e in
      ok_good AllFit (lists_in w.value) lists w.next (lists_fit w.value (devices_say.says ms w.value w.is));
}

-- ---- settings

count_chosen : (b : Bool) (n m : ℕ) → is_call_count n ≡ b → cond b (Some n) None ≡ Some m → IsTrue (is_call_count m)
count_chosen true n m h e = some_good (λ k. IsTrue (is_call_count k)) n m e h
count_chosen false n m h e = cc

pub count_good : (w : Wanted) (d : Data) (n : ℕ) → whole_form w call_count_of d ≡ Ok n → IsTrue (is_call_count n)
unfolding call_count_of
count_good w d n e =
    let said = went_some (unsigned_of d) (λ k. if is_call_count k then Some k else None) n (was_there w (call_count_of d) n e) in
    count_chosen (is_call_count said.value) said.value n refl said.next

-- so many calls, or one where nothing is said of them
abbrev pub IsCounted : Option ℕ → Type 0
IsCounted o = IsTrue (is_call_count (unwrap_or o 1))

pub calls_good : (m : Option Data) (o : Option ℕ) → (optional_member (codes "calls") call_count).read m ≡ Ok o → IsCounted o
calls_good None o e = ok_good IsCounted None o e refl
calls_good (Some d) o e =
    let w = went (call_count d) (λ n. Ok (Some n)) o e in
    ok_good IsCounted (Some w.value) o w.next (count_good wanted.Calls d w.value w.is)

module _ {B : Type 0} {others : ObjectForm B} {P : B → Type 0} where
  -- the settings say nothing of their own but how many calls there are
  settings_say : ObjectSays others P → ObjectSays (settings others) (λ rows. Unit {0} × (Unit {0} × (Unit {0} × (Unit {0} × (Unit {0} × (Unit {0} × (Unit {0} × (Unit {0} × (IsCounted rows.1.1.1.1.1.1.1.1.0 × P rows.1.1.1.1.1.1.1.1.1)))))))))
  settings_say behind =
      and (free (list_member (codes "variables") variable))
      (and (free (list_member (codes "profiles") section))
      (and (free (list_member (codes "sessions") section))
      (and (free (optional_member (codes "refused") characters_of))
      (and (free (optional_member (codes "selected") text))
      (and (free (optional_member (codes "region") text))
      (and (free (optional_member (codes "sleep") boolean))
      (and (free service_member)
      (and (record { says = calls_good })
      behind))))))))

-- ---- the script

-- what is read as a script can be handed to scripted devices, and makes as many calls as there may be
abbrev Fitting : Plain → Type 0
Fitting p = AllFit (lists_of p) × IsTrue (is_call_count p.calls)

rows_fit : (ms : Members) (rows : ScriptRows) → script_members.read ms ≡ Ok rows → Fitting (plain_in rows)
unfolding plain_in
rows_fit ms rows e =
    let fit = ((settings_say lists_say).says ms rows e).1.1.1.1.1.1.1.1 in
    (fit.1, fit.0)

script_says : ObjectSays script Fitting
script_says = record {
  says = λ ms p e.
      let w = went (script_members.read ms) (λ rows. Ok (plain_in rows)) p e in
      ok_good Fitting (plain_in w.value) p w.next (rows_fit ms w.value w.is);
}

reason_left : {A : Type 0} (r : Result A Fault) (p : A) → or_reason r ≡ Ok p → r ≡ Ok p
reason_left (Ok q) p e = cc
reason_left (Err f) p e = cc

module _ {A : Type 0} (object : ObjectForm A) (P : A → Type 0) (says : ObjectSays object P) where
  value_says : (d : Data) (a : A) → value_said object d ≡ Ok a → P a
  value_says d a e =
      let w = went (wanting wanted.Object (as_object d)) (members_said object) a e in
      says.says w.value a (no_other (beside_fault w.value) _ a (no_other (unknown_name object.has w.value) _ a w.next))

  json_says : (o : Option Data) (a : A) → json_said object o ≡ Ok a → P a
  json_says None a e = cc
  json_says (Some d) a e = value_says d a (reason_left (value_said object d) a e)

  pub bytes_say : (bytes : List ℕ) (a : A) → bytes_said object bytes ≡ Ok a → P a
  unfolding bytes_said
  bytes_say bytes a e = json_says (json_value bytes) a e

pub said_fits : (bytes : List ℕ) (p : Plain) → Ok p ≡ bytes_said script bytes → AllFit (lists_of p)
said_fits bytes p e = (bytes_say script Fitting script_says bytes p (sym e)).0

pub said_counts : (bytes : List ℕ) (p : Plain) → Ok p ≡ bytes_said script bytes → IsTrue (is_call_count p.calls)
said_counts bytes p e = (bytes_say script Fitting script_says bytes p (sym e)).1

-- ---- the script of several callers

caller_good : (d : Data) (lists : DeviceLists) → caller d ≡ Ok lists → AllFit lists
caller_good d lists e =
    let ms = went (wanting wanted.Caller (as_object d)) (only devices) lists e in
    lists_say.says ms.value lists (no_other (unknown_name devices.has ms.value) (devices.read ms.value) lists ms.next)

-- each caller's lists fit, and there are as many callers as there may be
abbrev CallersFit : List DeviceLists → Type 0
CallersFit all = All AllFit all × IsTrue (is_caller_count (length all))

count_kept : (b : Bool) (all kept : List DeviceLists) → is_caller_count (length all) ≡ b → cond b (Some all) None ≡ Some kept → All AllFit all → CallersFit kept
count_kept true all kept h e fit = some_good CallersFit all kept e (fit, h)
count_kept false all kept h e fit = cc

callers_good : (d : Data) (kept : List DeviceLists) → callers d ≡ Ok kept → CallersFit kept
unfolding counted_callers
callers_good d kept e =
    let w = went (list_by wanted.Callers caller d) (λ all. wanting wanted.Callers (counted_callers all)) kept e in
    let each_one = went (wanting wanted.Callers (as_array d)) (each caller 0) w.value w.is in
    count_kept (is_caller_count (length w.value)) w.value kept refl (was_there wanted.Callers (counted_callers w.value) kept w.next)
    (All-from_recursion AllFit w.value (each_all AllFit caller caller_good 0 each_one.value w.value each_one.next))

callers_there : (m : Option Data) (kept : List DeviceLists) → (required_member (codes "callers") callers).read m ≡ Ok kept → CallersFit kept
callers_there None kept e = cc
callers_there (Some d) kept e = callers_good d kept e

callers_say : MemberSays (required_member (codes "callers") callers) CallersFit
callers_say = record { says = callers_there }

abbrev ShareFits : PlainShare → Type 0
ShareFits p = CallersFit p.callers

share_rows_fit : (ms : Members) (rows : ShareRows) → share_members.read ms ≡ Ok rows → ShareFits (share_in rows)
unfolding share_in
share_rows_fit ms rows e = ((settings_say (and callers_say none_left)).says ms rows e).1.1.1.1.1.1.1.1.1.0

share_says : ObjectSays share ShareFits
share_says = record {
  says = λ ms p e.
      let w = went (share_members.read ms) (λ rows. Ok (share_in rows)) p e in
      ok_good ShareFits (share_in w.value) p w.next (share_rows_fit ms w.value w.is);
}

pub share_fits : (bytes : List ℕ) (p : PlainShare) → Ok p ≡ bytes_said share bytes → All AllFit p.callers
share_fits bytes p e = (bytes_say share ShareFits share_says bytes p (sym e)).0

pub share_counts : (bytes : List ℕ) (p : PlainShare) → Ok p ≡ bytes_said share bytes → IsTrue (is_caller_count (length p.callers))
share_counts bytes p e = (bytes_say share ShareFits share_says bytes p (sym e)).1
