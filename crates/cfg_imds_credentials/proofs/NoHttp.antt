-- Trees that send no `Http` request, and look up no host.
use Rattle.std.proofs.Common.{◌≡◌, ℕ, List, [], ◌∷◌, Bool, true, false, Option, Some, None, Result, Ok, Err, refl, sym, subst, inl, inr}
use Rattle.std.specs.Prelude.{◌-◌, if◌then◌else◌}
use Rattle.cfg_types.specs.declared.errors.imds.ImdsError.{ImdsError}
use Rattle.cfg_types.specs.declared.request.Request.{Request}
use Rattle.cfg_world.specs.declared.ask.Question.TheVariants.{Send, Now}
use Rattle.cfg_world.specs.declared.ask.Answer.{Answer as Given}
use Rattle.cfg_world.specs.Fits.{Pair}
use Rattle.cfg_world.specs.Inquiry.{Inquiry, Done, Ask, after}
use Rattle.cfg_world.specs.Leaves.{clock, moment_of}
use Rattle.cfg_exchange.specs.declared.reading.ReplyKind.{ReplyKind}
use Rattle.cfg_exchange.specs.declared.reading.ReplyKind.TheVariants as kind
use Rattle.cfg_exchange.specs.Attempts.{asked}
use Rattle.cfg_exchange.specs.Classifiers.{is_repeated}
use Rattle.cfg_exchange.specs.SafeJournals.{is_http_or_look_up, AsksNoHttp}
use Rattle.cfg_exchange.proofs.NoHttp.{NeverAsksHttp, after_without, either_without, attempts_without}
use Rattle.cfg_imds.specs.Clients.{ClientRules, place_of, settle, fetch, usable_error}
use Rattle.cfg_imds.specs.Fetches.{fetched, fetch_at}
use Rattle.cfg_imds.specs.Requests.{Service, token_request, get_request, tries, token_attempts, get_attempts}
use Rattle.cfg_imds.specs.Settles.{has_time_left, kept_value, renewal, renew, settle_at}
use Rattle.cfg_imds.specs.Tokens.{Token}
use Rattle.cfg_kept.specs.declared.place.Place.{Place}
use Rattle.cfg_kept.specs.Kinds.{Spot, Value, States, MetadataTokenOf, MetadataTokenAt, token_in}
use Rattle.cfg_kept.specs.KeptInquiry.{KeptInquiry, Gives, Puts, Finds, Leaves, Begins, leave, lift, onwards, onwards_if_ok}
use Rattle.cfg_kept.specs.Holds.{left_by, holding}
use Rattle.cfg_kept.specs.MetadataHoldings.{token_holding}
use Rattle.cfg_kept.specs.RoleDocuments.{RoleKeys}
use Rattle.cfg_providers.specs.CustomSources.{Answer}
use Rattle.cfg_imds_credentials.specs.Metadata.{unless_fault, token_and_text, metadata_get, listing_path, listed, listing, path_of_role, documented, document, dated_keys, jittered, extended, dated, retrieves_at, retrieves, unless_disabled, settled, metadata}
use Rattle.cfg_imds_credentials.specs.Settings.{MetadataSetting}

-- None of the tree's questions is such a request or look-up, whatever is answered and found.
abbrev pub NeverPutsHttp : {R : Type 0} → KeptInquiry R → Type 0
NeverPutsHttp (Gives r) = Unit {0}
NeverPutsHttp (Puts q next) = (is_http_or_look_up q ≡ false) × ((a : Given) → NeverPutsHttp (next a))
NeverPutsHttp (Finds spot next) = (v : Value) → NeverPutsHttp (next v)
NeverPutsHttp (Leaves v rest) = NeverPutsHttp rest

pub begins_without : {R : Type 0} (p : KeptInquiry R) (old new : Option States) (found : List Value) (part : List Pair) → NeverPutsHttp p → Begins p old found part new → AsksNoHttp part
begins_without (Gives r) old new [] [] n h = tt
begins_without (Gives r) old new [] (e ∷ part) n h = absurd h
begins_without (Gives r) old new (f ∷ found) part n h = absurd h
begins_without (Puts q next) old new [] [] n h = tt
begins_without (Puts q next) old new (f ∷ found) [] n h = absurd h
begins_without (Puts q next) old new found (e ∷ part) n h =
    (subst (λ x. is_http_or_look_up x ≡ false) (sym h.0) n.0, begins_without (next e.1) old new found part (n.1 e.1) h.1)
begins_without (Finds spot next) old new [] [] n h = tt
begins_without (Finds spot next) old new [] (e ∷ part) n h = absurd h
begins_without (Finds spot next) old new (f ∷ found) part n h = begins_without (next f) old new found part (n f) h.2
begins_without (Leaves v p) old new found part n (inl h) = subst AsksNoHttp (sym h.1) tt
begins_without (Leaves v p) old new found part n (inr h) = begins_without p (leave old v) new found part n h

-- ---- how such trees are put together

pub lift_without : {R : Type 0} (p : Inquiry R) → NeverAsksHttp p → NeverPutsHttp (lift p)
lift_without (Done r) n = tt
lift_without (Ask q next) n = (n.0, λ a. lift_without (next a) (n.1 a))

pub onwards_without : {A B : Type 0} (p : KeptInquiry A) (f : A → KeptInquiry B) → NeverPutsHttp p → ((x : A) → NeverPutsHttp (f x)) → NeverPutsHttp (onwards p f)
onwards_without (Gives x) f n m = m x
onwards_without (Puts q next) f n m = (n.0, λ a. onwards_without (next a) f (n.1 a) m)
onwards_without (Finds spot next) f n m = λ v. onwards_without (next v) f (n v) m
onwards_without (Leaves v p) f n m = onwards_without p f n m

pub if_ok_without : {A B E : Type 0} (f : A → KeptInquiry (Result B E)) (r : Result A E) → ((x : A) → NeverPutsHttp (f x)) → NeverPutsHttp (onwards_if_ok f r)
if_ok_without f (Ok x) m = m x
if_ok_without f (Err e) m = tt

-- and those that go on after an Ok alone
pub bound_without : {A B E : Type 0} (p : KeptInquiry (Result A E)) (f : A → KeptInquiry (Result B E)) → NeverPutsHttp p → ((x : A) → NeverPutsHttp (f x)) → NeverPutsHttp (onwards p (onwards_if_ok f))
bound_without p f n m = onwards_without p (onwards_if_ok f) n (λ r. if_ok_without f r m)

-- one holding asks what is asked over the value that it found
pub holding_without : {R T : Type 0} (spot : Spot) (at : T → Value) (asks : Value → Inquiry (R × T)) → ((v : Value) → NeverAsksHttp (asks v)) → NeverPutsHttp (holding spot at asks)
unfolding holding
holding_without spot at asks n = λ v. onwards_without (lift (asks v)) (left_by at) (lift_without (asks v) (n v)) (λ made. tt)

-- ---- instance metadata

tries_without : (s : Service) (k : ReplyKind) (r : Request) → is_http_or_look_up (Send r) ≡ false → NeverAsksHttp (tries s k r)
unfolding tries
tries_without s k r n = attempts_without (s.settings.max_attempts - 1) (Send r) (is_repeated k s.repeats) n

renew_without : (s : Service) (endpoint : List ℕ) → NeverAsksHttp (renew s endpoint)
unfolding renew asked
renew_without s endpoint =
    after_without (token_attempts s endpoint) (λ reply. after (asked Now) (λ reading. Done (renewal reply reading)))
    (tries_without s kind.MetadataToken (token_request s.settings endpoint) refl) (λ reply. (refl, λ a. tt))

settle_without : (s : Service) (endpoint : List ℕ) (kept : Option Token) → NeverAsksHttp (settle_at s endpoint kept)
unfolding settle_at clock
settle_without s endpoint kept =
    (refl, λ a. either_without (has_time_left kept (moment_of a)) (Done (Ok (kept_value kept), kept)) (renew s endpoint) tt (renew_without s endpoint))

fetch_without : (s : Service) (endpoint path token : List ℕ) → NeverAsksHttp (fetch_at s endpoint path token)
unfolding fetch_at
fetch_without s endpoint path token =
    after_without (get_attempts s endpoint path token) (λ last. Done (fetched last))
    (tries_without s kind.MetadataText (get_request s.settings endpoint path token) refl) (λ last. tt)

dated_without : (role : RoleKeys) → NeverAsksHttp (dated role)
unfolding dated extended jittered asked
dated_without role = (refl, λ a. either_without _ (jittered role (Now, a)) (Done (dated_keys role (Now, a) None)) (refl, λ b. tt) tt)

module _ (client : ClientRules) (place : Place) where
  holding_of_token : NeverPutsHttp (token_holding client place)
  unfolding token_holding
  holding_of_token =
      holding_without (MetadataTokenOf place) (MetadataTokenAt place) (λ found. settle client (token_in found)) (λ found. settle_without client.service (place_of client.endpoint) (token_in found))

  text_without : (path : List ℕ) → NeverPutsHttp (token_and_text client place path)
  unfolding token_and_text
  text_without path =
      bound_without (token_holding client place) (λ token. lift (fetch client path token)) holding_of_token
      (λ token. lift_without (fetch client path token) (fetch_without client.service (place_of client.endpoint) path token))

  unless_without : (fault : Option ImdsError) (asks : KeptInquiry (Result Pair ImdsError)) → NeverPutsHttp asks → NeverPutsHttp (unless_fault fault asks)
  unless_without (Some e) asks n = tt
  unless_without None asks n = n

  get_without : (path : List ℕ) → NeverPutsHttp (metadata_get client place path)
  unfolding metadata_get
  get_without path = unless_without (usable_error client path) (token_and_text client place path) (text_without path)

  path_without : (role : Option (List ℕ)) → NeverPutsHttp (path_of_role client place role)
  unfolding path_of_role listing
  path_without (Some role) = tt
  path_without None = onwards_without (metadata_get client place listing_path) (λ got. Gives (listed got)) (get_without listing_path) (λ got. tt)

  at_path_without : (path : List ℕ) → NeverPutsHttp (retrieves_at client place path)
  unfolding retrieves_at document
  at_path_without path =
      bound_without (document client place path) (λ role. lift (dated role))
      (onwards_without (metadata_get client place path) (λ got. Gives (documented got)) (get_without path) (λ got. tt)) (λ role. lift_without (dated role) (dated_without role))

  retrieves_without : (role : Option (List ℕ)) → NeverPutsHttp (retrieves client place role)
  unfolding retrieves
  retrieves_without role = bound_without (path_of_role client place role) (retrieves_at client place) (path_without role) at_path_without

settled_without : (place : Place) (answer : Answer) → NeverPutsHttp (settled place answer)
settled_without place (Ok keys) = tt
settled_without place (Err e) = λ found. tt

choice_without : {R : Type 0} (b : Bool) (p q : KeptInquiry R) → NeverPutsHttp p → NeverPutsHttp q → NeverPutsHttp (if b then p else q)
choice_without true p q n m = n
choice_without false p q n m = m

pub metadata_without : (s : MetadataSetting) → NeverPutsHttp (metadata s)
unfolding metadata unless_disabled
metadata_without s =
    onwards_without (unless_disabled s) (settled s.place) (choice_without s.disabled _ (retrieves s.client s.place s.role) tt (retrieves_without s.client s.place s.role)) (settled_without s.place)
