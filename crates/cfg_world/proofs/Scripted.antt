-- One question more to scripted devices.
use Rattle.std.proofs.Common.{rules, arith, ◌≡◌, ℕ, zero, suc, ◌+◌, ◌≤◌, List, [], ◌∷◌, ◌++◌, map, Option, Some, None, Result, Ok, Err, refl, sym, ap, ◌∙◌, subst}
use Rattle.std.specs.Prelude.{pos, ◌≤ℤ◌, unwrap_or, slice_get, All, min, length, if◌then◌else◌, Bool, true, false}
use Rattle.cfg_base.specs.Moment.{Moment}
use Rattle.cfg_base.specs.declared.address.Address.{Address}
use Rattle.cfg_types.specs.declared.reply.FailKind.{FailKind}
use Rattle.cfg_types.specs.declared.reply.FailKind.TheVariants.{Dispatch, Io}
use Rattle.cfg_types.specs.declared.command.Finished.{Finished}
use Rattle.cfg_types.specs.declared.reply.Refusal.{Refusal}
use Rattle.cfg_types.specs.declared.reply.http.HttpReply.{HttpReply}
use Rattle.cfg_types.specs.declared.reply.sts.StsReply.{StsReply}
use Rattle.cfg_types.specs.declared.reply.sso.RoleReply.{RoleReply}
use Rattle.cfg_types.specs.declared.reply.sso.TokenReply.{TokenReply}
use Rattle.cfg_types.specs.declared.reply.sign_in.SignInReply.{SignInReply}
use Rattle.cfg_types.specs.declared.reply.Reply.{Reply}
use Rattle.cfg_types.specs.declared.reply.Reply.TheVariants as reply
use Rattle.cfg_types.specs.declared.request.Request.{Request}
use Rattle.cfg_types.specs.declared.request.Request.TheVariants as request
use Rattle.cfg_world.specs.declared.ask.Question.{Question}
use Rattle.cfg_world.specs.declared.ask.Question.TheVariants as question
use Rattle.cfg_world.specs.declared.ask.Answer.{Answer}
use Rattle.cfg_world.specs.declared.ask.Answer.TheVariants as answer
use Rattle.cfg_world.specs.declared.script.DeviceLists.{DeviceLists}
use Rattle.cfg_world.specs.Fits.{Fits, FitsRequest, Pair}
use Rattle.cfg_world.specs.Faults.{Faults, Counted, Rises, Files, Transport, Commands, LookUps, failures, full_count}
use Rattle.cfg_world.specs.Asked.{Asked}
use Rattle.cfg_world.specs.Scripted.{place_of}
use Rattle.cfg_world.specs.declared.script.Places.{Places}
use Rattle.cfg_world.specs.Script.{Channel, Clock, Jitter, Commands as CommandsChannel, LookUps as LookUpsChannel, Http, ImdsToken, ImdsGet, AssumeRole, WebIdentity, RoleCredentials, CreateToken, SignIn, place_at, Script, Place, AllFit, IsSentAs, IsHttp, IsSts, IsRole, IsToken, IsSignIn, FailsByIo, start, answered, sent, last_reading, read_answer, is_unwritable, answer_at, place_after, contents_at, Given, place_left, Allows, Stands}

module _ (lists : DeviceLists) (q : Question) (a : Answer) where
  given_more : (place : Place) (entries : List Pair) → Given lists place entries → a ≡ answer_at lists (place_left lists place entries) q → Given lists place (entries ++ (q, a) ∷ [])
  given_more place [] g e = (e, tt)
  given_more place (x ∷ xs) g e = (g.0, given_more (place_after lists place x.0) xs g.1 e)

  place_more : (place : Place) (entries : List Pair) → place_left lists place (entries ++ (q, a) ∷ []) ≡ place_after lists (place_left lists place entries) q
  place_more place [] = refl
  place_more place (x ∷ xs) = place_more (place_after lists place x.0) xs

-- after the script's own answer it stands for one entry more
stands_more : (lists : DeviceLists) (place next : Place) (q : Question) (a : Answer) → a ≡ answer_at lists place q → next ≡ place_after lists place q → (entries : List Pair)
    → Given lists start entries × (place_left lists start entries ≡ place)
    → Given lists start (entries ++ (q, a) ∷ []) × (place_left lists start (entries ++ (q, a) ∷ []) ≡ next)
stands_more lists place next q a is moved entries s = (
  given_more lists q a start entries s.0 (is ∙ ap (λ p. answer_at lists p q) (sym s.1)),
  place_more lists q a start entries ∙ ap (λ p. place_after lists p q) s.1 ∙ sym moved,
)

-- an item of a list as an answer
pub mapped_item : {X : Type 0} (of : X → Answer) (xs : List X) (at : ℕ) (behind : X) → of (unwrap_or (slice_get xs at) behind) ≡ unwrap_or (slice_get (map of xs) at) (of behind)
mapped_item of [] zero behind = refl
mapped_item of [] (suc at) behind = refl
mapped_item of (x ∷ xs) zero behind = refl
mapped_item of (x ∷ xs) (suc at) behind = mapped_item of xs at behind

pub mapped_length : {X : Type 0} (of : X → Answer) (xs : List X) → length (map of xs) ≡ length xs
mapped_length of [] = refl
mapped_length of (x ∷ xs) = let e : length (map of xs) ≡ length xs = mapped_length of xs in omega (arith, e)

-- an item that is there, or what stands for one that is not
there_or : {X : Type 0} (P : Option X → Type 0) → P None → (xs : List X) (at : ℕ) → All (λ x. P (Some x)) xs → P (slice_get xs at)
there_or P none [] zero all = none
there_or P none [] (suc at) all = none
there_or P none (x ∷ xs) zero all = all 0 x (omega arith)
there_or P none (x ∷ xs) (suc at) all = there_or P none xs at (λ k d h. all (suc k) d (omega arith))

-- an answer of a list whose items all are so, or what stands behind its end
item_or : {X : Type 0} (P : Answer → Type 0) (of : X → Answer) (behind : Answer) → P behind → (xs : List X) (at : ℕ) → All (λ x. P (of x)) xs → P (unwrap_or (slice_get (map of xs) at) behind)
item_or P of behind none [] zero all = none
item_or P of behind none [] (suc at) all = none
item_or P of behind none (x ∷ xs) zero all = all 0 x (omega arith)
item_or P of behind none (x ∷ xs) (suc at) all = item_or P of behind none xs at (λ k d h. all (suc k) d (omega arith))

last_fits : (clock : List Moment) (at : ℕ) → All (λ m. pos 0 ≤ℤ m.seconds) clock → pos 0 ≤ℤ (unwrap_or (slice_get clock at) (record { seconds = pos 0; nanos = 0 })).seconds
last_fits clock at all = let P : Option Moment → Type 0 = λ o. pos 0 ≤ℤ (unwrap_or o (record { seconds = pos 0; nanos = 0 })).seconds in there_or P (search rules) clock at all

number_fits : (numbers : List ℕ) (at : ℕ) → Fits question.Jitter (unwrap_or (slice_get (map answer.Jitter numbers) at) (answer.Jitter 0))
number_fits [] zero = tt
number_fits [] (suc at) = tt
number_fits (n ∷ numbers) zero = tt
number_fits (n ∷ numbers) (suc at) = number_fits numbers at

contents_fit : (path : List ℕ) (contents : Option (List ℕ)) → Fits (question.Read path) (read_answer contents)
contents_fit path None = tt
contents_fit path (Some contents) = tt

write_fits : (b : Bool) (path bytes : List ℕ) → Fits (question.Write path bytes) (if b then answer.Failed Io else answer.Written)
write_fits true path bytes = tt
write_fits false path bytes = tt

sent_fits : (r : Request) (P : Reply → Type 0) → ((given : Reply) → P given → FitsRequest r given) → (s : Result Reply FailKind) → IsSentAs P s → Fits (question.Send r) (sent s)
sent_fits r P takes (Ok given) h = takes given h
sent_fits r P takes (Err kind) h = h

-- a queue of replies of one kind answers the requests that take this kind
queue_fits : (r : Request) (P : Reply → Type 0) → ((given : Reply) → P given → FitsRequest r given) → (replies : List (Result Reply FailKind)) (at : ℕ) → All (IsSentAs P) replies
    → Fits (question.Send r) (unwrap_or (slice_get (map sent replies) at) (answer.Failed Dispatch))
queue_fits r P takes replies at all = item_or (Fits (question.Send r)) sent (answer.Failed Dispatch) tt replies at (λ k d h. sent_fits r P takes _ (all k d h))

http_taken : (r : Request) → ((given : HttpReply) → FitsRequest r (reply.Http given)) → (given : Reply) → IsHttp given → FitsRequest r given
http_taken r takes (reply.Http given) h = takes given
http_taken r takes (reply.Sts given) h = absurd h
http_taken r takes (reply.Role given) h = absurd h
http_taken r takes (reply.Token given) h = absurd h
http_taken r takes (reply.SignIn given) h = absurd h
http_taken r takes (reply.Refused given) h = absurd h

sts_taken : (r : Request) → ((given : StsReply) → FitsRequest r (reply.Sts given)) → ((refusal : Refusal) → FitsRequest r (reply.Refused refusal)) → (given : Reply) → IsSts given → FitsRequest r given
sts_taken r takes may (reply.Http given) h = absurd h
sts_taken r takes may (reply.Sts given) h = takes given
sts_taken r takes may (reply.Role given) h = absurd h
sts_taken r takes may (reply.Token given) h = absurd h
sts_taken r takes may (reply.SignIn given) h = absurd h
sts_taken r takes may (reply.Refused given) h = may given

role_taken : (r : Request) → ((given : RoleReply) → FitsRequest r (reply.Role given)) → ((refusal : Refusal) → FitsRequest r (reply.Refused refusal)) → (given : Reply) → IsRole given → FitsRequest r given
role_taken r takes may (reply.Http given) h = absurd h
role_taken r takes may (reply.Sts given) h = absurd h
role_taken r takes may (reply.Role given) h = takes given
role_taken r takes may (reply.Token given) h = absurd h
role_taken r takes may (reply.SignIn given) h = absurd h
role_taken r takes may (reply.Refused given) h = may given

token_taken : (r : Request) → ((given : TokenReply) → FitsRequest r (reply.Token given)) → ((refusal : Refusal) → FitsRequest r (reply.Refused refusal)) → (given : Reply) → IsToken given → FitsRequest r given
token_taken r takes may (reply.Http given) h = absurd h
token_taken r takes may (reply.Sts given) h = absurd h
token_taken r takes may (reply.Role given) h = absurd h
token_taken r takes may (reply.Token given) h = takes given
token_taken r takes may (reply.SignIn given) h = absurd h
token_taken r takes may (reply.Refused given) h = may given

sign_in_taken : (r : Request) → ((given : SignInReply) → FitsRequest r (reply.SignIn given)) → ((refusal : Refusal) → FitsRequest r (reply.Refused refusal)) → (given : Reply) → IsSignIn given → FitsRequest r given
sign_in_taken r takes may (reply.Http given) h = absurd h
sign_in_taken r takes may (reply.Sts given) h = absurd h
sign_in_taken r takes may (reply.Role given) h = absurd h
sign_in_taken r takes may (reply.Token given) h = absurd h
sign_in_taken r takes may (reply.SignIn given) h = takes given
sign_in_taken r takes may (reply.Refused given) h = may given

ran_fits : (command : List ℕ) (r : Result Finished FailKind) → FailsByIo r → Fits (question.Run command) (answered answer.Finished r)
ran_fits command (Ok left) h = tt
ran_fits command (Err kind) h = h

found_fits : (host : List ℕ) (r : Result (List Address) FailKind) → FailsByIo r → Fits (question.LookUp host) (answered answer.Addresses r)
found_fits host (Ok found) h = tt
found_fits host (Err kind) h = h

pub fits_at : (lists : DeviceLists) → AllFit lists → (place : Place) (q : Question) → Fits q (answer_at lists place q)
fits_at lists all place question.Now = item_or (Fits question.Now) answer.Moment (answer.Moment (last_reading lists.clock)) (last_fits lists.clock _ all.clock) lists.clock place.clock all.clock
fits_at lists all place question.Jitter = number_fits lists.jitter place.jitter
fits_at lists all place (question.Read path) = contents_fit path (contents_at lists place.writes path)
fits_at lists all place (question.Write path bytes) = write_fits (is_unwritable lists path) path bytes
fits_at lists all place (question.Run command) = item_or (Fits (question.Run command)) (answered answer.Finished) (answer.Failed Io) tt lists.commands place.commands (λ k d h. ran_fits command _ (all.commands k d h))
fits_at lists all place (question.LookUp host) = item_or (Fits (question.LookUp host)) (answered answer.Addresses) (answer.Failed Io) tt lists.lookups place.lookups (λ k d h. found_fits host _ (all.lookups k d h))
fits_at lists all place (question.Send (request.Http call)) = queue_fits (request.Http call) IsHttp (http_taken (request.Http call) (λ given. tt)) lists.http place.http all.http
fits_at lists all place (question.Send (request.MetadataToken call)) = queue_fits (request.MetadataToken call) IsHttp (http_taken (request.MetadataToken call) (λ given. tt)) lists.imds_token place.imds_token all.imds_token
fits_at lists all place (question.Send (request.MetadataGet call)) = queue_fits (request.MetadataGet call) IsHttp (http_taken (request.MetadataGet call) (λ given. tt)) lists.imds_get place.imds_get all.imds_get
fits_at lists all place (question.Send (request.AssumeRole call)) = queue_fits (request.AssumeRole call) IsSts (sts_taken (request.AssumeRole call) (λ given. tt) (λ refusal. tt)) lists.assume_role place.assume_role all.assume_role
fits_at lists all place (question.Send (request.AssumeRoleWithWebIdentity call)) = queue_fits (request.AssumeRoleWithWebIdentity call) IsSts (sts_taken (request.AssumeRoleWithWebIdentity call) (λ given. tt) (λ refusal. tt)) lists.web_identity place.web_identity all.web_identity
fits_at lists all place (question.Send (request.GetRoleCredentials call)) = queue_fits (request.GetRoleCredentials call) IsRole (role_taken (request.GetRoleCredentials call) (λ given. tt) (λ refusal. tt)) lists.role_credentials place.role_credentials all.role_credentials
fits_at lists all place (question.Send (request.CreateToken call)) = queue_fits (request.CreateToken call) IsToken (token_taken (request.CreateToken call) (λ given. tt) (λ refusal. tt)) lists.create_token place.create_token all.create_token
fits_at lists all place (question.Send (request.CreateOAuth2Token call)) = queue_fits (request.CreateOAuth2Token call) IsSignIn (sign_in_taken (request.CreateOAuth2Token call) (λ given. tt) (λ refusal. tt)) lists.sign_in place.sign_in all.sign_in

-- Scripted devices that stood so were asked q, answered a, and now stand at this place with these faults.
module _ (was old : Script) (place : Place) (faults : Faults) (q : Question) (view_is : was ≡ old) where
  abbrev Now : List Pair → Type 0
  Now entries = Given was.lists start entries × (place_left was.lists start entries ≡ place)

  pub asked : (a : Answer) → AllFit was.lists → a ≡ answer_at was.lists was.place q → place ≡ place_after was.lists was.place q → Counted ((q, a) ∷ []) was.faults faults
      → Asked old.faults faults (Allows old) (Given was.lists start) (Stands old) Now q (Some a)
  asked a all is moved counted = subst (λ (s : Script). Asked s.faults faults (Allows s) (Given was.lists start) (Stands s) Now q (Some a)) view_is (record {
    same = record { to = λ l h. h; from = λ l h. h };
    counted = counted;
    fits = subst (λ x. Fits q x) (sym is) (fits_at was.lists all was.place q);
    stands = stands_more was.lists was.place place q a is moved;
  })

rises_none : (k n : ℕ) → k ≡ 0 → Rises (k + 0) n n
rises_none k n none = record { later = omega arith; counted = omega (arith, none) }

rises_once : (k before now : ℕ) → k ≡ 1 → now ≡ min (before + 1) full_count → before ≤ now → Rises (k + 0) before now
rises_once k before now one is later = record { later = later; counted = omega (arith, one, is) }

-- without memory they stay as they were
pub unanswered : (s : Script) (q : Question) → Asked s.faults s.faults (Allows s) (Allows s) (Stands s) (Stands s) q None
unanswered s q = record {
  same = record { to = λ l h. h; from = λ l h. h };
  counted = record { files = rises_none 0 _ refl; transport = rises_none 0 _ refl; commands = rises_none 0 _ refl; lookups = rises_none 0 _ refl };
  fits = tt;
  stands = tt;
}

-- an answer that is no failure counts nothing
pub nothing_counted : (q : Question) (a : Answer) (f : Faults) → failures Files q a ≡ 0 → failures Transport q a ≡ 0 → failures Commands q a ≡ 0 → failures LookUps q a ≡ 0 → Counted ((q, a) ∷ []) f f
nothing_counted q a f h t c l = record { files = rises_none _ _ h; transport = rises_none _ _ t; commands = rises_none _ _ c; lookups = rises_none _ _ l }

-- one failure is counted once
pub files_counted : (q : Question) (a : Answer) (f : Faults) (n : ℕ) → failures Files q a ≡ 1 → failures Transport q a ≡ 0 → failures Commands q a ≡ 0 → failures LookUps q a ≡ 0 → n ≡ min (f.files + 1) full_count → f.files ≤ n → Counted ((q, a) ∷ []) f (record f { files = n })
files_counted q a f n h t c l is later = record { files = rises_once _ _ _ h is later; transport = rises_none _ _ t; commands = rises_none _ _ c; lookups = rises_none _ _ l }

-- one failure is counted once
pub transport_counted : (q : Question) (a : Answer) (f : Faults) (n : ℕ) → failures Files q a ≡ 0 → failures Transport q a ≡ 1 → failures Commands q a ≡ 0 → failures LookUps q a ≡ 0 → n ≡ min (f.transport + 1) full_count → f.transport ≤ n → Counted ((q, a) ∷ []) f (record f { transport = n })
transport_counted q a f n h t c l is later = record { files = rises_none _ _ h; transport = rises_once _ _ _ t is later; commands = rises_none _ _ c; lookups = rises_none _ _ l }

-- one failure is counted once
pub commands_counted : (q : Question) (a : Answer) (f : Faults) (n : ℕ) → failures Files q a ≡ 0 → failures Transport q a ≡ 0 → failures Commands q a ≡ 1 → failures LookUps q a ≡ 0 → n ≡ min (f.commands + 1) full_count → f.commands ≤ n → Counted ((q, a) ∷ []) f (record f { commands = n })
commands_counted q a f n h t c l is later = record { files = rises_none _ _ h; transport = rises_none _ _ t; commands = rises_once _ _ _ c is later; lookups = rises_none _ _ l }

-- one failure is counted once
pub lookups_counted : (q : Question) (a : Answer) (f : Faults) (n : ℕ) → failures Files q a ≡ 0 → failures Transport q a ≡ 0 → failures Commands q a ≡ 0 → failures LookUps q a ≡ 1 → n ≡ min (f.lookups + 1) full_count → f.lookups ≤ n → Counted ((q, a) ∷ []) f (record f { lookups = n })
lookups_counted q a f n h t c l is later = record { files = rises_none _ _ h; transport = rises_none _ _ t; commands = rises_none _ _ c; lookups = rises_once _ _ _ l is later }

-- writes leave the places in the lists
pub reached : (places : Places) (writes : List (List ℕ × List ℕ)) (channel : Channel) → place_at (place_of places []) channel ≡ place_at (place_of places writes) channel
reached places writes Clock = refl
reached places writes Jitter = refl
reached places writes CommandsChannel = refl
reached places writes LookUpsChannel = refl
reached places writes Http = refl
reached places writes ImdsToken = refl
reached places writes ImdsGet = refl
reached places writes AssumeRole = refl
reached places writes WebIdentity = refl
reached places writes RoleCredentials = refl
reached places writes CreateToken = refl
reached places writes SignIn = refl

-- without memory they stand where they stood
pub kept : (was old : Script) (place : Place) (q : Question) → was ≡ old → place ≡ was.place
    → Asked old.faults was.faults (Allows old) (Given was.lists start) (Stands old) (λ entries. Given was.lists start entries × (place_left was.lists start entries ≡ place)) q None
kept was old place q view_is same =
    subst (λ (p : Place). Asked old.faults was.faults (Allows old) (Given was.lists start) (Stands old) (λ entries. Given was.lists start entries × (place_left was.lists start entries ≡ p)) q None) (sym same)
    (subst (λ (s : Script). Asked s.faults was.faults (Allows s) (Given was.lists start) (Stands s) (λ entries. Given was.lists start entries × (place_left was.lists start entries ≡ was.place)) q None) view_is (unanswered was q))
