-- No part of a call says by itself that memory ran out.
use Rattle.std.proofs.Common.{◌≡◌, ℕ, List, [], ◌∷◌, Bool, true, false, Option, Some, None, refl, sym, subst, ◌∙◌}
use Rattle.std.specs.Option.{option_or}
use Rattle.std.specs.Prelude.{IfSome, OnErr, Result, Ok, Err, option_map, if◌then◌else◌}
use Rattle.std.specs.Result.{result_err}
use Rattle.cfg_json.specs.Reading.{utf8_of}
use Rattle.cfg_types.specs.declared.errors.imds.FailedToLoadToken.{FailedToLoadToken}
use Rattle.cfg_types.specs.declared.errors.imds.ImdsError.{ImdsError}
use Rattle.cfg_types.specs.declared.errors.imds.ImdsError.TheVariants as imds
use Rattle.cfg_types.specs.declared.errors.imds.UnexpectedCause.{UnexpectedCause}
use Rattle.cfg_types.specs.declared.reply.FailKind.{FailKind}
use Rattle.cfg_types.specs.declared.reply.FailKind.TheVariants as fail
use Rattle.cfg_types.specs.declared.reply.http.HttpReply.{HttpReply}
use Rattle.cfg_world.specs.declared.ask.Question.{Question}
use Rattle.cfg_world.specs.declared.ask.Question.TheVariants as question
use Rattle.cfg_world.specs.declared.asking.Asking.{Ghosts}
use Rattle.cfg_world.specs.declared.asking.Stop.{Stop}
use Rattle.cfg_world.specs.Fits.{Pair}
use Rattle.cfg_world.specs.Follows.{Follows}
use Rattle.cfg_world.specs.Inquiry.{Reads}
use Rattle.cfg_world.specs.Leaves.{http_of}
use Rattle.cfg_exchange.specs.Readings.{is_success}
use Rattle.cfg_imds.specs.Calls.{is_memory_error, is_memory, or_memory}
use Rattle.cfg_imds.specs.Causes.{token_fault, by_question, fault_after, why_asked, why_no_text}
use Rattle.cfg_imds.specs.Clients.{ClientRules, why_unusable, usable_error, get}
use Rattle.cfg_imds.specs.Fetches.{send_error, text_fault, reply_fault, sent_fault, entry_fault}
use Rattle.cfg_imds.specs.Settles.{Given, Settled, with_kept}
use Rattle.cfg_imds.specs.Tokens.{Token, read_token}
use Rattle.cfg_imds.proofs.WhyNot.{get_fault}

-- an error, if any, that tells something else
abbrev Tells : Option ImdsError → Type 0
Tells told = IfSome told (λ e. is_memory_error e ≡ false)

first_tells : (a b : Option ImdsError) → Tells a → Tells b → Tells (option_or a b)
first_tells None b h g = g
first_tells (Some e) b h g = h

choice_tells : (b : Bool) (x y : Option ImdsError) → Tells x → Tells y → Tells (if b then x else y)
choice_tells true x y h g = h
choice_tells false x y h g = g

text_tells : (text : Option (List ℕ)) → Tells (text_fault text)
text_tells None = refl
text_tells (Some text) = tt

reply_tells : (reply : HttpReply) → Tells (reply_fault reply)
unfolding reply_fault
reply_tells reply = choice_tells (is_success reply.status) (text_fault (utf8_of reply.body)) (Some (imds.ErrorResponse (record { reply = reply }))) (text_tells (utf8_of reply.body)) refl

kind_tells : (kind : FailKind) → Tells (Some (send_error kind))
kind_tells fail.Dispatch = refl
kind_tells fail.Timeout = refl
kind_tells fail.Broken = refl
kind_tells fail.Io = refl

sent_tells : (sent : Result HttpReply FailKind) → Tells (sent_fault sent)
sent_tells (Ok reply) = reply_tells reply
sent_tells (Err kind) = kind_tells kind

entry_tells : (e : Pair) → Tells (entry_fault e)
unfolding entry_fault
entry_tells e = sent_tells (http_of e.1)

failed_tells : (failed : Option FailedToLoadToken) → Tells (option_map imds.FailedToLoadToken failed)
failed_tells None = tt
failed_tells (Some e) = refl

question_tells : (q : Question) (text token : Option ImdsError) → Tells text → Tells token → Tells (by_question q text token)
question_tells (question.Send request) text token h g = h
question_tells _ text token h g = g

after_tells : (a : Pair) (part : List Pair) → Tells (fault_after a part)
after_tells a [] = tt
after_tells a (b ∷ []) = question_tells b.0 (entry_fault b) (token_fault a b) (entry_tells b) (failed_tells (result_err (read_token a b)))
after_tells a (b ∷ c ∷ part) = after_tells b (c ∷ part)

asked_tells : (part : List Pair) → Tells (why_asked part)
asked_tells [] = tt
asked_tells (a ∷ part) = after_tells a part

unusable_tells : (cause : Option UnexpectedCause) → Tells (option_map imds.Unexpected cause)
unusable_tells None = tt
unusable_tells (Some cause) = refl

get_tells : (client : ClientRules) (path : List ℕ) (part : List Pair) → Tells (why_no_text client path part)
get_tells client path part = first_tells (usable_error client path) (why_asked part) (unusable_tells (why_unusable client.endpoint path)) (asked_tells part)

no_memory : (given : Given) → Tells (result_err given) → is_memory given ≡ false
no_memory (Ok text) h = refl
no_memory (Err e) h = h

clash : false ≡ true → ⊥
clash h = absurd cc

no_memory_got : (client : ClientRules) (kept : Option Token) (path : List ℕ) (part : List Pair) (out : Settled) → Reads (get client kept path) part out → is_memory (out.0) ≡ false
no_memory_got client kept path part out h =
    no_memory (out.0) (subst (λ told. Tells told) (sym (get_fault client kept path part out h)) (get_tells client path part))

-- what is said of a get that was stopped holds where memory ran out
pub get_left : {W : Type 0} (w : Ghosts W) (old new : W) (client : ClientRules) (kept left : Option Token) (path : List ℕ) (r : Result Given Stop) (P : Type 0) →
    Follows w (get client kept path) old new (with_kept left r) → OnErr r P → is_memory (or_memory r) ≡ true → P
get_left w old new client kept left path (Ok out) P h s m = absurd (clash (sym (no_memory_got client kept path h.part (out, left) h.reads) ∙ m))
get_left w old new client kept left path (Err stop) P h s m = s
