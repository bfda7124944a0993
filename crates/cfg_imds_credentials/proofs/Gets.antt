-- A get reads as that of a client, on the session token that was found.
use Rattle.std.proofs.Common.{◌≡◌, ℕ, List, [], ◌∷◌, Option, Some, None, refl, sym, ◌∙◌, subst, append-nil}
use Rattle.std.specs.Prelude.{Result, Ok, Err, option_map}
use Rattle.std.specs.Result.{result_err}
use Rattle.cfg_types.specs.declared.errors.imds.ImdsError.{ImdsError}
use Rattle.cfg_types.specs.declared.errors.imds.ImdsError.TheVariants as imds
use Rattle.cfg_types.specs.declared.errors.imds.UnexpectedCause.{UnexpectedCause}
use Rattle.cfg_world.specs.Fits.{Pair}
use Rattle.cfg_world.specs.Inquiry as low
use Rattle.cfg_world.specs.Inquiry.{Done, after}
use Rattle.cfg_world.proofs.Inquiries.{reads_after}
use Rattle.cfg_imds.specs.Causes.{why_no_text}
use Rattle.cfg_imds.specs.Clients.{ClientRules, why_unusable, settle, fetch, fetched_text, fetch_text, with_token, unless_unusable, get}
use Rattle.cfg_imds.specs.Settles.{Given, Settled}
use Rattle.cfg_imds.specs.Tokens.{Token}
use Rattle.cfg_imds.proofs.WhyNot.{get_fault}
use Rattle.cfg_kept.specs.declared.place.Place.{Place}
use Rattle.cfg_kept.specs.Holds.{holding, left_by}
use Rattle.cfg_kept.specs.Kinds.{Value, MetadataTokenAt, token_in}
use Rattle.cfg_kept.specs.KeptInquiry.{Reads, lift, onwards_if_ok}
use Rattle.cfg_kept.specs.MetadataHoldings.{token_holding}
use Rattle.cfg_kept.proofs.Splits.{split_onwards, lowered}
use Rattle.cfg_imds_credentials.specs.Metadata.{unless_fault, token_and_text, metadata_get}
use Rattle.cfg_imds_credentials.proofs.Given.{given_is, whole_part}

-- what a settle gives, and the token that it leaves
abbrev pub settled_on : Given → Option Token → Settled
settled_on out left = (out, left)

-- It reads as this settle, on some token that is kept.
pub record SettlesToken (client : ClientRules) (part : List Pair) (out : Given) : Type 0 where
  pub kept : Option Token
  pub left : Option Token
  pub reads : low.Reads (settle client kept) part (settled_on out left)

pub token_settles : (client : ClientRules) (place : Place) (found : List Value) (part : List Pair) (out : Given) → Reads (token_holding client place) found part out → SettlesToken client part out
unfolding token_holding holding
token_settles client place [] part out h = absurd h
token_settles client place (f ∷ found) part out h =
    let s = split_onwards (lift (settle client (token_in f))) (left_by (MetadataTokenAt place)) found part out h.2 in
    let g = given_is s.middle.0 out s.found_then s.rest s.then in
    record {
      kept = token_in f;
      left = s.middle.1;
      reads =
          subst (λ o. low.Reads (settle client (token_in f)) part (settled_on o s.middle.1)) g.2
          (subst (λ j. low.Reads (settle client (token_in f)) j s.middle) (sym (whole_part part s.part s.rest s.parts g.1)) (lowered (settle client (token_in f)) s.found_first s.part s.middle s.first).1);
    }

-- It reads as this get, on some token that is kept.
pub record GetsText (client : ClientRules) (path : List ℕ) (part : List Pair) (out : Result Pair ImdsError) : Type 0 where
  pub kept : Option Token
  pub left : Option Token
  pub reads : low.Reads (get client kept path) part (settled_on (fetched_text out) left)

text_reads : (client : ClientRules) (path token : List ℕ) (part : List Pair) (out : Result Pair ImdsError) → low.Reads (fetch client path token) part out → low.Reads (fetch_text client path token) part (fetched_text out)
unfolding fetch_text
text_reads client path token part out h =
    subst (λ j. low.Reads (after (fetch client path token) (λ r. Done (fetched_text r))) j (fetched_text out)) (append-nil part)
    (reads_after (fetch client path token) (λ r. Done (fetched_text r)) part [] out (fetched_text out) h refl)

with_token_reads : (client : ClientRules) (path : List ℕ) (token : Given) (left : Option Token) (found : List Value) (part : List Pair) (out : Result Pair ImdsError) →
    Reads (onwards_if_ok (λ token. lift (fetch client path token)) token) found part out → low.Reads (with_token client path (settled_on token left)) part (settled_on (fetched_text out) left)
with_token_reads client path (Ok token) left found part out h =
    let l = lowered (fetch client path token) found part out h in
    subst (λ j. low.Reads (after (fetch_text client path token) (λ text. Done (settled_on text left))) j (settled_on (fetched_text out) left)) (append-nil part)
    (reads_after (fetch_text client path token) (λ text. Done (settled_on text left)) part [] (fetched_text out) (settled_on (fetched_text out) left) (text_reads client path token part out l.1) refl)
with_token_reads client path (Err error) left found part out h =
    let g = given_is {R = Result Pair ImdsError} (Err error) out found part h in
    subst (λ o. low.Reads (Done (settled_on (Err error) left)) part (settled_on (fetched_text o) left)) g.2
    (subst (λ j. low.Reads (Done (settled_on (Err error) left)) j (settled_on (Err error) left)) (sym g.1) refl)

-- It reads as what follows a usable path, on some token that is kept.
record AsksText (client : ClientRules) (path : List ℕ) (part : List Pair) (out : Result Pair ImdsError) : Type 0 where
  pub kept : Option Token
  pub left : Option Token
  pub reads : low.Reads (after (settle client kept) (with_token client path)) part (settled_on (fetched_text out) left)

asks_text : (client : ClientRules) (place : Place) (path : List ℕ) (found : List Value) (part : List Pair) (out : Result Pair ImdsError) → Reads (token_and_text client place path) found part out → AsksText client path part out
unfolding token_and_text
asks_text client place path found part out h =
    let s = split_onwards (token_holding client place) (onwards_if_ok (λ token. lift (fetch client path token))) found part out h in
    let t = token_settles client place s.found_first s.part s.middle s.first in
    record {
      kept = t.kept;
      left = t.left;
      reads =
          subst (λ j. low.Reads (after (settle client t.kept) (with_token client path)) j (settled_on (fetched_text out) t.left)) (sym s.parts)
          (reads_after (settle client t.kept) (with_token client path) s.part s.rest (settled_on s.middle t.left) (settled_on (fetched_text out) t.left) t.reads
          (with_token_reads client path s.middle t.left s.found_then s.rest out s.then));
    }

-- by whether the path may be asked for
record GetsBy (client : ClientRules) (path : List ℕ) (fault : Option UnexpectedCause) (part : List Pair) (out : Result Pair ImdsError) : Type 0 where
  pub kept : Option Token
  pub left : Option Token
  pub reads : low.Reads (unless_unusable fault (after (settle client kept) (with_token client path)) kept) part (settled_on (fetched_text out) left)

gets_by : (client : ClientRules) (place : Place) (path : List ℕ) (fault : Option UnexpectedCause) (found : List Value) (part : List Pair) (out : Result Pair ImdsError) →
    Reads (unless_fault (option_map imds.Unexpected fault) (token_and_text client place path)) found part out → GetsBy client path fault part out
gets_by client place path (Some reason) found part out h =
    let g = given_is {R = Result Pair ImdsError} (Err (imds.Unexpected reason)) out found part h in
    record {
      kept = None;
      left = None;
      reads =
          subst (λ o. low.Reads (Done (settled_on (Err (imds.Unexpected reason)) None)) part (settled_on (fetched_text o) None)) g.2
          (subst (λ j. low.Reads (Done (settled_on (Err (imds.Unexpected reason)) None)) j (settled_on (Err (imds.Unexpected reason)) None)) (sym g.1) refl);
    }
gets_by client place path None found part out h = let a = asks_text client place path found part out h in record { kept = a.kept; left = a.left; reads = a.reads }

pub gets_text : (client : ClientRules) (place : Place) (path : List ℕ) (found : List Value) (part : List Pair) (out : Result Pair ImdsError) → Reads (metadata_get client place path) found part out → GetsText client path part out
unfolding metadata_get get
gets_text client place path found part out h = let g = gets_by client place path (why_unusable client.endpoint path) found part out h in record { kept = g.kept; left = g.left; reads = g.reads }

text_error : (r : Result Pair ImdsError) → result_err (fetched_text r) ≡ result_err r
text_error (Ok e) = refl
text_error (Err error) = refl

-- its error is the one that the part shows
pub get_cause : (client : ClientRules) (place : Place) (path : List ℕ) (found : List Value) (part : List Pair) (out : Result Pair ImdsError) → Reads (metadata_get client place path) found part out →
    result_err out ≡ why_no_text client path part
get_cause client place path found part out h =
    let g = gets_text client place path found part out h in
    sym (text_error out) ∙ get_fault client g.kept path part (settled_on (fetched_text out) g.left) g.reads
