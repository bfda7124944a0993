-- A call over a world that follows an inquiry provides what the inquiry reads.
use Rattle.std.proofs.Common.{◌≡◌, List, [], ◌++◌, Option, Result, sym, subst, append-nil}
use Rattle.std.specs.Result.{result_err}
use Rattle.cfg_types.specs.Keys.{Keys}
use Rattle.cfg_types.specs.declared.errors.CredentialsError.{CredentialsError}
use Rattle.cfg_world.specs.declared.devices.Devices.{Ghosts}
use Rattle.cfg_world.specs.Fits.{Pair, EachFits}
use Rattle.cfg_world.specs.Faults.{Counted}
use Rattle.cfg_world.specs.Asked.{Same, StandsOn}
use Rattle.cfg_world.specs.Held.{Held}
use Rattle.cfg_world.specs.Inquiry.{Inquiry, Reads, Begun}
use Rattle.cfg_world.proofs.Beginnings.{read_begins}
use Rattle.cfg_providers.specs.Provides.{Provides, Interrupted}

-- an inquiry that came to its end has begun
pub read_begun : {R : Type 0} (inquiry : Inquiry R) (journal : List Pair) (out : R) → Reads inquiry journal out → Begun inquiry journal
read_begun inquiry journal out h = read_begins inquiry journal [] out (subst (λ j. Reads inquiry j out) (sym (append-nil journal)) h)

module _ {D : Type 0} {d : Ghosts D} (inquiry : Inquiry (Result Keys CredentialsError)) (old new : Held D) (part : List Pair) (out : Result Keys CredentialsError)
    (grows : new.journal ≡ old.journal ++ part) (fits : EachFits part) (same : Same (d.allows old.devices) (d.allows new.devices))
    (counted : Counted part (d.faults old.devices) (d.faults new.devices)) (reads : Reads inquiry part out) where
  -- an answer, where its cause is known over each part
  pub provides_by : (why : List Pair → Option CredentialsError) → StandsOn (d.stands old.devices) (d.stands new.devices) part →
      ((journal : List Pair) (answer : Result Keys CredentialsError) → Reads inquiry journal answer → result_err answer ≡ why journal) → Provides d inquiry why old new out
  provides_by why stands cause = record {
    part = part;
    grows = record { journal = grows; fits = fits; same = same; counted = counted; stands = stands };
    reads = reads;
    cause = cause part out reads;
  }

  -- the end of a call that tells that memory ran out, though its inquiry came to an end
  pub interrupted_by : Interrupted d inquiry old new
  interrupted_by = record {
    part = part;
    stays = record { journal = grows; fits = fits; same = same; counted = counted };
    begun = read_begun inquiry part out reads;
  }
