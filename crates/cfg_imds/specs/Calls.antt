-- What a client's call over a world leaves of its journal.
use Rattle.std.specs.Prelude.{◌≡◌, List, Bool, true, false, Option, Result, Ok, Err}
use Rattle.cfg_types.specs.declared.errors.imds.ImdsError.{ImdsError}
use Rattle.cfg_types.specs.declared.errors.imds.ImdsError.TheVariants.{OutOfMemory}
use Rattle.cfg_world.specs.declared.devices.Devices.{Ghosts}
use Rattle.cfg_world.specs.declared.asking.Stop.{Stop}
use Rattle.cfg_world.specs.Fits.{Pair}
use Rattle.cfg_world.specs.Grows.{Grows, Stays}
use Rattle.cfg_world.specs.Held.{Held}
use Rattle.cfg_world.specs.Inquiry.{Inquiry, Reads, Begun}

abbrev pub is_memory_error : ImdsError → Bool
is_memory_error OutOfMemory = true
is_memory_error _ = false

-- whether memory ran out
abbrev pub is_memory : {T : Type 0} → Result T ImdsError → Bool
is_memory (Ok x) = false
is_memory (Err e) = is_memory_error e

-- the outcome of a call, or that memory ran out
abbrev pub or_memory : {T : Type 0} → Result (Result T ImdsError) Stop → Result T ImdsError
or_memory (Ok answer) = answer
or_memory (Err stop) = Err OutOfMemory

-- It grew by exactly a part over which the inquiry comes to this outcome, whose error is the one that
-- the part shows.
pub record CallEnds {D R : Type 0} (d : Ghosts D) (inquiry : Inquiry R) (error : R → Option ImdsError) (why : List Pair → Option ImdsError) (old new : Held D) (out : R) : Type 0 where
  pub part : List Pair
  pub grows : Grows d part old new
  pub reads : Reads inquiry part out
  pub cause : error out ≡ why part

-- Memory ran out: it grew by the beginning of such a part.
pub record CallBreaks {D R : Type 0} (d : Ghosts D) (inquiry : Inquiry R) (old new : Held D) : Type 0 where
  pub part : List Pair
  pub stays : Stays d part old new
  pub begun : Begun inquiry part
