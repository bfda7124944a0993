-- What a provider's call over a world leaves of its journal.
use Rattle.std.specs.Prelude.{◌≡◌, List, Option, Result}
use Rattle.std.specs.Result.{result_err}
use Rattle.cfg_types.specs.Keys.{Keys}
use Rattle.cfg_types.specs.declared.errors.CredentialsError.{CredentialsError}
use Rattle.cfg_world.specs.declared.devices.Devices.{Ghosts}
use Rattle.cfg_world.specs.Fits.{Pair}
use Rattle.cfg_world.specs.Held.{Held}
use Rattle.cfg_world.specs.Grows.{Grows, Stays}
use Rattle.cfg_world.specs.Inquiry.{Inquiry, Reads, Begun}

-- It grew by exactly a part over which the inquiry comes to this answer, and the answer is an error
-- exactly where, and of the cause that, the part shows.
pub record Provides {D : Type 0} (d : Ghosts D) (inquiry : Inquiry (Result Keys CredentialsError)) (why : List Pair → Option CredentialsError) (old new : Held D) (out : Result Keys CredentialsError) : Type 0 where
  pub part : List Pair
  pub grows : Grows d part old new
  pub reads : Reads inquiry part out
  pub cause : result_err out ≡ why part

-- Memory ran out: it grew by the beginning of such a part.
pub record Interrupted {D : Type 0} (d : Ghosts D) (inquiry : Inquiry (Result Keys CredentialsError)) (old new : Held D) : Type 0 where
  pub part : List Pair
  pub stays : Stays d part old new
  pub begun : Begun inquiry part
