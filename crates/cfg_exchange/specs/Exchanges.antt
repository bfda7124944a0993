-- One request in attempts: as a tree, and as what a call over a world leaves of its journal.
use Rattle.std.specs.Prelude.{ℕ, ◌+◌, ◌-◌, List}
use Rattle.cfg_types.specs.declared.request.Request.{Request}
use Rattle.cfg_world.specs.declared.ask.Question.TheVariants.{Send}
use Rattle.cfg_world.specs.declared.devices.Devices.{Ghosts}
use Rattle.cfg_world.specs.Fits.{Pair}
use Rattle.cfg_world.specs.Grows.{Grows, Stays}
use Rattle.cfg_world.specs.Held.{Held}
use Rattle.cfg_world.specs.Inquiry.{Inquiry, Begun}
use Rattle.cfg_exchange.specs.declared.reading.ReplyKind.{ReplyKind}
use Rattle.cfg_exchange.specs.Attempts.{attempts, Attempts}
use Rattle.cfg_exchange.specs.Classifiers.{Repeats, is_repeated}

-- the attempts of a request: a limit of 0 is taken as 1
abbrev pub exchange : ℕ → Request → ReplyKind → Repeats → Inquiry Pair
exchange limit request kind repeats = attempts (limit - 1) (Send request) (is_repeated kind repeats)

-- The journal grew by exactly the attempts of the request, of which this is the last: one to limit, or
-- one where the limit is 0.
pub record Exchanged {D : Type 0} (d : Ghosts D) (limit : ℕ) (request : Request) (kind : ReplyKind) (repeats : Repeats) (old new : Held D) (last : Pair) : Type 0 where
  pub part : List Pair
  pub grows : Grows d part old new
  pub attempts : Attempts (Send request) (limit - 1 + 1) (is_repeated kind repeats) part last

-- Memory ran out: it grew by the beginning of such attempts.
pub record Unexchanged {D : Type 0} (d : Ghosts D) (limit : ℕ) (request : Request) (kind : ReplyKind) (repeats : Repeats) (old new : Held D) : Type 0 where
  pub part : List Pair
  pub stays : Stays d part old new
  pub begun : Begun (exchange limit request kind repeats) part
