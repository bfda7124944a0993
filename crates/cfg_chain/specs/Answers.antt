-- What holds of an answer, and what holds where memory ran out.
use Rattle.std.specs.Prelude.{◌≡◌, true, false}
use Rattle.cfg_types.specs.Classes.{is_memory}
use Rattle.cfg_providers.specs.CustomSources.{Answer}

-- This holds of the answer, unless it is that memory ran out.
abbrev pub Answered : Answer → (Answer → Type 0) → Type 0
Answered out holds = is_memory out ≡ false → holds out

-- This holds where the answer is that memory ran out.
abbrev pub RanOut : Answer → Type 0 → Type 0
RanOut out holds = is_memory out ≡ true → holds
