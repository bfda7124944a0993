-- What a reader of the code answers, by what reading a list gives.
use Rattle.std.specs.Prelude.{Option, Some, None, Result}
use Rattle.cfg_base.specs.Gives.{Gives, IsRead}
use Rattle.cfg_types.specs.declared.document.JsonError.{JsonError}
use Rattle.cfg_types.specs.declared.document.JsonError.TheVariants as json

-- the next step over the value of the first, where there is one
infixl 10 ◌>>=◌
abbrev pub ◌>>=◌ : {A B : Type 0} → Option A → (A → Option B) → Option B
(Some x) >>= f = f x
None >>= f = None

-- the answer, its value seen by view, is what reading gives, and `Syntax` where reading gives nothing; or memory ran out
abbrev pub Reads : {X Y : Type 0} → (X → Y) → Result X JsonError → Option Y → Type 0
Reads view result read = Gives json.OutOfMemory result (IsRead json.Syntax view read)
