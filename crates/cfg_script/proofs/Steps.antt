-- A step over a value that is there.
use Rattle.std.proofs.Common.{◌≡◌, Option, Some, None, refl}
use Rattle.cfg_script.specs.Json.{◌>>=◌}

pub record Went {A B : Type 0} (o : Option A) (f : A → Option B) (y : B) : Type 0 where
  pub value : A
  pub is : o ≡ Some value
  pub next : f value ≡ Some y

pub went_some : {A B : Type 0} (o : Option A) (f : A → Option B) (y : B) → (o >>= f) ≡ Some y → Went o f y
went_some (Some x) f y e = record { value = x; is = refl; next = e }
went_some None f y e = cc
