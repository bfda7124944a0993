-- Members, each in its place.
use Rattle.std.proofs.Common.{◌≡◌, Ok, sym, ap, ◌∙◌}
use Rattle.std.specs.Prelude.{Result}
use Rattle.cfg_base.specs.Gives.{◌>>=◌}
use Rattle.cfg_script.specs.declared.fault.Fault.{Fault}

-- what is said, and what it stands for
pub placed : {A B : Type 0} (g : A → B) (said : Result A Fault) (rows : A) (b : B) → said ≡ Ok rows → b ≡ g rows → (said >>= λ a. Ok (g a)) ≡ Ok b
placed {A} {B} g said rows b e f = ap (λ (r : Result A Fault). r >>= λ a. Ok (g a)) e ∙ ap (λ (b : B). Ok b) (sym f)
