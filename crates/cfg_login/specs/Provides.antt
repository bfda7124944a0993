-- What a provider's call leaves of a journal and of what is kept.
use Rattle.std.specs.Prelude.{ℕ, List}
use Rattle.cfg_world.specs.declared.asking.Asking.{Ghosts}
use Rattle.cfg_profile.specs.Configuration.{Configuration}
use Rattle.cfg_kept.specs.Holds.{Holdings, HoldsEnds}
use Rattle.cfg_login.specs.declared.asked_by.AskedBy.{AskedBy}
use Rattle.cfg_login.specs.SignIns.{Answer, sign_in_credentials}
use Rattle.cfg_login.specs.SignInCauses.{SignInCause}

-- The journal and the found values grew by a part over which the provider's tree came to this answer.
-- The answer has its cause.
pub record ProvidesSignIn {A : Type 0} (a : Ghosts A) (conf : Configuration) (session : List ℕ) (by : AskedBy) (old : A) (before : Holdings) (new : A) (later : Holdings) (out : Answer) : Type 0 where
  pub ends : HoldsEnds a (sign_in_credentials conf session by) old before new later out
  pub cause : SignInCause conf session by ends.found ends.part out
