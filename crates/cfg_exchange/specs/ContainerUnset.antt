-- When a container is passed over: where nothing says where its credentials are.
use Rattle.std.specs.Prelude.{◌≡◌, ℕ, List, [], ◌∷◌, Option, Some, None, codes}
use Rattle.cfg_types.specs.Environment.{Variables, readable}
use Rattle.cfg_world.specs.declared.ask.Question.TheVariants as question
use Rattle.cfg_world.specs.declared.ask.Answer.{Answer}
use Rattle.cfg_world.specs.Fits.{Pair}
use Rattle.cfg_exchange.specs.Containers.{token_file}
use Rattle.cfg_exchange.specs.ContainerCauses.{token_fault}

-- the token's file is read, where a variable names one, and nothing else is asked
abbrev pub IsTokenPart : Option (List ℕ) → List Pair → Type 0
IsTokenPart (Some path) part = (given : Answer) × (part ≡ (question.Read path, given) ∷ [])
IsTokenPart None part = part ≡ []

-- nothing is wrong with the token, neither address can be read, and the token's file at most was read
pub record IsUnset (env : Variables) (part : List Pair) : Type 0 where
  pub token : token_fault env part ≡ None
  pub relative : readable env (codes "AWS_CONTAINER_CREDENTIALS_RELATIVE_URI") ≡ None
  pub full : readable env (codes "AWS_CONTAINER_CREDENTIALS_FULL_URI") ≡ None
  pub asks : IsTokenPart (token_file env) part
