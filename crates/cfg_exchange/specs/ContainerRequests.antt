-- Where a container's requests go.
use Rattle.std.specs.Prelude.{◌≡◌, ◌⊎◌, ℕ, List, [], ◌∷◌, Some, codes}
use Rattle.std.specs.Str.{encode_utf8_all}
use Rattle.cfg_types.specs.Environment.{Variables, readable}
use Rattle.cfg_types.specs.declared.request.Request.{Request}
use Rattle.cfg_types.specs.declared.request.Request.TheVariants as request
use Rattle.cfg_world.specs.declared.ask.Question.{Question}
use Rattle.cfg_world.specs.declared.ask.Question.TheVariants as question
use Rattle.cfg_world.specs.declared.ask.Answer.{Answer}
use Rattle.cfg_world.specs.Fits.{Pair}
use Rattle.cfg_exchange.specs.declared.target.Target.{Target}
use Rattle.cfg_exchange.specs.AllowedTargets.{IsAllowedTarget}

abbrev pub look_up_before : Question → Answer → List Pair → List Pair
look_up_before (question.LookUp host) given others = (question.LookUp host, given) ∷ others
look_up_before _ given others = others

-- the look-ups of a part
abbrev pub look_ups : List Pair → List Pair
look_ups [] = []
look_ups (e ∷ part) = look_up_before e.0 e.1 (look_ups part)

-- The agent of Amazon ECS; or the target of the full address that the variable holds, which is HTTPS,
-- or has an allowed address as its host, or a name that by these look-ups has allowed addresses alone.
abbrev pub IsSafeTarget : Variables → List Pair → Target → Type 0
IsSafeTarget env found target =
    (target.endpoint ≡ codes "http://169.254.170.2")
    ⊎ ((text : List ℕ) × (readable env (codes "AWS_CONTAINER_CREDENTIALS_FULL_URI") ≡ Some text) × IsAllowedTarget (encode_utf8_all text) found target)

-- a request of HTTP to such a target
abbrev pub IsSafeRequest : Variables → List Pair → Request → Type 0
IsSafeRequest env found (request.Http call) = IsSafeTarget env found (record { endpoint = call.endpoint; path = call.path })
IsSafeRequest env found _ = ⊥

-- a question that sends nothing, or such a request
abbrev pub IsSafeQuestion : Variables → List Pair → Question → Type 0
IsSafeQuestion env found (question.Send r) = IsSafeRequest env found r
IsSafeQuestion env found _ = Unit {0}
