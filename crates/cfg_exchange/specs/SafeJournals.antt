-- Where the `Http` requests in a journal go.
use Rattle.std.specs.Prelude.{◌≡◌, ◌⊎◌, List, ◌++◌, Bool, true, false}
use Rattle.std.specs.List.{AllByRecursion}
use Rattle.cfg_types.specs.Environment.{Variables}
use Rattle.cfg_types.specs.declared.request.Request.TheVariants as request
use Rattle.cfg_world.specs.declared.ask.Question.{Question}
use Rattle.cfg_world.specs.declared.ask.Question.TheVariants as question
use Rattle.cfg_world.specs.Fits.{Pair}
use Rattle.cfg_world.specs.Inquiry.{Begun}
use Rattle.cfg_exchange.specs.declared.container.ContainerSettings.{ContainerSettings}
use Rattle.cfg_exchange.specs.declared.container.ContainerUri.{ContainerUri}
use Rattle.cfg_exchange.specs.Containers.{IsContainerUri, container}
use Rattle.cfg_exchange.specs.ContainerRequests.{look_ups, IsSafeRequest}

-- An `Http` request goes to a safe target. Any other question is free.
abbrev pub IsSafeHttp : Variables → List Pair → Question → Type 0
IsSafeHttp env found (question.Send (request.Http call)) = IsSafeRequest env found (request.Http call)
IsSafeHttp env found _ = Unit {0}

-- an `Http` request, or a look-up of a host
abbrev pub is_http_or_look_up : Question → Bool
is_http_or_look_up (question.Send (request.Http call)) = true
is_http_or_look_up (question.LookUp host) = true
is_http_or_look_up _ = false

-- No entry is an `Http` request or a look-up.
abbrev pub AsksNoHttp : List Pair → Type 0
AsksNoHttp part = AllByRecursion (λ e. is_http_or_look_up e.0 ≡ false) part

-- One piece of the stretch is a container's part, whole or begun, at what the variables name. All `Http`
-- requests and all look-ups stand in this piece. Each request goes to a target that is safe over its look-ups.
pub record AsksContainer (env : Variables) (settings : ContainerSettings) (journal : List Pair) : Type 0 where
  pub before : List Pair
  pub own : List Pair
  pub behind : List Pair
  pub parts : journal ≡ before ++ (own ++ behind)
  pub named : ContainerUri
  pub names : IsContainerUri env named
  pub begun : Begun (container env settings named) own
  pub safe : AllByRecursion (λ e. IsSafeHttp env (look_ups own) e.0) journal
  pub alone_before : AsksNoHttp before
  pub alone_behind : AsksNoHttp behind

-- The stretch has `Http` requests of one container, which go to safe targets, or none.
abbrev pub AsksSafely : Variables → ContainerSettings → List Pair → Type 0
AsksSafely env settings journal = AsksContainer env settings journal ⊎ AsksNoHttp journal
