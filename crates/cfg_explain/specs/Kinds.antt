-- The kinds of questions.
use Rattle.std.specs.Prelude.{ℕ, List, codes}
use Rattle.cfg_types.specs.declared.request.Request.{Request}
use Rattle.cfg_types.specs.declared.request.Request.TheVariants as request
use Rattle.cfg_world.specs.declared.ask.Question.{Question}
use Rattle.cfg_world.specs.declared.ask.Question.TheVariants as question

-- the kind of a request, under which a script has its replies
abbrev pub kind_of_request : Request → List ℕ
kind_of_request (request.Http call) = codes "http"
kind_of_request (request.MetadataToken call) = codes "imds-token"
kind_of_request (request.MetadataGet call) = codes "imds-get"
kind_of_request (request.AssumeRole call) = codes "assume-role"
kind_of_request (request.AssumeRoleWithWebIdentity call) = codes "web-identity"
kind_of_request (request.GetRoleCredentials call) = codes "role-credentials"
kind_of_request (request.CreateToken call) = codes "create-token"
kind_of_request (request.CreateOAuth2Token call) = codes "sign-in"

-- the kind of a question
abbrev pub kind_of : Question → List ℕ
kind_of question.Now = codes "now"
kind_of question.Jitter = codes "jitter"
kind_of (question.Read path) = codes "read"
kind_of (question.Write path bytes) = codes "write"
kind_of (question.Run command) = codes "run"
kind_of (question.LookUp host) = codes "lookup"
kind_of (question.Send request) = kind_of_request request
