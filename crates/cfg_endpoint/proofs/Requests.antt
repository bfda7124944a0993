-- An endpoint gives at most one token for each request.
use Rattle.std.proofs.Common.{◌≡◌, ◌≤◌, ◌+◌, List, [], ◌∷◌, ◌++◌, Bool, true, false, refl, ap, ◌∙◌, arith}
use Rattle.std.specs.Prelude.{length, drop, if◌then◌else◌}
use Rattle.cfg_types.specs.declared.request.Request.TheVariants as request
use Rattle.cfg_world.specs.declared.ask.Question.{Question}
use Rattle.cfg_world.specs.declared.ask.Question.TheVariants as question
use Rattle.cfg_world.specs.Fits.{Pair}
use Rattle.cfg_endpoint.specs.Endpoints.{EndpointState, gives_token, with_token}
use Rattle.cfg_endpoint.specs.Serves.{after_question, after_questions, requests_by, requests_in}

one_token : (e : EndpointState) (b : Bool) → (if b then with_token e else e).given ≤ e.given + 1
one_token e true = omega arith
one_token e false = omega arith

by_one : (e : EndpointState) (q : Question) → (after_question e q).given ≤ e.given + requests_by q
by_one e (question.Send (request.Http call)) = omega arith
by_one e (question.Send (request.MetadataToken call)) = one_token e (gives_token e call.ttl_seconds)
by_one e (question.Send (request.MetadataGet call)) = omega arith
by_one e (question.Send (request.AssumeRole call)) = omega arith
by_one e (question.Send (request.AssumeRoleWithWebIdentity call)) = omega arith
by_one e (question.Send (request.GetRoleCredentials call)) = omega arith
by_one e (question.Send (request.CreateToken call)) = omega arith
by_one e (question.Send (request.CreateOAuth2Token call)) = omega arith
by_one e question.Now = omega arith
by_one e question.Jitter = omega arith
by_one e (question.Read path) = omega arith
by_one e (question.Write path bytes) = omega arith
by_one e (question.Run command) = omega arith
by_one e (question.LookUp host) = omega arith

pub given_by_requests : (e : EndpointState) (part : List Pair) → (after_questions e part).given ≤ e.given + requests_in part
given_by_requests e [] = omega arith
given_by_requests e (x ∷ part) =
    let first = by_one e x.0 in
    let rest = given_by_requests (after_question e x.0) part in
    omega (arith, first, rest)

-- what stands behind a list
dropped : (xs part : List Pair) → drop (length xs) (xs ++ part) ≡ part
dropped [] part = refl
dropped (x ∷ xs) part = dropped xs part

pub behind_is : (xs part whole : List Pair) → whole ≡ xs ++ part → drop (length xs) whole ≡ part
behind_is xs part whole is = ap (drop (length xs)) is ∙ dropped xs part
