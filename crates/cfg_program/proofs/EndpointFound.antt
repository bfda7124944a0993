-- An object of which an endpoint is made, or of which none is.
use Rattle.std.proofs.Common.{◌≡◌, Bool, true, false, Some, None, refl, ap, ◌∙◌, subst}
use Rattle.std.specs.Prelude.{Ok, Err, is_some, ◌&&◌, if◌then◌else◌}
use Rattle.cfg_token.specs.DateTexts.{date_of}
use Rattle.cfg_token.proofs.DateTexts.{date_is, no_date}
use Rattle.cfg_endpoint.specs.declared.fault.EndpointFault.{EndpointFault}
use Rattle.cfg_endpoint.specs.declared.fault.EndpointFault.TheVariants.{BadRole, BadExpiry, OutOfMemory}
use Rattle.cfg_endpoint.specs.Endpoints.{EndpointState}
use Rattle.cfg_endpoint.specs.Made.{IsMade, Makes, is_asked_for}
use Rattle.cfg_script.specs.declared.endpoint.EndpointScript.{EndpointScript}
use Rattle.cfg_program.specs.Endpoints.{role_of, served_of, endpoint_at_first, is_made, if_made, end_of}
use Rattle.cfg_program.specs.Run.{EndsOver}

-- whether it is made
by_test : (s : EndpointScript) (b : Bool) → is_made s ≡ b → if_made (Some s) ≡ (if b then Some s else None)
by_test s b e = ap (λ t. if t then Some s else None) e

pub was_made : (s : EndpointScript) (e : EndpointState) → Makes (role_of s.mode) (served_of s) (Ok e) → if_made (Some s) ≡ Some s
was_made s e h =
    let made : IsMade (endpoint_at_first s) = subst IsMade h.0 h.1 in
    let dated : date_of s.expires ≡ Some made.served.dated.0 = date_is made.served.dated.0 s.expires made.served.dated.1 in
    by_test s true (ap (λ t. t && is_some (date_of s.expires)) made.role ∙ ap is_some dated)

unasked : (a b : Bool) → a ≡ false → (a && b) ≡ false
unasked true b h = absurd cc
unasked false b h = refl

pub was_not_made : (s : EndpointScript) (fault : EndpointFault) → Makes (role_of s.mode) (served_of s) (Err fault) → EndsOver (if_made (Some s)) (end_of fault)
was_not_made s (BadRole role) h = by_test s false (unasked (is_asked_for (role_of s.mode)) (is_some (date_of s.expires)) h.0)
was_not_made s (BadExpiry moment) h = by_test s false (ap (λ t. t && is_some (date_of s.expires)) h.0 ∙ ap is_some (no_date s.expires h.1))
was_not_made s OutOfMemory h = tt
