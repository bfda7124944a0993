-- The members so far are told.
use Rattle.std.proofs.Common.{◌≡◌, ◌++◌, take}
use Rattle.cfg_error_report.specs.CredentialsCauses.{members_lines}
use Rattle.cfg_error_report.specs.TokenCauses.{token_lines}
use Rattle.cfg_error_report.proofs.tokens.+tells_tokens.Given as goal

abbrev pub invariant-tell_token_members-loop-attempt : goal.invariant-tell_token_members-loop-attempt
invariant-tell_token_members-loop-attempt l = l.causes ≡ l.initial.causes ++ members_lines token_lines l.depth (take l.attempt-index l.attempts)
