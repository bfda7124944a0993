-- The members so far are told.
use Rattle.std.proofs.Common.{◌≡◌, ◌++◌, take}
use Rattle.cfg_error_report.specs.CredentialsCauses.{error_lines, members_lines}
use Rattle.cfg_error_report.proofs.credentials.+tells.Given as goal

abbrev pub invariant-tell_members-loop-attempt : goal.invariant-tell_members-loop-attempt
invariant-tell_members-loop-attempt l = l.causes ≡ l.initial.causes ++ members_lines error_lines l.depth (take l.attempt-index l.attempts)
