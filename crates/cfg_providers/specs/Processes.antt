-- Credentials that a process prints.
use Rattle.std.specs.Prelude.{ℕ, List, [], ◌∷◌, ◌++◌, pos, Option, Some, None, option_map, option_and_then, Result, Ok, Err, if◌then◌else◌}
use Rattle.std.specs.Ordering.{int_eq}
use Rattle.cfg_types.specs.Keys.{Keys}
use Rattle.cfg_types.specs.declared.credentials.AwsCredentialFeature.TheVariants.{CredentialsProcess}
use Rattle.cfg_types.specs.declared.command.Finished.{Finished}
use Rattle.cfg_types.specs.declared.reply.FailKind.{FailKind}
use Rattle.cfg_types.specs.declared.errors.process.ProcessCause.{ProcessCause}
use Rattle.cfg_types.specs.declared.errors.process.ProcessCause.TheVariants as cause
use Rattle.cfg_types.specs.declared.errors.ProviderCause.TheVariants.{Process}
use Rattle.cfg_types.specs.declared.errors.CredentialsError.{CredentialsError}
use Rattle.cfg_types.specs.declared.errors.CredentialsError.TheVariants.{ProviderError}
use Rattle.cfg_json.specs.Documents.{Read}
use Rattle.cfg_world.specs.declared.ask.Answer.{Answer}
use Rattle.cfg_world.specs.declared.ask.Answer.TheVariants as answer
use Rattle.cfg_world.specs.Fits.{Pair}
use Rattle.cfg_world.specs.Inquiry.{Inquiry, Done, after}
use Rattle.cfg_world.specs.Leaves.{running}
use Rattle.std.specs.List.{last_or}
use Rattle.cfg_providers.specs.ProcessDocuments.{process_document}
use Rattle.cfg_json.specs.Reading.{utf8_of}
use Rattle.cfg_providers.specs.Utf8.{text_in}

-- credentials that a process printed, marked as such
abbrev pub by_process : Keys → Keys
by_process keys = record keys { features = keys.features ++ CredentialsProcess ∷ [] }

abbrev pub or_no_document : Read Keys → Result Keys ProcessCause
or_no_document (Ok keys) = Ok (by_process keys)
or_no_document (Err e) = Err (cause.Document e)

-- the credentials in an output, for this account: none where it is no text
abbrev pub output_credentials : Option (List ℕ) → Option (List ℕ) → Result Keys ProcessCause
output_credentials account (Some text) = or_no_document (process_document text account)
output_credentials account None = Err cause.NotUtf8

-- The credentials of a run, for this account. The output counts only where the status is 0.
abbrev pub run_credentials : Option (List ℕ) → Result Finished FailKind → Result Keys ProcessCause
run_credentials account (Err kind) = Err cause.NotRun
run_credentials account (Ok finished) =
    if int_eq finished.status (pos 0) then output_credentials account (utf8_of finished.output) else Err (cause.Status finished.status (text_in finished.errors))

abbrev pub process_error : ProcessCause → CredentialsError
process_error reason = ProviderError (Process reason)

abbrev pub or_process_error : Result Keys ProcessCause → Result Keys CredentialsError
or_process_error (Ok keys) = Ok keys
or_process_error (Err reason) = Err (process_error reason)

unfoldable pub process_answer : Option (List ℕ) → Result Finished FailKind → Result Keys CredentialsError
process_answer account finished = or_process_error (run_credentials account finished)

-- One run of a command, and what it gives. The account is the document's, or else this one.
unfoldable pub credential_process : List ℕ → Option (List ℕ) → Inquiry (Result Keys CredentialsError)
credential_process command account = after (running command) (λ finished. Done (process_answer account finished))

-- Why a document that was printed gives no credentials.
abbrev pub why_document : Read Keys → Option ProcessCause
why_document (Ok keys) = None
why_document (Err e) = Some (cause.Document e)

abbrev pub why_text : Option (List ℕ) → Option (List ℕ) → Option ProcessCause
why_text account None = Some cause.NotUtf8
why_text account (Some text) = why_document (process_document text account)

-- Why the answer of a command gives no credentials: it did not run, it ended with a status other than
-- 0, or its output is not UTF-8 or no document.
abbrev pub why_run : Option (List ℕ) → Answer → Option ProcessCause
why_run account (answer.Finished finished) = if int_eq finished.status (pos 0) then why_text account (utf8_of finished.output) else Some (cause.Status finished.status (text_in finished.errors))
why_run account _ = Some cause.NotRun

abbrev pub why_entry : Option (List ℕ) → Pair → Option CredentialsError
why_entry account entry = option_map process_error (why_run account entry.1)

-- The error of a process, by the last entry of its part.
abbrev pub why_process : Option (List ℕ) → List Pair → Option CredentialsError
why_process account part = option_and_then (why_entry account) (last_or None part)
