-- The error of a process, by the last entry of its part.
use Rattle.std.proofs.Common.{◌≡◌, ℕ, List, [], ◌∷◌, Bool, true, false, Option, Some, None, option_map, Result, Ok, Err, refl, sym, ap, ◌∙◌}
use Rattle.std.specs.Prelude.{pos, if◌then◌else◌}
use Rattle.std.specs.Ordering.{int_eq}
use Rattle.std.specs.Result.{result_err}
use Rattle.cfg_types.specs.Keys.{Keys}
use Rattle.cfg_types.specs.declared.command.Finished.{Finished}
use Rattle.cfg_types.specs.declared.errors.process.ProcessCause.TheVariants as cause
use Rattle.cfg_types.specs.declared.errors.CredentialsError.{CredentialsError}
use Rattle.cfg_json.specs.Documents.{Read}
use Rattle.cfg_world.specs.declared.ask.Answer.{Answer}
use Rattle.cfg_world.specs.declared.ask.Answer.TheVariants as answer
use Rattle.cfg_world.specs.Fits.{Pair}
use Rattle.cfg_world.specs.Inquiry.{Reads}
use Rattle.cfg_world.specs.Leaves.{running, finished_of}
use Rattle.cfg_providers.specs.ProcessDocuments.{process_document}
use Rattle.cfg_json.specs.Reading.{utf8_of}
use Rattle.cfg_providers.specs.Utf8.{text_in}
use Rattle.cfg_providers.specs.Processes.{or_no_document, output_credentials, run_credentials, process_error, or_process_error, process_answer, credential_process, why_document, why_text, why_run, why_process}

document_cause : (r : Read Keys) → result_err (or_process_error (or_no_document r)) ≡ option_map process_error (why_document r)
document_cause (Ok keys) = refl
document_cause (Err e) = refl

text_cause : (account text : Option (List ℕ)) → result_err (or_process_error (output_credentials account text)) ≡ option_map process_error (why_text account text)
text_cause account None = refl
text_cause account (Some text) = document_cause (process_document text account)

ended_cause : (account : Option (List ℕ)) (f : Finished) (b : Bool) →
    result_err (or_process_error (if b then output_credentials account (utf8_of f.output) else Err (cause.Status f.status (text_in f.errors))))
    ≡ option_map process_error (if b then why_text account (utf8_of f.output) else Some (cause.Status f.status (text_in f.errors)))
ended_cause account f true = text_cause account (utf8_of f.output)
ended_cause account f false = refl

run_cause : (account : Option (List ℕ)) (given : Answer) → result_err (or_process_error (run_credentials account (finished_of given))) ≡ option_map process_error (why_run account given)
run_cause account (answer.Finished f) = ended_cause account f (int_eq f.status (pos 0))
run_cause account (answer.Moment m) = refl
run_cause account (answer.Jitter n) = refl
run_cause account (answer.Contents bytes) = refl
run_cause account answer.Written = refl
run_cause account (answer.Addresses addresses) = refl
run_cause account (answer.Replied reply) = refl
run_cause account (answer.Failed kind) = refl

pub process_cause : (command : List ℕ) (account : Option (List ℕ)) (part : List Pair) (out : Result Keys CredentialsError) →
    Reads (credential_process command account) part out → result_err out ≡ why_process account part
unfolding credential_process running process_answer
process_cause command account [] out h = absurd h
process_cause command account (e ∷ []) out h = ap result_err (sym h.1) ∙ run_cause account e.1
process_cause command account (e ∷ f ∷ part) out h = absurd h.1
