use Rattle.std.proofs.Common.{refl, option_map}
use Rattle.std.proofs.lemmas.Result.{err_from_is_err_and}
use Rattle.cfg_json.specs.Documents.{IsProcessTable, process_of}
use Rattle.cfg_json.proofs.DocumentLaws.{text_fails_at, fields_answer, process_fields}
use Rattle.cfg_json.proofs.process.parse_credential_process_json_credentials.Goals as goal

pub returns-in_err-members : goal.returns-in_err-members
returns-in_err-members c =
    let p = err_from_is_err_and c.from_residual.result c.from_residual.ensures.1 in
    rw (p.1, p.2) (text_fails_at (IsProcessTable (option_map (λ a. a.now) c.args.profile_account_id)) c.args.text.now _ _ c.as_bytes.ensures.value c.in_err-members.ensures)

pub returns : goal.returns
returns c =
    let account = option_map (λ a. a.now) c.args.profile_account_id in
    let list = c.in_ok-members.members.list in
    let version = c.version_of.result in
    fields_answer (IsProcessTable account) c.args.text.now list (process_of list version account) c.process_document.result (rw c.as_bytes.ensures.value at c.in_ok-members.ensures)
    (version, (rw c.as_slice-list.ensures at c.version_of.ensures), refl) (process_fields list version account) (rw c.as_slice-list.ensures at c.process_document.ensures)
