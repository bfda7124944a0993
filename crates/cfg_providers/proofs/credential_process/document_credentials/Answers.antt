-- Memory did not run out, so the answer is what the document says.
use Rattle.std.proofs.Common.{rules, ◌≡◌, false, option_map}
use Rattle.cfg_json.specs.Documents.{is_memory}
use Rattle.cfg_providers.proofs.ProcessSaid.{says_unless_memory}
use Rattle.cfg_providers.proofs.credential_process.document_credentials.Goals as goal

pub returns : goal.returns
returns c =
    let said = c.parse_credential_process_json_credentials-said in
    let fine : is_memory said.result ≡ false = search rules in
    says_unless_memory (option_map (λ a. a.now) c.args.account_id) c.args.text.now said.result said.ensures fine
