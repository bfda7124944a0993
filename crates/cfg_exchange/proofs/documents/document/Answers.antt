-- Memory did not run out, so the answer is what the document says.
use Rattle.std.proofs.Common.{rules, ◌≡◌, false}
use Rattle.cfg_json.specs.Documents.{is_memory}
use Rattle.cfg_exchange.proofs.Said.{says_unless_memory}
use Rattle.cfg_exchange.proofs.documents.document.Goals as goal

pub returns : goal.returns
returns c =
    let fine : is_memory c.parse_json_credentials-said.result ≡ false = search rules in
    says_unless_memory c.args.text.now c.parse_json_credentials-said.result c.parse_json_credentials-said.ensures fine
