-- Memory did not run out, so the answer is what the document says.
use Rattle.std.proofs.Common.{rules, ◌≡◌, ◌∙◌, ap, false}
use Rattle.std.specs.Str.{encode_utf8_all}
use Rattle.cfg_json.specs.Documents.{is_memory}
use Rattle.cfg_exchange.specs.Documents.{document}
use Rattle.cfg_exchange.proofs.Said.{says_unless_memory}
use Rattle.cfg_imds.specs.Fetches.{entry_text}
use Rattle.cfg_kept.specs.RoleDocuments.{get_document}
use Rattle.cfg_kept.proofs.role_document.get_document.Goals as goal

pub returns : goal.returns
unfolding get_document
returns c =
    let fine : is_memory c.parse_json_credentials-said.result ≡ false = search rules in
    let text : c.as_str.result.now ≡ encode_utf8_all (entry_text c.args.get.now) = search rules in
    says_unless_memory c.as_str.result.now c.parse_json_credentials-said.result c.parse_json_credentials-said.ensures fine ∙ ap document text
