use Rattle.cfg_endpoint.proofs.Documents.{body_says_served}
use Rattle.cfg_endpoint.proofs.laws.a_written_document_is_read_back.Goals as goal

pub returns : goal.returns
returns c = body_says_served
