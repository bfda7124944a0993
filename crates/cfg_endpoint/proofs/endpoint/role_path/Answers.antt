-- The listing's path, and the role behind it.
use Rattle.std.proofs.Common.{ap, sym, ◌∙◌, ◌++◌}
use Rattle.cfg_base.proofs.TextLemmas.{encodes-chars}
use Rattle.cfg_imds_credentials.specs.Metadata.{listing_path}
use Rattle.cfg_endpoint.proofs.endpoint.role_path.Goals as goal

pub returns : goal.returns
returns c = c.in_ok-push_str.ensures.bytes ∙ ap (λ t. t ++ c.args.role.now) c.in_ok-path.ensures.ok ∙ ap (λ t. listing_path ++ t) (sym (encodes-chars c.args.role.now c.utf8.role))
