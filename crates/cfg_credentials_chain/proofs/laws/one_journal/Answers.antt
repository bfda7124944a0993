use Rattle.cfg_meta.proofs.OneCall.{one_call}
use Rattle.cfg_meta.specs.CredentialsAnswers.{credentials_rules}
use Rattle.cfg_credentials_chain.specs.Members.{name_in, IsNamedTree}
use Rattle.cfg_credentials_chain.specs.OneTree.{one_named_tree}
use Rattle.cfg_credentials_chain.proofs.laws.one_journal.Goals as goal

pub returns : goal.returns
returns c = one_call credentials_rules name_in IsNamedTree one_named_tree
