use Rattle.cfg_meta.proofs.FirstAnswers.{first_answer}
use Rattle.cfg_meta.specs.CredentialsAnswers.{credentials_rules}
use Rattle.cfg_credentials_chain.specs.Members.{name_in, IsNamedTree}
use Rattle.cfg_credentials_chain.proofs.laws.the_first_answer_is_the_chains.Goals as goal

pub returns : goal.returns
returns c = first_answer credentials_rules name_in IsNamedTree
