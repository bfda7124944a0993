use Rattle.cfg_meta.proofs.NextQuestions.{one_question}
use Rattle.cfg_meta.specs.CredentialsAnswers.{credentials_rules}
use Rattle.cfg_credentials_chain.specs.Members.{name_in, IsNamedTree}
use Rattle.cfg_credentials_chain.specs.OneTree.{one_named_tree}
use Rattle.cfg_credentials_chain.proofs.laws.one_question_is_next.Goals as goal

pub returns : goal.returns
returns c = one_question credentials_rules name_in IsNamedTree one_named_tree
