use Rattle.cfg_meta.proofs.FirstAnswers.{first_answer}
use Rattle.cfg_token_chain.specs.Members.{name_in, IsTokenTree}
use Rattle.cfg_meta.specs.TokenAnswers.{token_rules}
use Rattle.cfg_token_chain.proofs.laws.the_first_answer_is_the_chains.Goals as goal

pub returns : goal.returns
returns c = first_answer token_rules name_in IsTokenTree
