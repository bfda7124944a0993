use Rattle.cfg_token_chain.proofs.OneSession.{path_gives, the_one}
use Rattle.cfg_token_chain.proofs.laws.the_session_is_that_of_the_path.Goals as goal

pub returns-clause-path : goal.returns-clause-path
returns-clause-path c = path_gives

pub returns-clause-only : goal.returns-clause-only
returns-clause-only c = the_one
