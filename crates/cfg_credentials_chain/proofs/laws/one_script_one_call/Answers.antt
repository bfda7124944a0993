use Rattle.cfg_world.proofs.Agreeing.{given_alike}
use Rattle.cfg_meta.proofs.OneCall.{one_call}
use Rattle.cfg_meta.specs.CredentialsAnswers.{credentials_rules}
use Rattle.cfg_credentials_chain.specs.Members.{name_in, IsNamedTree}
use Rattle.cfg_credentials_chain.specs.OneTree.{one_named_tree}
use Rattle.cfg_credentials_chain.proofs.laws.one_script_one_call.Goals as goal

pub returns : goal.returns
returns c = λ members lists place olds news newer one other x y h k g a.
    one_call credentials_rules name_in IsNamedTree one_named_tree members olds news newer one other x y h k (given_alike lists place one other g a)
