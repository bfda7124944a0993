use Rattle.std.specs.Prelude.{◌≡◌, [], Err}
use Rattle.cfg_meta.specs.CredentialsAnswers.{credentials_rules, none_loaded}
use Rattle.cfg_credentials_chain.specs.Members.{name_in, IsNamedTree}
use Rattle.cfg_credentials_chain.specs.OneTree.{one_named_tree}
use Rattle.cfg_credentials_chain.proofs.BegunMembers.{begun_prefix}
use Rattle.cfg_credentials_chain.proofs.laws.a_beginning_is_a_prefix.Goals as goal

pub returns : goal.returns
returns c = λ members olds news newer one other x.
    begun_prefix credentials_rules name_in IsNamedTree one_named_tree members [] [] (λ told. x ≡ Err (none_loaded told)) olds news newer one other x
