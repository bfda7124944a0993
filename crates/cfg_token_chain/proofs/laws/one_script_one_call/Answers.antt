use Rattle.std.proofs.Common.{sym, ◌∙◌}
use Rattle.cfg_world.proofs.Agreeing.{given_alike}
use Rattle.cfg_meta.proofs.OneCall.{one_call}
use Rattle.cfg_token_chain.specs.Members.{name_in, IsTokenTree}
use Rattle.cfg_meta.specs.TokenAnswers.{token_rules}
use Rattle.cfg_token_chain.proofs.laws.one_script_one_call.Goals as goal

pub returns : goal.returns
returns c = λ members lists place olds news newer one other x y h k g a.
    one_call token_rules name_in IsTokenTree (λ m s t p q. p ∙ sym q) members olds news newer one other x y h k (given_alike lists place one other g a)
