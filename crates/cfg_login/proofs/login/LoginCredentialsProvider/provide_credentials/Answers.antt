-- The journal and the found values gained the part of the provider, or the beginning of it.
use Rattle.cfg_kept.proofs.CallParts.{read_of_run}
use Rattle.cfg_kept.proofs.OneHolding.{no_question, broken, ended_begins}
use Rattle.cfg_login.proofs.SignInCauses.{sign_in_cause}
use Rattle.cfg_login.specs.SignIns.{sign_in_credentials}
use Rattle.cfg_login.specs.declared.asked_by.AskedBy.TheVariants.{Caller}
use Rattle.cfg_login.proofs.login.LoginCredentialsProvider.provide_credentials.Goals as goal

pub returns-in-Ok-clause-provides : goal.returns-in-Ok-clause-provides
returns-in-Ok-clause-provides g c = λ other.
    let e = c.in-Ok.ensures.follows in
    let setup = c.args.self.now in
    record { ends = e; cause = sign_in_cause setup.configuration setup.session Caller e.found e.part c.in-Ok.outcome (read_of_run (sign_in_credentials setup.configuration setup.session Caller) _ _ e.found e.part c.in-Ok.outcome e.runs) }

pub returns-in-Ok-clause-stays : goal.returns-in-Ok-clause-stays
returns-in-Ok-clause-stays g c = λ memory. ended_begins _ _ _ _ _ _ _ c.in-Ok.ensures.follows

pub returns-in-Err-clause-stays : goal.returns-in-Err-clause-stays
returns-in-Err-clause-stays g c = λ memory. broken c.in-Err.field-0 c.in-Err.ensures.follows no_question
