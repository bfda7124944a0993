-- The world's journal gained the process's part, and so the answer has its cause.
use Rattle.cfg_providers.specs.Processes.{credential_process, why_process}
use Rattle.cfg_providers.proofs.ProcessCauses.{process_cause}
use Rattle.cfg_providers.proofs.Providing.{provides_by, interrupted_by}
use Rattle.cfg_providers.proofs.credential_process.CredentialProcessProvider.provide_credentials.Goals as goal

pub returns-in-Ok-clause-provides : goal.returns-in-Ok-clause-provides
returns-in-Ok-clause-provides g c = λ other.
    let e = c.in-Ok.ensures in
    let setup = c.args.self.now in
    provides_by (credential_process setup.command setup.account_id) _ _ e.part c.in-Ok.outcome e.grows e.fits e.same e.counted e.reads (why_process setup.account_id) e.stands (process_cause setup.command setup.account_id)

pub returns-in-Ok-clause-stays : goal.returns-in-Ok-clause-stays
returns-in-Ok-clause-stays g c = λ no_memory.
    let e = c.in-Ok.ensures in
    let setup = c.args.self.now in
    interrupted_by (credential_process setup.command setup.account_id) _ _ e.part c.in-Ok.outcome e.grows e.fits e.same e.counted e.reads
