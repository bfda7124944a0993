-- The world's journal gained the part of web identity, and so the answer has its cause.
use Rattle.cfg_providers.specs.WebIdentities.{web_identity, why_web_identity}
use Rattle.cfg_providers.proofs.WebIdentityCauses.{web_identity_cause}
use Rattle.cfg_providers.proofs.Providing.{provides_by, interrupted_by}
use Rattle.cfg_providers.proofs.web_identity_token.WebIdentityTokenCredentialsProvider.provide_credentials.Goals as goal

pub returns-in-Ok-clause-provides : goal.returns-in-Ok-clause-provides
returns-in-Ok-clause-provides g c = λ other.
    let e = c.in-Ok.ensures in
    let setup = c.args.self.now in
    provides_by (web_identity setup.configuration setup.given setup.policies) _ _ e.part c.in-Ok.outcome e.grows e.fits e.same e.counted e.reads (why_web_identity setup.configuration setup.given) e.stands (web_identity_cause setup.configuration setup.given setup.policies)

pub returns-in-Ok-clause-stays : goal.returns-in-Ok-clause-stays
returns-in-Ok-clause-stays g c = λ no_memory.
    let e = c.in-Ok.ensures in
    let setup = c.args.self.now in
    interrupted_by (web_identity setup.configuration setup.given setup.policies) _ _ e.part c.in-Ok.outcome e.grows e.fits e.same e.counted e.reads
