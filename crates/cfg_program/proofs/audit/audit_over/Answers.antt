-- A place that is told is one of the answers, and the line is what is told.
use Rattle.cfg_chain.specs.Settings.{ChainSetting}
use Rattle.cfg_chain.specs.Views.{chain_of}
use Rattle.cfg_program.proofs.Auditing.{is_place, audited}
use Rattle.cfg_program.proofs.audit.audit_over.Goals as goal

pub write_audit-requires : goal.write_audit-requires
write_audit-requires g c =
    let over : ChainSetting = chain_of (λ z. (goal.ProvideCredentials-dyn g z).value z.1) (λ z. (goal.ClassifyRetry-dyn g z).repeated z.1) c.args.chain.now in
    is_place over _ _ _ c.args.answers.now c.in_ok-told.told c.in_ok-told.ensures.tells

pub returns : goal.returns
returns g c =
    let over : ChainSetting = chain_of (λ z. (goal.ProvideCredentials-dyn g z).value z.1) (λ z. (goal.ClassifyRetry-dyn g z).repeated z.1) c.args.chain.now in
    audited over _ _ _ c.args.answers.now c.in_ok-told.told c.is_whole-is_ok.result c.new-lines.result.items c.write_audit.new.line.items
    c.in_ok-kept.ensures.nothing c.in_ok-told.ensures.tells c.is_whole-is_ok.ensures c.new-lines.ensures.items c.in_ok-write_audit.ensures
