-- A journal of a call has owners, and these are its members.
use Rattle.cfg_chain.specs.Settings.{ChainSetting}
use Rattle.cfg_chain.specs.Views.{chain_of}
use Rattle.cfg_program.proofs.Explaining.{members_there, are_members}
use Rattle.cfg_program.proofs.explain.members_of.Goals as goal

pub unwrap-requires : goal.unwrap-requires
unwrap-requires g c =
    let over : ChainSetting = chain_of (λ z. (goal.ProvideCredentials-dyn g z).value z.1) (λ z. (goal.ClassifyRetry-dyn g z).repeated z.1) c.args.chain.now in
    members_there over c.in_ok-kept.kept c.owners.new.kept c.args.journal.now c.in_ok-members.members c.in_ok-kept.ensures.nothing c.in_ok-members.ensures.owns c.requires

pub returns : goal.returns
returns g c =
    let over : ChainSetting = chain_of (λ z. (goal.ProvideCredentials-dyn g z).value z.1) (λ z. (goal.ClassifyRetry-dyn g z).repeated z.1) c.args.chain.now in
    are_members over c.in_ok-kept.kept c.owners.new.kept c.args.journal.now c.in_ok-members.members c.unwrap.result c.in_ok-kept.ensures.nothing c.in_ok-members.ensures.owns c.unwrap.ensures
