-- The chain is that of the generated profiles, without sources.
use Rattle.std.proofs.Common.{rules, ◌≡◌, None}
use Rattle.cfg_program.specs.Calls.{in_region}
use Rattle.cfg_program.specs.Generated.{generated_configuration}
use Rattle.cfg_program.proofs.AloneChains.{generated_alone}
use Rattle.cfg_program.proofs.generated.generate.Goals as goal

pub returns : goal.returns
returns c =
    let conf : in_region c.in_ok-config.config None ≡ generated_configuration c.args.n = search rules in
    generated_alone _ _ _ c.in_ok-config.config c.in_ok-lists.lists c.args.n c.answer_over.result c.in_ok-chain.ensures conf c.new-2.ensures.items c.in_ok-lists.ensures.value c.answer_over.ensures
