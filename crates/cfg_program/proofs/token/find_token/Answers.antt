-- The chain is that of the script's configuration, nothing was asked before its call, and the world is a new
-- one over the script's lists.
use Rattle.std.proofs.Common.{◌≡◌, ◌∙◌, ap, subst}
use Rattle.cfg_profile.specs.Configuration.{Configuration}
use Rattle.cfg_script.specs.Script.{plain}
use Rattle.cfg_program.specs.Calls.{IsFresh, configured, configuration_of}
use Rattle.cfg_program.specs.Tokens.{TellsToken}
use Rattle.cfg_program.proofs.FreshDevices.{still_fresh}
use Rattle.cfg_program.proofs.OneRegion.{if_ok}
use Rattle.cfg_program.proofs.OneToken.{tells_since}
use Rattle.cfg_program.proofs.token.find_token.Goals as goal

pub ask_token-requires : goal.ask_token-requires
ask_token-requires c =
    let e = c.in_ok-chain.ensures.world in
    let fresh : IsFresh c.new-world.result = record {
      journal = ap (λ w. w.journal) c.new-world.ensures;
      place = ap (λ w. w.devices.place) c.new-world.ensures ∙ ap (λ d. d.place) c.in_ok-devices.ensures;
    } in
    still_fresh c.new-world.result c.token_chain.new.world fresh e.journal e.stands

pub returns : goal.returns
returns c =
    let world = c.new-world.result in
    let lists : world.devices.lists ≡ c.args.script.devices = ap (λ w. w.devices.lists) c.new-world.ensures ∙ ap (λ d. d.lists) c.in_ok-devices.ensures in
    let conf : c.in_ok-chain.chain ≡ configuration_of (plain c.args.script) =
    c.in_ok-chain.ensures.chain ∙ ap (λ (k : Configuration). record k { region = c.in_ok-region.region }) c.in_ok-config.ensures
    ∙ ap (λ r. record (configured (plain c.args.script)) { region = r }) c.in_ok-region.ensures in
    if_ok c.ask_token.result
    (λ a t. subst (λ l. TellsToken c.args.below (configuration_of (plain c.args.script)) l a.is_ok a.lines.items) lists
    (tells_since c.args.below (configuration_of (plain c.args.script)) world.devices c.token_chain.new.world.devices a.is_ok a.lines.items c.in_ok-chain.ensures.world.same
    (subst (λ (k : Configuration). TellsToken c.args.below k c.token_chain.new.world.devices.lists a.is_ok a.lines.items) conf t)))
    c.ask_token.ensures
