-- The chain is that of the script's configuration, whose token it needs, and nothing was asked before its call.
use Rattle.std.proofs.Common.{◌∙◌, Some, ap, refl, sym, subst}
use Rattle.std.specs.Option.{option_copied}
use Rattle.cfg_world.specs.Script.{AllFit}
use Rattle.cfg_token_chain.specs.Sessions.{session_key}
use Rattle.cfg_script.specs.Script.{plain_share}
use Rattle.cfg_program.specs.Calls.{IsFresh}
use Rattle.cfg_program.specs.Shares.{share_configuration}
use Rattle.cfg_program.proofs.FreshDevices.{still_fresh}
use Rattle.cfg_program.proofs.Granting.{lists_fit}
use Rattle.cfg_program.proofs.Gating.{key_is_sso, gated_with, gated_without, chain_is, script_is}
use Rattle.cfg_program.proofs.gated.gated.Goals as goal

-- no list has an item
pub new-requires : goal.new-requires
new-requires g c = subst AllFit (sym c.empty.ensures) (lists_fit 0)

pub at_gate-requires-clause-kind : goal.at_gate-requires-clause-kind
at_gate-requires-clause-kind g c κs within =
    key_is_sso c.in_ok-chain.chain c.in_ok-key-in-Some.key
    (sym c.token_key.ensures ∙ ap option_copied c.in-Some.is ∙ ap Some (sym c.in_ok-key-in-Some.ensures))

pub without_session-requires-clause-none : goal.without_session-requires-clause-none
without_session-requires-clause-none g c = sym c.token_key.ensures ∙ ap option_copied c.in-None.is

pub without_session-requires-clause-fresh : goal.without_session-requires-clause-fresh
without_session-requires-clause-fresh g c =
    let e = c.in_ok-chain.ensures.world in
    let fresh : IsFresh c.new-world.result = record {
      journal = ap (λ w. w.journal) c.new-world.ensures;
      place = ap (λ w. w.devices.place) c.new-world.ensures ∙ ap (λ d. d.place) c.in_ok-devices.ensures;
    } in
    still_fresh c.new-world.result c.token_chain.new.world fresh e.journal e.stands

pub returns-in_ok-key-in-Some : goal.returns-in_ok-key-in-Some
returns-in_ok-key-in-Some g c =
    let script = c.args.script in
    let held = script_is script c.in_ok-config.config c.in_ok-region.region c.in_ok-config.ensures c.in_ok-region.ensures in
    let chain = chain_is c.in_ok-chain.chain c.in_ok-config.config c.in_ok-copied.copied c.in_ok-given.given c.in_ok-region.region
    c.in_ok-chain.ensures.chain c.in_ok-copied.ensures c.in_ok-given.ensures in
    gated_with c.at_gate.result (share_configuration (plain_share script)) c.with_region.result script.callers.items script.callers.items
    (c.with_region.ensures ∙ held) refl c.in_ok-key-in-Some.key
    (sym (ap session_key (chain ∙ held)) ∙ sym c.token_key.ensures ∙ ap option_copied c.in-Some.is ∙ ap Some (sym c.in_ok-key-in-Some.ensures))
    c.at_gate.ensures

pub returns-in-None : goal.returns-in-None
returns-in-None g c =
    let script = c.args.script in
    let held = script_is script c.in_ok-config.config c.in_ok-region.region c.in_ok-config.ensures c.in_ok-region.ensures in
    let chain = chain_is c.in_ok-chain.chain c.in_ok-config.config c.in_ok-copied.copied c.in_ok-given.given c.in_ok-region.region
    c.in_ok-chain.ensures.chain c.in_ok-copied.ensures c.in_ok-given.ensures in
    gated_without c.without_session.result (share_configuration (plain_share script)) c.in_ok-chain.chain script.callers.items c.as_slice.result.now
    (chain ∙ held) c.as_slice.ensures.value (sym (ap session_key (chain ∙ held)) ∙ sym c.token_key.ensures ∙ ap option_copied c.in-None.is) c.without_session.ensures
