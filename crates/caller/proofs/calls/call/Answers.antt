-- A call over the devices with the token's file.
use Rattle.std.proofs.Common.{◌≡◌, false, rules}
use Rattle.cfg_types.specs.Classes.{is_memory}
use Rattle.caller.proofs.Reporting.{tells_call, holds_still}
use Rattle.caller.proofs.calls.call.Goals as goal

pub returns-clause-tells : goal.returns-clause-tells
returns-clause-tells g c =
    let fine : is_memory c.provide_credentials.result ≡ false = search rules in
    let p = c.provide_credentials.ensures.provides fine in
    tells_call _ _ _ _ c.args.world.now c.clear_journal.new.self c.provide_credentials.new.world p.part c.journal.result.now c.provide_credentials.result _ _ _
    c.clear_journal.ensures c.requires.holds p.grows.journal p.grows.same p.grows.stands p.call (c.provide_credentials.ensures.tells fine) c.journal.ensures c.in_ok-line.ensures
    (rw c.as_str.ensures.value at c.in_ok-push_str.ensures.bytes)

pub returns-clause-holds : goal.returns-clause-holds
returns-clause-holds g c =
    let fine : is_memory c.provide_credentials.result ≡ false = search rules in
    holds_still c.args.world.now c.clear_journal.new.self c.provide_credentials.new.world c.clear_journal.ensures c.requires.holds (c.provide_credentials.ensures.provides fine).grows.same
