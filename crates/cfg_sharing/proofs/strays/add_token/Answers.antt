-- That of the reply, and then that of the reading.
use Rattle.std.proofs.Common.{[], ◌∷◌, subst}
use Rattle.cfg_world.specs.Fits.{Pair}
use Rattle.cfg_sharing.specs.Histories.{entries_in}
use Rattle.cfg_sharing.specs.Strays.{AddsStrays}
use Rattle.cfg_sharing.proofs.Straying.{adds_both}
use Rattle.cfg_sharing.proofs.strays.add_token.Goals as goal

pub returns : goal.returns
returns g c =
    let entries = entries_in c.args.calls.now in
    let token = c.args.token.now in
    adds_both entries (token.reply ∷ []) (token.reading ∷ []) c.args.count c.add_stray-with_reply.result c.add_stray.result
    (subst (λ (e : Pair). AddsStrays entries (e ∷ []) c.args.count c.add_stray-with_reply.result) c.reply.ensures c.add_stray-with_reply.ensures)
    (subst (λ (e : Pair). AddsStrays entries (e ∷ []) c.add_stray-with_reply.result c.add_stray.result) c.reading.ensures c.add_stray.ensures)
