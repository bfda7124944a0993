-- An entry stands in one of the journals, or in none of them.
use Rattle.std.proofs.Common.{List, true, refl, sym, subst}
use Rattle.std.specs.Prelude.{Contains}
use Rattle.std.proofs.lemmas.List.{take_all}
use Rattle.cfg_world.specs.Fits.{Pair}
use Rattle.cfg_sharing.specs.Histories.{entries_in}
use Rattle.cfg_sharing.proofs.Straying.{in_piece, in_none}
use Rattle.cfg_sharing.proofs.strays.stands_in_one.Goals as goal

pub returns-then-stands_in : goal.returns-then-stands_in
returns-then-stands_in g c = (
  λ t.
      in_piece (λ x. x.world.journal) c.args.calls.now c.loop-called.called-index c.called-item.result c.args.entry.now c.loop-called-test.true c.called-item.is
      (subst (λ (j : List Pair). Contains j c.args.entry.now) c.journal.ensures (c.stands_in.ensures.0 c.if-stands_in.true)),
  λ h. refl,
)

pub loop-called-preserved : goal.loop-called-preserved
loop-called-preserved g c =
    in_none (λ x. x.world.journal) c.args.calls.now c.loop-called.called-index c.called-item.result c.args.entry.now c.loop-called-test.true c.called-item.is c.loop-called.invariant
    (λ h. let found = c.stands_in.ensures.1 (subst (λ (j : List Pair). Contains j c.args.entry.now) (sym c.journal.ensures) h) in let not_found = c.if-stands_in.false in cc)

pub returns : goal.returns
returns g c = (
  λ t. cc,
  λ h. absurd (c.loop-called.invariant (subst (λ l. Contains (entries_in l) c.args.entry.now) (sym (take_all c.loop-called.called-index c.args.calls.now c.loop-called-test.false)) h)),
)
