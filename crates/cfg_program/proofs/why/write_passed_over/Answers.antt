-- One member more.
use Rattle.std.proofs.Common.{◌++◌, take, sym, ap, ◌∙◌, append_assoc}
use Rattle.std.specs.List.{flat_map}
use Rattle.cfg_program.specs.Why.{passed_over_line}
use Rattle.cfg_sharing.proofs.Straying.{one_more}
use Rattle.cfg_program.proofs.why.write_passed_over.Goals as goal

pub loop-member-preserved : goal.loop-member-preserved
loop-member-preserved c =
    let line = passed_over_line c.member-item.result in
    c.in_ok-write_one_passed_over.ensures
    ∙ ap (λ l. l ++ line) c.loop-member.invariant
    ∙ append_assoc c.args.lines.now.items (flat_map passed_over_line (take c.loop-member.member-index c.args.members.now)) line
    ∙ ap (λ l. c.args.lines.now.items ++ l) (sym (one_more passed_over_line c.args.members.now c.loop-member.member-index c.member-item.result c.loop-member-test.true c.member-item.is))
