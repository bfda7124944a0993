-- A finished call is a beginning, too.
use Rattle.std.proofs.Common.{map, subst}
use Rattle.cfg_meta.specs.MemberParts.{keeping_of, AreBegunParts}
use Rattle.cfg_meta.proofs.MemberSteps.{parts_begun}
use Rattle.cfg_meta.proofs.provide.provide_by_members.Goals as goal

pub returns-in-Ok-clause-stays : goal.returns-in-Ok-clause-stays
returns-in-Ok-clause-stays g c = λ no_memory.
    let e = c.in-Ok.ensures.follows in
    record {
      part = e.part;
      stays = record { journal = e.grew.grows; fits = e.grew.fits; same = e.grew.same; counted = e.grew.counted };
      begun = subst (λ olds. AreBegunParts g.M.Error.ChainError.rules (λ m. g.M.ChainMember.named m) (λ m. g.M.ChainMember.is_tree m) c.args.members.now olds (map keeping_of c.follow_members.new.kept) e.part) c.clear_found.ensures.found
          (parts_begun g.M.Error.ChainError.rules (λ m. g.M.ChainMember.named m) (λ m. g.M.ChainMember.is_tree m) c.in-Ok.outcome c.args.members.now (map keeping_of c.clear_found.new.kept) (map keeping_of c.follow_members.new.kept) e.part e.parts);
    }
