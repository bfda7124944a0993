-- The world's journal gained the part of the check.
use Rattle.std.proofs.Common.{inl, inr}
use Rattle.cfg_exchange.specs.Targets.{full_target}
use Rattle.cfg_exchange.proofs.Checks.{read_begun, no_question, broken, not_stopped}
use Rattle.cfg_exchange.proofs.SafeTargets.{given_is_allowed}
use Rattle.cfg_exchange.proofs.full_uri.validate_full_uri.Goals as goal

pub returns-in-Ok-clause-validates : goal.returns-in-Ok-clause-validates
returns-in-Ok-clause-validates g c = λ other. elim c.in-Ok.ensures [
  | inl n ↦ absurd (not_stopped _ _ n.0)
  | inr h ↦
      let e = h.2 in record {
        named = h.0;
        names = h.1;
        part = e.part;
        grows = record { journal = e.grows; fits = e.fits; same = e.same; counted = e.counted; stands = e.stands };
        reads = e.reads;
        allowed = given_is_allowed c.args.uri.now c.args.dns h.0 e.part c.in-Ok.outcome h.1 e.reads;
      }
]

pub returns-in-Ok-clause-memory : goal.returns-in-Ok-clause-memory
returns-in-Ok-clause-memory g c = λ no_memory. elim c.in-Ok.ensures [
  | inl n ↦ absurd (not_stopped _ _ n.0)
  | inr h ↦
      let e = h.2 in inr (record {
        named = h.0;
        names = h.1;
        part = e.part;
        stays = record { journal = e.grows; fits = e.fits; same = e.same; counted = e.counted };
        begun = read_begun (full_target c.args.dns h.0) e.part c.in-Ok.outcome e.reads;
      })
]

pub returns-in-Err-clause-memory : goal.returns-in-Err-clause-memory
returns-in-Err-clause-memory g c = λ no_memory. elim c.in-Err.ensures [
  | inl n ↦ inl n.1
  | inr h ↦
      let e = broken c.in-Err.field-0 h.2 no_question in inr (record {
        named = h.0;
        names = h.1;
        part = e.part;
        stays = record { journal = e.grows; fits = e.fits; same = e.same; counted = e.counted };
        begun = e.begun;
      })
]
