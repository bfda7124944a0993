-- The world's journal gained the part of a container, and so the answer has its cause.
use Rattle.std.proofs.Common.{inl, inr}
use Rattle.cfg_exchange.proofs.Causes.{has_cause}
use Rattle.cfg_exchange.proofs.Checks.{no_question, broken, not_stopped}
use Rattle.cfg_providers.specs.ContainerSetups.{settings_in, asks_container}
use Rattle.cfg_providers.proofs.Providing.{read_begun}
use Rattle.cfg_providers.proofs.ecs.EcsCredentialsProvider.credentials.Goals as goal

pub returns-in-Ok-clause-provides : goal.returns-in-Ok-clause-provides
returns-in-Ok-clause-provides g c = λ other. elim c.in-Ok.ensures [
  | inl n ↦ absurd (not_stopped _ _ n.0)
  | inr h ↦
      let e = h.2 in
      let setup = c.args.self.now in
      record {
        named = h.0;
        names = h.1;
        provides = record {
          part = e.part;
          grows = record { journal = e.grows; fits = e.fits; same = e.same; counted = e.counted; stands = e.stands };
          reads = e.reads;
          cause = has_cause setup.configuration.environment (settings_in setup) h.0 e.part c.in-Ok.outcome e.reads;
        };
      }
]

pub returns-in-Ok-clause-stays : goal.returns-in-Ok-clause-stays
returns-in-Ok-clause-stays g c = λ no_memory. elim c.in-Ok.ensures [
  | inl n ↦ absurd (not_stopped _ _ n.0)
  | inr h ↦
      let e = h.2 in
      inr (
        h.0,
        h.1,
        record {
          part = e.part;
          stays = record { journal = e.grows; fits = e.fits; same = e.same; counted = e.counted };
          begun = read_begun (asks_container c.args.self.now h.0) e.part c.in-Ok.outcome e.reads;
        },
      )
]

pub returns-in-Err-clause-stays : goal.returns-in-Err-clause-stays
returns-in-Err-clause-stays g c = λ no_memory. elim c.in-Err.ensures [
  | inl n ↦ inl n.1
  | inr h ↦
      let e = broken c.in-Err.field-0 h.2 no_question in
      inr (
        h.0,
        h.1,
        record {
          part = e.part;
          stays = record { journal = e.grows; fits = e.fits; same = e.same; counted = e.counted };
          begun = e.begun;
        },
      )
]
