-- The world's journal gained the part of a settle.
use Rattle.std.specs.Prelude.{option_map}
use Rattle.cfg_exchange.proofs.Checks.{no_question}
use Rattle.cfg_imds.specs.Clients.{rules_of}
use Rattle.cfg_imds.specs.Tokens.{bare_token}
use Rattle.cfg_imds.proofs.LeftKept.{settle_stays}
use Rattle.cfg_imds.proofs.Over.{kept_ends, kept_breaks}
use Rattle.cfg_imds.proofs.WhyNot.{settle_fault}
use Rattle.cfg_imds.proofs.imds.client.Client.settle.Goals as goal

pub returns-clause-settles : goal.returns-clause-settles
returns-clause-settles g c =
    rw (← c.state.view_is, c.or_memory.ensures) (λ other.
    let e = kept_ends _ _ c.follow_settle-outcome.result c.follow_settle-outcome.ensures.follows other in
    record {
      part = e.part;
      grows = record { journal = e.grows; fits = e.fits; same = e.same; counted = e.counted; stands = e.stands };
      reads = e.reads;
      cause = settle_fault (rules_of (λ b. (goal.ClassifyRetry-dyn g (b.vtable, b.value)).repeated b.value) c.args.self.now) (option_map bare_token c.state.inside.kept) e.part _ e.reads;
    })

pub returns-clause-memory : goal.returns-clause-memory
returns-clause-memory g c = rw (← c.state.view_is) (λ no_memory.
    let e = kept_breaks _ _ c.follow_settle-outcome.result c.follow_settle-outcome.ensures.follows no_question in
    record {
      part = e.part;
      stays = record { journal = e.grows; fits = e.fits; same = e.same; counted = e.counted };
      begun = e.begun;
    })

pub returns-clause-stays : goal.returns-clause-stays
returns-clause-stays g c = rw (← c.state.view_is, c.or_memory.ensures) (λ m.
    settle_stays _ _ _ (rules_of (λ b. (goal.ClassifyRetry-dyn g (b.vtable, b.value)).repeated b.value) c.args.self.now) (option_map bare_token c.state.inside.kept) _ c.follow_settle-outcome.result _
    c.follow_settle-outcome.ensures.follows c.follow_settle-outcome.ensures.stays m)
