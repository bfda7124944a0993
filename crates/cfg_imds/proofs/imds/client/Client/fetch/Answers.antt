-- The world's journal gained the part of a fetch.
use Rattle.cfg_exchange.proofs.Checks.{no_question}
use Rattle.cfg_imds.specs.Clients.{rules_of}
use Rattle.cfg_imds.proofs.Over.{plain_ends, plain_breaks}
use Rattle.cfg_imds.proofs.WhyNot.{fetch_fault}
use Rattle.cfg_imds.proofs.imds.client.Client.fetch.Goals as goal

pub returns-clause-fetches : goal.returns-clause-fetches
returns-clause-fetches g c =
    rw c.or_memory.ensures (λ other.
    let e = plain_ends _ c.follow_fetch-outcome.result c.follow_fetch-outcome.ensures.follows other in
    record {
      part = e.part;
      grows = record { journal = e.grows; fits = e.fits; same = e.same; counted = e.counted; stands = e.stands };
      reads = e.reads;
      cause = fetch_fault (rules_of (λ b. (goal.ClassifyRetry-dyn g (b.vtable, b.value)).repeated b.value) c.args.self.now) c.args.path.now c.args.token.now e.part _ e.reads;
    })

pub returns-clause-memory : goal.returns-clause-memory
returns-clause-memory g c = λ no_memory.
    let e = plain_breaks _ c.follow_fetch-outcome.result c.follow_fetch-outcome.ensures.follows no_question in
    record {
      part = e.part;
      stays = record { journal = e.grows; fits = e.fits; same = e.same; counted = e.counted };
      begun = e.begun;
    }
