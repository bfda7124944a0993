-- The world's journal gained the part of a get.
use Rattle.cfg_exchange.proofs.Checks.{no_question}
use Rattle.cfg_imds.specs.Clients.{rules_of}
use Rattle.cfg_imds.specs.Tokens.{bare_kept}
use Rattle.cfg_imds.proofs.NoMemory.{get_left}
use Rattle.cfg_imds.proofs.Over.{kept_ends, kept_breaks}
use Rattle.cfg_imds.proofs.WhyNot.{get_fault}
use Rattle.cfg_imds.proofs.imds.client.Client.get.Goals as goal

pub returns-clause-gets : goal.returns-clause-gets
returns-clause-gets g c =
    rw (← c.state.view_is, c.or_memory.ensures) (λ other.
    let e = kept_ends _ _ c.follow_get-outcome.result c.follow_get-outcome.ensures.follows other in
    record {
      part = e.part;
      grows = record { journal = e.grows; fits = e.fits; same = e.same; counted = e.counted; stands = e.stands };
      reads = e.reads;
      cause = get_fault _ _ _ e.part _ e.reads;
    })

pub returns-clause-memory : goal.returns-clause-memory
returns-clause-memory g c = rw (← c.state.view_is) (λ no_memory.
    let e = kept_breaks _ _ c.follow_get-outcome.result c.follow_get-outcome.ensures.follows no_question in
    record {
      part = e.part;
      stays = record { journal = e.grows; fits = e.fits; same = e.same; counted = e.counted };
      begun = e.begun;
    })

pub returns-clause-left : goal.returns-clause-left
returns-clause-left g c = rw (← c.state.view_is, c.or_memory.ensures) (λ m.
    get_left _ _ _ (rules_of (λ b. (goal.ClassifyRetry-dyn g (b.vtable, b.value)).repeated b.value) c.args.self.now) (bare_kept c.state.inside.kept) _ c.args.path.now c.follow_get-outcome.result _
    c.follow_get-outcome.ensures.follows c.follow_get-outcome.ensures.left m)
