-- The world's journal gained the part of the call, or the beginning of it.
use Rattle.std.proofs.Common.{ap, map}
use Rattle.cfg_kept.specs.FoundValues.{bare}
use Rattle.cfg_kept.proofs.Told.{run_begins}
use Rattle.cfg_kept.proofs.OneHolding.{no_question, broken}
use Rattle.cfg_token_chain.specs.ProfileTokens.{default_token}
use Rattle.cfg_token_chain.proofs.TokenCalls.{call_from, begins_from}
use Rattle.cfg_token_chain.proofs.TokenCauses.{default_cause}
use Rattle.cfg_token_chain.proofs.default_provider.token.DefaultTokenChain.provide_token.Goals as goal

pub returns-in-Ok-clause-provides : goal.returns-in-Ok-clause-provides
returns-in-Ok-clause-provides g c = λ other.
    let e = c.in-Ok.ensures.follows in
    record {
      part = e.part;
      grows = record { journal = e.grows; fits = e.fits; same = e.same; counted = e.counted; stands = e.stands };
      call = call_from (default_token c.args.self.now) (default_cause c.args.self.now) _ _ _ _ e.found _ e.part c.in-Ok.outcome (ap (λ items. map bare items) c.clear_found.ensures.found) c.clear_found.ensures.kept e.finds e.runs;
    }

pub returns-in-Ok-clause-stays : goal.returns-in-Ok-clause-stays
returns-in-Ok-clause-stays g c = λ no_memory.
    let e = c.in-Ok.ensures.follows in
    record {
      part = e.part;
      stays = record { journal = e.grows; fits = e.fits; same = e.same; counted = e.counted };
      begins = begins_from (default_token c.args.self.now) _ _ _ _ e.found _ e.part (ap (λ items. map bare items) c.clear_found.ensures.found) c.clear_found.ensures.kept e.finds (run_begins _ _ _ e.found e.part c.in-Ok.outcome e.runs);
    }

pub returns-in-Err-clause-stays : goal.returns-in-Err-clause-stays
returns-in-Err-clause-stays g c = λ no_memory.
    let e = broken c.in-Err.field-0 c.in-Err.ensures.follows no_question in
    record {
      part = e.part;
      stays = record { journal = e.grows; fits = e.fits; same = e.same; counted = e.counted };
      begins = begins_from (default_token c.args.self.now) _ _ _ _ e.found _ e.part (ap (λ items. map bare items) c.clear_found.ensures.found) c.clear_found.ensures.kept e.finds e.begins;
    }
