-- The world's journal gained the parts of the chain, or the beginning of them.
use Rattle.std.proofs.Common.{inl, inr, ap, ◌∙◌, map}
use Rattle.cfg_kept.specs.FoundValues.{bare}
use Rattle.cfg_kept.proofs.Told.{run_begins}
use Rattle.cfg_kept.proofs.OneHolding.{no_question, broken}
use Rattle.cfg_exchange.proofs.Checks.{not_stopped}
use Rattle.cfg_chain.specs.Settings.{ChainSetting}
use Rattle.cfg_chain.specs.Views.{chain_of}
use Rattle.cfg_chain.proofs.FoundCalls.{provides_found}
use Rattle.cfg_chain.proofs.WhoAnswered.{tells_who}
use Rattle.cfg_chain.proofs.Calls.{is_call_from, begins_from, some_is}
use Rattle.cfg_chain.proofs.default_provider.credentials.DefaultCredentialsChain.provide_credentials.Goals as goal

pub returns-in-Ok-clause-provides : goal.returns-in-Ok-clause-provides
returns-in-Ok-clause-provides g c = λ other.
    let over : ChainSetting = chain_of (λ z. (goal.ProvideCredentials-dyn g z).value z.1) (λ z. (goal.ClassifyRetry-dyn g z).repeated z.1) c.args.self.now in
    elim c.in-Ok.ensures.follows [
      | inl n ↦ absurd (not_stopped _ _ n.0)
      | inr h ↦
          let e = h.2 in
          record {
            part = e.part;
            grows = record { journal = e.grows; fits = e.fits; same = e.same; counted = e.counted; stands = e.stands };
            call = is_call_from over h.0 _ _ _ _ e.found _ e.part c.in-Ok.outcome h.1 (ap (λ items. map bare items) c.clear_found.ensures.found) c.clear_found.ensures.kept e.finds e.runs;
          }
    ]

pub returns-in-Ok-clause-tells : goal.returns-in-Ok-clause-tells
returns-in-Ok-clause-tells g c = λ other. tells_who _ _ _ _ _ _ (provides_found _ _ _ _ _ _ _ _ (returns-in-Ok-clause-provides g c other))

pub returns-in-Ok-clause-stays : goal.returns-in-Ok-clause-stays
returns-in-Ok-clause-stays g c = λ no_memory.
    let over : ChainSetting = chain_of (λ z. (goal.ProvideCredentials-dyn g z).value z.1) (λ z. (goal.ClassifyRetry-dyn g z).repeated z.1) c.args.self.now in
    elim c.in-Ok.ensures.follows [
      | inl n ↦ absurd (not_stopped _ _ n.0)
      | inr h ↦
          let e = h.2 in
          inr (record {
            services = h.0;
            names = h.1;
            part = e.part;
            stays = record { journal = e.grows; fits = e.fits; same = e.same; counted = e.counted };
            begins = begins_from over h.0 _ _ _ _ e.found _ e.part (ap (λ items. map bare items) c.clear_found.ensures.found) c.clear_found.ensures.kept e.finds (run_begins _ _ _ e.found e.part c.in-Ok.outcome e.runs);
          })
    ]

pub returns-in-Err-clause-stays : goal.returns-in-Err-clause-stays
returns-in-Err-clause-stays g c = λ no_memory.
    let over : ChainSetting = chain_of (λ z. (goal.ProvideCredentials-dyn g z).value z.1) (λ z. (goal.ClassifyRetry-dyn g z).repeated z.1) c.args.self.now in
    elim c.in-Err.ensures.follows [
      | inl n ↦ inl (n.1, some_is _ _ (ap (λ h. h.kept) n.2) ∙ c.clear_found.ensures.kept)
      | inr h ↦
          let e = broken c.in-Err.field-0 h.2 no_question in
          inr (record {
            services = h.0;
            names = h.1;
            part = e.part;
            stays = record { journal = e.grows; fits = e.fits; same = e.same; counted = e.counted };
            begins = begins_from over h.0 _ _ _ _ e.found _ e.part (ap (λ items. map bare items) c.clear_found.ensures.found) c.clear_found.ensures.kept e.finds e.begins;
          })
    ]
