-- Calls of a chain, as runs of its tree.
use Rattle.std.proofs.Common.{List, ◌∷◌, ◌++◌, Some, None, Option, subst}
use Rattle.cfg_world.specs.declared.ask.Question.{Question}
use Rattle.cfg_world.specs.Fits.{Pair}
use Rattle.cfg_kept.specs.Beginnings.{IsNext}
use Rattle.cfg_kept.specs.Kinds.{Value, States}
use Rattle.cfg_kept.specs.KeptInquiry.{Runs}
use Rattle.cfg_providers.specs.CustomSources.{Answer}
use Rattle.cfg_chain.specs.BegunCalls.{HasEnded, IsNextOfCall}
use Rattle.cfg_chain.specs.Members.{default_chain}
use Rattle.cfg_chain.specs.Provides.{IsCall}
use Rattle.cfg_chain.specs.Settings.{ChainSetting, Services, AreServices, setting}
use Rattle.cfg_chain.proofs.Calls.{one_answer, runs_call}
use Rattle.cfg_explain.proofs.Standing.{StandsAt, run_asks}

-- The call asks this question next; or there is none, and it has come to its end.
abbrev pub CallStandsAt : ChainSetting → States → List Pair → Option Question → Type 0
CallStandsAt over old journal (Some q) = IsNextOfCall over old journal q
CallStandsAt over old journal None = HasEnded over old journal

module _ (over : ChainSetting) (old : States) where
  -- each entry of a call's journal has the question that is next behind those before it
  pub call_asks : (new : States) (found : List Value) (journal : List Pair) (e : Pair) (rest : List Pair) (out : Answer) → IsCall over old new found (journal ++ e ∷ rest) out → IsNextOfCall over old journal e.0
  call_asks new found journal e rest out c = record {
    services = c.services;
    names = c.names;
    next = run_asks (default_chain (setting over c.services)) (Some old) (Some new) found journal e rest out (runs_call over old new found (journal ++ e ∷ rest) out c);
  }

  -- the services over which a call stands
  pub services_at : (journal : List Pair) (next : Option Question) → CallStandsAt over old journal next → (services : Services) × AreServices over services
  services_at journal (Some q) s = (s.services, s.names)
  services_at journal None s = (s.3.services, s.3.names)

  -- a call stands where its tree does
  pub tree_stands : (services : Services) → AreServices over services → (journal : List Pair) (next : Option Question) → CallStandsAt over old journal next → StandsAt (default_chain (setting over services)) old journal next
  tree_stands services names journal (Some q) s = subst (λ t. IsNext (default_chain (setting over t)) (Some old) journal q) (one_answer over s.services services s.names names) s.next
  tree_stands services names journal None s = (
    s.1,
    s.2,
    Some s.0,
    subst (λ t. Runs (default_chain (setting over t)) (Some old) s.1 journal s.2 (Some s.0)) (one_answer over s.3.services services s.3.names names) (runs_call over old s.0 s.1 journal s.2 s.3),
  )
