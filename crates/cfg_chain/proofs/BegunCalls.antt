-- What a call that has begun is a prefix of, and what it asks next.
use Rattle.std.proofs.Common.{List, [], ◌∷◌, ◌++◌, ◌⊎◌, inl, inr, Option, Some, subst}
use Rattle.cfg_world.specs.Agreeing.{AnswerAlike}
use Rattle.cfg_world.specs.Fits.{Pair}
use Rattle.cfg_kept.specs.Beginnings.{GoesOn, IsWhole, IsNext, AsksOne}
use Rattle.cfg_kept.specs.Kinds.{Value, States, with_value}
use Rattle.cfg_kept.specs.KeptInquiry.{KeptInquiry, Gives, Puts, Finds, Leaves, Runs, Begins, kept_after}
use Rattle.cfg_kept.proofs.Beginnings.{begins_whole, whole_or_one}
use Rattle.cfg_kept.proofs.Told.{told}
use Rattle.cfg_kept.proofs.Trees.{begins_here}
use Rattle.cfg_providers.specs.CustomSources.{Answer}
use Rattle.cfg_chain.specs.BegunCalls.{IsBegunCall, HasBegun, HasEnded, CallAsksOne}
use Rattle.cfg_chain.specs.Members.{default_chain}
use Rattle.cfg_chain.specs.Provides.{IsCall}
use Rattle.cfg_chain.specs.Settings.{ChainSetting, Services, AreServices, setting}
use Rattle.cfg_chain.proofs.Calls.{is_call, runs_call, one_answer}

-- ---- trees

-- each prefix of a whole run has begun
begun_prefix : {R : Type 0} (p : KeptInquiry R) (old : States) (found : List Value) (one rest : List Pair) (x : R) (new : Option States) →
    Runs p (Some old) found (one ++ rest) x new → (kept : States) × (more : List Value) × Begins p (Some old) more one (Some kept)
begun_prefix p old found [] rest x new h = (old, [], begins_here p (Some old))
begun_prefix (Gives r) old [] (e ∷ one) rest x new h = absurd h
begun_prefix (Gives r) old (f ∷ found) (e ∷ one) rest x new h = absurd h
begun_prefix (Puts q n) old found (e ∷ one) rest x new h =
    let r = begun_prefix (n e.1) old found one rest x new h.1 in
    (r.0, r.1, (h.0, r.2))
begun_prefix (Finds spot n) old [] (e ∷ one) rest x new h = absurd h
begun_prefix (Finds spot n) old (f ∷ found) (e ∷ one) rest x new h =
    let r = begun_prefix (n f) old found (e ∷ one) rest x new h.2 in
    (r.0, f ∷ r.1, (h.0, h.1, r.2))
begun_prefix (Leaves v p) old found (e ∷ one) rest x new h =
    let r = begun_prefix p (with_value old v) found (e ∷ one) rest x new h in
    (r.0, r.1, inr r.2)

-- ---- calls

module _ (over : ChainSetting) (old : States) where
  -- each prefix of a call's journal has begun
  pub prefix_begins : (new : States) (found : List Value) (one rest : List Pair) (out : Answer) → IsCall over old new found (one ++ rest) out → HasBegun over old one
  prefix_begins new found one rest out c =
      let r = begun_prefix (default_chain (setting over c.services)) old found one rest out (Some new) (runs_call over old new found (one ++ rest) out c) in
      (r.0, r.1, record { services = c.services; names = c.names; begins = r.2 })

  -- a beginning is a prefix of each call whose answers agree
  pub begins_call : (new newer : States) (found more : List Value) (one other : List Pair) (x : Answer) →
      IsBegunCall over old new found one → IsCall over old newer more other x → AnswerAlike one other → GoesOn found one more other
  begins_call new newer found more one other x b c alike =
      begins_whole (default_chain (setting over c.services)) old found more one other x (Some new) (Some newer)
      (subst (λ s. Begins (default_chain (setting over s)) (Some old) found one (Some new)) (one_answer over b.services c.services b.names c.names) b.begins)
      (runs_call over old newer more other x c) alike

  module _ (services : Services) (names : AreServices over services) (part : List Pair) where
    ended : IsWhole (default_chain (setting over services)) (Some old) part → HasEnded over old part
    ended w =
        let p = default_chain (setting over services) in
        let kept = kept_after p old part in
        let t = told p old w.2 w.0 part w.1 w.3 in
        (kept, w.0, w.1, is_call over services old kept w.0 part w.1 names (subst (λ n. Runs p (Some old) w.0 part w.1 n) t.1 w.3))

    asks_one : AsksOne (default_chain (setting over services)) (Some old) part → CallAsksOne over old part
    asks_one a = record {
      question = a.question;
      asked = record { services = services; names = names; next = a.asked };
      alone = λ other k. a.alone other (subst (λ s. IsNext (default_chain (setting over s)) (Some old) part other) (one_answer over k.services services k.names names) k.next);
      unfinished = λ e. a.unfinished (
        e.1,
        e.2,
        Some e.0,
        subst (λ s. Runs (default_chain (setting over s)) (Some old) e.1 part e.2 (Some e.0)) (one_answer over e.3.services services e.3.names names) (runs_call over old e.0 e.1 part e.2 e.3),
      );
    }

  -- after a beginning the call came to its end, or asks one question next
  pub ended_or_one : (new : States) (found : List Value) (part : List Pair) → IsBegunCall over old new found part → HasEnded over old part ⊎ CallAsksOne over old part
  ended_or_one new found part b = elim (whole_or_one (default_chain (setting over b.services)) old found part (Some new) b.begins) [
    | inl w ↦ inl (ended b.services b.names part w)
    | inr a ↦ inr (asks_one b.services b.names part a)
  ]
