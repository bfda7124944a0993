-- One member more has none, or this one's is the first.
use Rattle.std.proofs.Common.{◌≡◌, ◌∙◌, ℕ, List, Option, map, get_or, ap, sym}
use Rattle.std.proofs.Math.ListN.{get_or-map}
use Rattle.cfg_kept.specs.declared.kept.Kept.{Kept}
use Rattle.cfg_kept.specs.Kinds.{States}
use Rattle.cfg_kept.specs.KeptStates.{kept_key, states_of}
use Rattle.cfg_meta.proofs.FallbackSteps.{first_found, first_behind}
use Rattle.cfg_meta.proofs.MemberSteps.{same_at, same_length}
use Rattle.cfg_meta.proofs.fallback.first_fallback.Goals as goal

pub fallback_on_interrupt-requires : goal.fallback_on_interrupt-requires
fallback_on_interrupt-requires g c =
    ap kept_key c.index-kept-i.is
    ∙ same_at kept_key (λ m. g.M.ChainMember.needs m) c.args.kept.now c.args.members.now c.loop-i.i c.index-kept-i.result c.index-members-i.result c.requires c.loop-i-test.true
    ∙ ap (λ m. g.M.ChainMember.needs m) (sym c.index-members-i.is)

-- what is kept of a member, and the member, at their place
value_there : {M V : Type 0} (fallback : M → States → Option V) (members : List M) (kept : List Kept) (i : ℕ) (member : M) (one : Kept) → member ≡ get_or members i member → one ≡ get_or kept i one →
    fallback (get_or members i member) (get_or (map states_of kept) i (states_of one)) ≡ fallback member (states_of one)
value_there fallback members kept i member one is_member is_one =
    ap (λ m. fallback m (get_or (map states_of kept) i (states_of one))) (sym is_member)
    ∙ ap (λ s. fallback member s) (get_or-map states_of kept i one ∙ ap states_of (sym is_one))

pub returns-in-Some : goal.returns-in-Some
returns-in-Some g c =
    sym (c.loop-i.invariant
    ∙ first_found (λ m. g.M.FallsBack.fallback m) c.args.members.now (map states_of c.args.kept.now) c.loop-i.i c.index-members-i.result (states_of c.index-kept-i.result) c.in-Some.value
    c.loop-i-test.true (same_length kept_key (λ m. g.M.ChainMember.needs m) states_of c.args.kept.now c.args.members.now c.requires)
    (value_there (λ m. g.M.FallsBack.fallback m) c.args.members.now c.args.kept.now c.loop-i.i c.index-members-i.result c.index-kept-i.result c.index-members-i.is c.index-kept-i.is
    ∙ sym c.in_ok-value.ensures ∙ c.in-Some.is))

pub loop-i-preserved : goal.loop-i-preserved
loop-i-preserved g c =
    c.loop-i.invariant
    ∙ first_behind (λ m. g.M.FallsBack.fallback m) c.args.members.now (map states_of c.args.kept.now) c.loop-i.i c.index-members-i.result (states_of c.index-kept-i.result)
    c.loop-i-test.true (same_length kept_key (λ m. g.M.ChainMember.needs m) states_of c.args.kept.now c.args.members.now c.requires)
    (value_there (λ m. g.M.FallsBack.fallback m) c.args.members.now c.args.kept.now c.loop-i.i c.index-members-i.result c.index-kept-i.result c.index-members-i.is c.index-kept-i.is
    ∙ sym c.in_ok-value.ensures ∙ c.in_default.is)
