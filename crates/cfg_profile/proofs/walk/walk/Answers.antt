-- The table's answer ends the path, or lengthens it.
use Rattle.std.proofs.Common.{◌≡◌, ℕ, List, [], ◌∷◌, ◌++◌, map, length, Some, sym, ap, ◌∙◌, Bor, arith, length-append, subst, rules}
use Rattle.std.specs.Prelude.{is_some}
use Rattle.std.specs.FinMap.{get}
use Rattle.std.proofs.lemmas.List.{flat_map_more, map-append, length-map}
use Rattle.cfg_base.specs.TextMap.{Named}
use Rattle.cfg_profile.specs.SectionParts.{SectionParts}
use Rattle.cfg_profile.specs.Paths.{has_name, is_empty}
use Rattle.cfg_profile.specs.Plans.{sections_of, one_or_none}
use Rattle.cfg_profile.specs.Seen.{on_set}
use Rattle.cfg_profile.proofs.Trails.{IsTrail}
use Rattle.cfg_profile.proofs.Emptiness.{empty_is}
use Rattle.cfg_profile.proofs.PathTrails.{next_of, visited_more, same_ending, path_of, trail_more, no_longer_than}
use Rattle.cfg_profile.proofs.walk.walk.Goals as goal

sections_more : (profiles : Named SectionParts) (names : List (List ℕ)) (name : List ℕ) (s : SectionParts) → get profiles name ≡ Some s → sections_of profiles (names ++ name ∷ []) ≡ sections_of profiles names ++ s ∷ []
sections_more profiles names name s h =
    sym (flat_map_more (λ n. one_or_none (get profiles n)) [] names name) ∙ ap (λ o. sections_of profiles names ++ one_or_none o) h

pub returns-in-EndsAt : goal.returns-in-EndsAt
returns-in-EndsAt c =
    let before = map (λ (n : Bor (List ℕ)). n.now) c.loop-visited.names.items in
    let seen = visited_more c.loop-visited.visited c.insert.new.self c.loop-visited.last_name before c.in_ok-insert.ensures.updates c.loop-visited.invariant.visited in
    record {
      path = path_of c.args.set.now.profiles c.args.selected.now before c.loop-visited.last_name.now c.loop-visited.last.now _
          (ap is_some c.requires) c.loop-visited.invariant.trail c.loop-visited.invariant.stands
          (sym (same_ending c.args.set.now.profiles c.loop-visited.last.now (on_set c.insert.new.self) (has_name (before ++ c.loop-visited.last_name.now ∷ [])) c.is_empty.result (is_empty before) seen (empty_is c.loop-visited.names c.is_empty.result c.is_empty.ensures)) ∙ c.in-EndsAt.ensures);
      sections = c.loop-visited.invariant.sections;
    }

pub loop-visited-smaller : goal.loop-visited-smaller
loop-visited-smaller c =
    let names = map (λ (n : Bor (List ℕ)). n.now) c.loop-visited.names.items in
    let short = no_longer_than c.args.set.now.profiles c.args.selected.now (names ++ c.loop-visited.last_name.now ∷ []) (ap is_some c.requires) c.loop-visited.invariant.trail in
    let pushed = ap length c.in_ok-push-in-On.ensures.items in
    omega (arith, short, pushed, length-append names (c.loop-visited.last_name.now ∷ []), length-append c.loop-visited.names.items (c.loop-visited.last_name ∷ []), length-map c.loop-visited.names.items (λ (n : Bor (List ℕ)). n.now))

pub loop-visited-preserved : goal.loop-visited-preserved
loop-visited-preserved c =
    let profiles = c.args.set.now.profiles in
    let before = map (λ (n : Bor (List ℕ)). n.now) c.loop-visited.names.items in
    let last = c.loop-visited.last_name.now in
    let seen = visited_more c.loop-visited.visited c.insert.new.self c.loop-visited.last_name before c.in_ok-insert.ensures.updates c.loop-visited.invariant.visited in
    let table = same_ending profiles c.loop-visited.last.now (on_set c.insert.new.self) (has_name (before ++ last ∷ [])) c.is_empty.result (is_empty before) seen (empty_is c.loop-visited.names c.is_empty.result c.is_empty.ensures) in
    let names : map (λ (n : Bor (List ℕ)). n.now) c.push.new.self.items ≡ before ++ last ∷ [] =
    ap (map (λ (n : Bor (List ℕ)). n.now)) c.in_ok-push-in-On.ensures.items ∙ map-append (λ (n : Bor (List ℕ)). n.now) c.loop-visited.names.items (c.loop-visited.last_name ∷ []) in
    record {
      text = search rules;
      trail = let P : List (List ℕ) → Type 0 = λ ns. IsTrail (next_of profiles) c.args.selected.now (ns ++ c.in-On.next.now ∷ []) in
          subst P (sym names) (trail_more profiles c.args.selected.now before last c.in-On.next.now c.loop-visited.last.now c.loop-visited.invariant.trail c.loop-visited.invariant.stands (sym table ∙ c.in-On.ensures.not_here) c.in-On.ensures.source);
      stands = c.in-On.ensures.there;
      sections =
          ap (map (λ (s : Bor SectionParts). s.now)) c.in_ok-push-in-On-2.ensures.items
          ∙ map-append (λ (s : Bor SectionParts). s.now) c.loop-visited.sections.items (c.loop-visited.last ∷ [])
          ∙ ap (λ xs. xs ++ c.loop-visited.last.now ∷ []) c.loop-visited.invariant.sections
          ∙ sym (sections_more profiles before last c.loop-visited.last.now c.loop-visited.invariant.stands)
          ∙ ap (sections_of profiles) (sym names);
      visited = λ q. seen q ∙ ap (λ ns. has_name ns q) (sym names);
    }
