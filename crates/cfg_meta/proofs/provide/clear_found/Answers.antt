-- One more has nothing found.
use Rattle.std.proofs.Common.{◌≡◌, ◌<◌, ◌+◌, ◌++◌, ◌∙◌, ℕ, List, [], map, length, take, drop, get_or, set, ap, sym, arith}
use Rattle.std.proofs.Math.ListN.{get_or-map}
use Rattle.std.proofs.Math.Seq.{map-set_same}
use Rattle.std.proofs.lemmas.List.{map-set, length-map}
use Rattle.std.proofs.lemmas.List.Edits.{map_over_more}
use Rattle.cfg_kept.specs.declared.kept.Kept.{Kept}
use Rattle.cfg_kept.specs.FoundValues.{bare}
use Rattle.cfg_kept.specs.KeptStates.{kept_key, states_of}
use Rattle.cfg_meta.specs.MemberParts.{Keeping, keeping_of, with_nothing_found}
use Rattle.cfg_meta.proofs.provide.clear_found.Goals as goal

cleared : (old new : Kept) → new.found.items ≡ [] → states_of new ≡ states_of old → keeping_of new ≡ with_nothing_found (keeping_of old)
cleared old new none same = λ i. record { states = same i; found = map bare (none i) }

one_more : (xs : List Keeping) (kept : List Kept) (i : ℕ) (old new : Kept) → i < length xs → map keeping_of kept ≡ map with_nothing_found (take i xs) ++ drop i xs → old ≡ get_or kept i old →
    new.found.items ≡ [] → states_of new ≡ states_of old → map keeping_of (set kept i new) ≡ map with_nothing_found (take (i + 1) xs) ++ drop (i + 1) xs
one_more xs kept i old new lt so_far is none same =
    map-set keeping_of kept i new
    ∙ ap (λ k. set (map keeping_of kept) i k) (cleared old new none same)
    ∙ map_over_more with_nothing_found xs (map keeping_of kept) i (keeping_of old) lt so_far (ap keeping_of is ∙ sym (get_or-map keeping_of kept i old))

pub loop-one-preserved : goal.loop-one-preserved
loop-one-preserved c =
    let lt = c.loop-one-test.true in
    let below : c.loop-one.one-index < length (map keeping_of c.args.kept.now) = omega (arith, length-map c.args.kept.now keeping_of) in
    record {
      found = one_more (map keeping_of c.args.kept.now) c.loop-one.kept c.loop-one.one-index c.one-item.result c.clear_found.new.self below c.loop-one.invariant.found c.one-item.is c.clear_found.ensures.found
          (c.clear_found.ensures.kept ∙ ap states_of (sym c.one-item.is));
      keys = map-set_same kept_key c.loop-one.kept c.loop-one.one-index c.clear_found.new.self c.one-item.result c.clear_found.ensures.key ∙ c.loop-one.invariant.keys;
    }
