-- One name more.
use Rattle.std.proofs.Common.{◌≡◌, Bor, String, Global, ap, sym, ◌∙◌, map, string_bytes, rules, refl}
use Rattle.std.specs.FinMap.{insert}
use Rattle.std.proofs.lemmas.List.{map_push}
use Rattle.cfg_base.specs.TextMap.{named}
use Rattle.cfg_base.specs.Entries.{each_set}
use Rattle.cfg_base.proofs.MapLookups.{each_set-push}
use Rattle.cfg_base.proofs.MapCopies.{lent, goes_on, ends, each_set-named}
use Rattle.cfg_base.proofs.text_map.TextMapTryCopy.copy.Goals as goal

pub loop-name-init : goal.loop-name-init
loop-name-init g c = (c.in_ok-copied.ensures, refl)

pub loop-name-preserved : goal.loop-name-preserved
loop-name-preserved g c =
    let name : string_bytes c.in_ok-clone.field-0 ≡ string_bytes c.in-Some.name.now = search rules in
    let entry : Bor (String Global) × Bor g.row.V.Denot = (c.in-Some.name, c.in-Some.value) in (
      c.in_ok-set.ensures.ok
          ∙ (λ i. insert (c.loop-name.invariant.0 i) (name i) (c.in_ok-copy.ensures i))
          ∙ sym (each_set-push (map named (map lent c.loop-name.yielded)) (named (lent entry)))
          ∙ ap each_set (sym (map_push named (map lent c.loop-name.yielded) (lent entry)) ∙ ap (map named) (sym (map_push lent c.loop-name.yielded entry))),
      goes_on c.loop-name.yielded entry c.loop-name.name-iterator c.next.new.self _ c.loop-name.invariant.1 (search rules),
    )

pub returns : goal.returns
returns g c =
    let all = ends c.loop-name.yielded c.loop-name.name-iterator _ c.loop-name.invariant.1 (search rules) ∙ c.into_iter-name-iterator.ensures.into_iter_gives ∙ c.iter-name-items.ensures.rest in
    c.loop-name.invariant.0
    ∙ ap (λ es. each_set (map named es)) all
    ∙ each_set-named c.self.inside.entries.entries c.iter-name-items.ensures.unique
    ∙ c.self.view_is
