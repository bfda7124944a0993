-- One variable more.
use Rattle.std.proofs.Common.{ap, sym, ◌∙◌, map, string_bytes}
use Rattle.std.specs.FinMap.{insert}
use Rattle.std.proofs.lemmas.List.{map_push}
use Rattle.cfg_base.specs.TextMap.{named}
use Rattle.cfg_base.specs.Entries.{each_set}
use Rattle.cfg_base.proofs.MapLookups.{each_set-push}
use Rattle.cfg_types.proofs.environment.Env.new.Goals as goal

pub loop-name-preserved : goal.loop-name-preserved
loop-name-preserved c =
    c.in_ok-set.ensures.ok
    ∙ ap (λ env. insert env (string_bytes c.in-Some.name) c.in-Some.value) c.loop-name.invariant
    ∙ sym (each_set-push (map named c.loop-name.yielded) (named (c.in-Some.name, c.in-Some.value)))
    ∙ ap each_set (sym (map_push named c.loop-name.yielded (c.in-Some.name, c.in-Some.value)))
