-- The characters are written one by one; of an ASCII program they are its bytes.
use Rattle.std.proofs.Common.{◌≡◌, ap, sym, ◌∙◌, ◌∷◌, ◌++◌, [], true, refl}
use Rattle.std.specs.Char.{is_ascii}
use Rattle.std.specs.List.{flat_map, list_all}
use Rattle.std.specs.Fmt.{debug_escape}
use Rattle.std.proofs.Output.{has_written_append, has_written_of_eq}
use Rattle.std.proofs.lemmas.Iterator.{YieldsList-from_chars}
use Rattle.std.proofs.lemmas.Iterator.Consumers.{YieldsList-end}
use Rattle.std.proofs.lemmas.List.{flat_map_more, map-id}
use Rattle.cfg_types.specs.Commands.{note}
use Rattle.cfg_types.proofs.Escapes.{one_more, last_one, chars_ascii, whole_text, told_if}
use Rattle.cfg_types.proofs.command.write_redacted.Goals as goal

pub loop-c-init : goal.loop-c-init
loop-c-init g c = λ ascii plain. c.in_ok-write_str.ensures.writes plain refl

pub loop-c-preserved : goal.loop-c-preserved
loop-c-preserved g c = λ ascii plain.
    let each = one_more c.loop-c.yielded (c.in-Some.c ∷ []) ascii in
    let so_far = c.loop-c.invariant each.0 plain in
    has_written_of_eq _ _ _ _ _ (flat_map_more (debug_escape 34) (34 ∷ []) c.loop-c.yielded c.in-Some.c)
    (has_written_append _ _ _ _ _ _ so_far (c.in_ok-write_escaped.ensures (last_one c.in-Some.c each.1) so_far.plain refl))

pub returns : goal.returns
returns g c =
    let program = c.args.program.now in
    told_if g.W.Write.write_str_gives c.args.f.now c.write_str-2.new.self c.write_str-2.result (list_all is_ascii (program ++ note)) _ (λ ascii plain ok.
    let each = (one_more program note ascii).0 in
    let end = YieldsList-end (YieldsList-from_chars program c.utf8.program cc) c.loop-c.yielded _ c.loop-c.yielded_by _ _ c.in-None.is c.next.ensures.steps in
    let all : c.loop-c.yielded ≡ program = sym (map-id c.loop-c.yielded) ∙ end.0 ∙ chars_ascii program each in
    let so_far = c.loop-c.invariant (ap (list_all is_ascii) all ∙ each) plain in
    has_written_of_eq _ _ _ _ _ (ap (λ l. (34 ∷ flat_map (debug_escape 34) l) ++ (note ++ 34 ∷ [])) all ∙ whole_text program)
    (has_written_append _ _ _ _ _ _ so_far (c.write_str-2.ensures.writes so_far.plain ok)))
