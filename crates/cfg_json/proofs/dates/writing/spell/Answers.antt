use Rattle.std.proofs.lemmas.Result.{IfOk-weaker}
use Rattle.cfg_json.proofs.DatesWritten.{not_utf8, text_of_date}
use Rattle.cfg_json.proofs.dates.writing.spell.Goals as goal

pub unreachable-requires : goal.unreachable-requires
unreachable-requires c = not_utf8 c.args.local c.args.nanos c.in_ok-bytes.bytes.items c.as_slice.result.now c.requires.exists c.requires.below c.in_ok-bytes.ensures c.as_slice.ensures.value c.in-None.ensures

pub returns : goal.returns
returns c =
    IfOk-weaker c.of.result _ _ (λ t e. text_of_date c.args.local c.args.nanos c.in_ok-bytes.bytes.items c.as_slice.result.now c.in-Some.text.now t c.requires.exists c.requires.below c.in_ok-bytes.ensures c.as_slice.ensures.value c.in-Some.ensures e) c.of.ensures
