use Rattle.std.proofs.Common.{inr, refl, sym, ◌∙◌, rules}
use Rattle.std.proofs.lemmas.Bool.{eqb-true}
use Rattle.std.proofs.lemmas.Str.{IsUtf8-string_bytes}
use Rattle.cfg_base.specs.Text.{characters}
use Rattle.cfg_json.specs.Reading.{content_of}
use Rattle.cfg_json.proofs.StringSteps.{run_further, character_further, content_ends, content_fails}
use Rattle.cfg_json.proofs.strings.unescaped.Goals as goal

pub returns-then-is_empty : goal.returns-then-is_empty
returns-then-is_empty c =
    content_ends _ c.split_plain.result.1.now _ (eqb-true _ _ (sym c.is_empty.ensures ∙ c.if-is_empty.true))
    (run_further _ c.split_plain.result.0.now _ _ (content_of 0 (characters c.split_plain.result.1.now)) _ (IsUtf8-string_bytes c.loop-out.out) c.in_ok-push_run.ensures c.split_plain.ensures.reads c.loop-out.invariant.1)

pub returns-in_default : goal.returns-in_default
returns-in_default c =
    inr (
      refl,
      content_fails _ _ _ c.in_default.ensures.reads
          (run_further _ c.split_plain.result.0.now _ _ (content_of 0 (characters c.split_plain.result.1.now)) _ (IsUtf8-string_bytes c.loop-out.out) c.in_ok-push_run.ensures c.split_plain.ensures.reads c.loop-out.invariant.1),
    )

pub loop-out-preserved : goal.loop-out-preserved
loop-out-preserved c = (
  search rules,
  character_further _ _ c.in-Some.c _ _ _ (IsUtf8-string_bytes c.push_run.new.out) c.push_character.ensures.scalar c.in_ok-push_character.ensures.spelled c.in-Some.ensures.reads
      (run_further _ c.split_plain.result.0.now _ _ (content_of 0 (characters c.split_plain.result.1.now)) _ (IsUtf8-string_bytes c.loop-out.out) c.in_ok-push_run.ensures c.split_plain.ensures.reads c.loop-out.invariant.1),
)
