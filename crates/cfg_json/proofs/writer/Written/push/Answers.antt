use Rattle.std.proofs.lemmas.Result.{on_ok_weaker}
use Rattle.std.proofs.lemmas.Str.{IsUtf8-string_bytes}
use Rattle.cfg_json.proofs.WriterSteps.{pushed_is}
use Rattle.cfg_json.proofs.writer.Written.push.Goals as goal

pub returns : goal.returns
returns c = on_ok_weaker c.push_character.result (λ e. pushed_is _ _ c.args.self.now c.args.c (IsUtf8-string_bytes c.self.inside.inner) c.push_character.ensures.scalar c.self.view_is e) c.push_character.ensures.spelled
