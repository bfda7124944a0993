use Rattle.std.proofs.lemmas.Str.{IsUtf8-string_bytes}
use Rattle.cfg_json.proofs.WriterSteps.{appended_is}
use Rattle.cfg_json.proofs.writer.Written.push_text.Goals as goal

pub returns : goal.returns
returns c = appended_is _ _ c.args.text.now c.args.self.now (IsUtf8-string_bytes c.self.inside.inner) c.self.view_is c.in_ok-push_str.ensures.bytes
