use Rattle.std.proofs.Common.{refl}
use Rattle.std.proofs.lemmas.Result.{on_ok_weaker}
use Rattle.std.proofs.lemmas.Str.{IsUtf8-string_bytes}
use Rattle.cfg_json.proofs.WriterSteps.{pushed_is}
use Rattle.cfg_login_token.proofs.dpop_key.push_character.Goals as goal

pub returns : goal.returns
returns c = on_ok_weaker c.push_spelled.result (λ e. pushed_is _ _ _ c.args.c (IsUtf8-string_bytes c.args.out.now) c.push_spelled.ensures.scalar refl e) c.push_spelled.ensures.spelled
