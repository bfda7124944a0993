-- The attempts so far are written.
use Rattle.std.proofs.Common.{Ok, take}
use Rattle.std.specs.Fmt.{DisplaysOnOk}
use Rattle.cfg_types.specs.ChainTexts.{attempts_text}
use Rattle.cfg_types.specs.TokenChainTexts.{token_line}
use Rattle.cfg_types.proofs.errors.token_display.+shows_tokens.Given as goal

abbrev pub invariant-write_token_attempts-loop-attempt : goal.invariant-write_token_attempts-loop-attempt
invariant-write_token_attempts-loop-attempt g l = DisplaysOnOk g.W.Write.write_str_gives l.initial.f (Ok tt) (attempts_text token_line (take l.attempt-index l.attempts)) l.f
