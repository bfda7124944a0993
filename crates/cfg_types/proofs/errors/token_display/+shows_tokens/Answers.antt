-- A chain's text goes down to its attempts; the loop writes one attempt more.
use Rattle.std.proofs.Common.{◌<◌, length, sym, ap, ◌∙◌, arith}
use Rattle.std.proofs.Output.{displays_on_ok_of_eq}
use Rattle.cfg_types.specs.ChainTexts.{chain_text}
use Rattle.cfg_types.specs.TokenChainTexts.{token_line, token_cause_text}
use Rattle.cfg_types.proofs.ChainLines.{attempts_step}
use Rattle.cfg_types.proofs.TokenChainFolds.{token_cause-chain}
use Rattle.cfg_types.proofs.errors.token_display.+shows_tokens.Goals as goal

pub TokenCauseDisplay::fmt-returns-in-Chain-clause-writes : goal.TokenCauseDisplay::fmt-returns-in-Chain-clause-writes
TokenCauseDisplay::fmt-returns-in-Chain-clause-writes g t c =
    displays_on_ok_of_eq g.W.Write.write_str_gives c.args.f.now c.write_token_chain.new.f c.write_token_chain.result (chain_text token_line c.as_slice.result.now) (token_cause_text c.args.self.now)
    (ap (chain_text token_line) c.as_slice.ensures ∙ sym (token_cause-chain c.in-Chain.chain) ∙ ap token_cause_text (sym c.in-Chain.is)) c.write_token_chain.ensures

pub write_token_attempts-loop-attempt-preserved : goal.write_token_attempts-loop-attempt-preserved
write_token_attempts-loop-attempt-preserved g t c =
    let within : c.loop-attempt.attempt-index < length c.args.attempts.now = omega arith in
    attempts_step g.W.Write.write_str_gives token_line c.args.attempts.now c.loop-attempt.attempt-index c.attempt-item.result c.args.f.now c.loop-attempt.f c.around.new.f c.write_token_line.new.f
    within c.attempt-item.is c.loop-attempt.invariant c.in_ok-around.ensures.writes c.in_ok-write_token_line.ensures
