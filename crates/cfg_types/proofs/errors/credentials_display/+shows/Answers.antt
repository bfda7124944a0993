-- A chain's text goes down to its attempts; the loop writes one attempt more.
use Rattle.std.proofs.Common.{◌<◌, length, sym, ap, ◌∙◌, arith}
use Rattle.std.proofs.Output.{displays_on_ok_of_eq}
use Rattle.cfg_types.specs.ChainTexts.{chain_text, credentials_line, not_loaded_text}
use Rattle.cfg_types.proofs.ChainLines.{attempts_step}
use Rattle.cfg_types.proofs.ChainFolds.{not_loaded-chain}
use Rattle.cfg_types.proofs.errors.credentials_display.+shows.Goals as goal

pub NotLoadedCauseDisplay::fmt-returns-in-Chain-clause-writes : goal.NotLoadedCauseDisplay::fmt-returns-in-Chain-clause-writes
NotLoadedCauseDisplay::fmt-returns-in-Chain-clause-writes g t c =
    displays_on_ok_of_eq g.W.Write.write_str_gives c.args.f.now c.write_chain.new.f c.write_chain.result (chain_text credentials_line c.as_slice.result.now) (not_loaded_text c.args.self.now)
    (ap (chain_text credentials_line) c.as_slice.ensures ∙ sym (not_loaded-chain c.in-Chain.chain) ∙ ap not_loaded_text (sym c.in-Chain.is)) c.write_chain.ensures

pub write_attempts-loop-attempt-preserved : goal.write_attempts-loop-attempt-preserved
write_attempts-loop-attempt-preserved g t c =
    let within : c.loop-attempt.attempt-index < length c.args.attempts.now = omega arith in
    attempts_step g.W.Write.write_str_gives credentials_line c.args.attempts.now c.loop-attempt.attempt-index c.attempt-item.result c.args.f.now c.loop-attempt.f c.around.new.f c.write_line.new.f
    within c.attempt-item.is c.loop-attempt.invariant c.in_ok-around.ensures.writes c.in_ok-write_line.ensures
