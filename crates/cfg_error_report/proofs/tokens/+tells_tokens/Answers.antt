-- The members stand behind the chain's own line.
use Rattle.std.proofs.Common.{◌≡◌, List, OnOk, subst}
use Rattle.cfg_error_report.specs.Lines.{Line}
use Rattle.cfg_error_report.proofs.ChainFolds.{token_cause-behind}
use Rattle.cfg_error_report.proofs.tokens.+tells_tokens.Goals as goal

pub tell_token_cause-returns-in_ok-tell_words-in-Chain : goal.tell_token_cause-returns-in_ok-tell_words-in-Chain
tell_token_cause-returns-in_ok-tell_words-in-Chain t c =
    subst (λ (l : List Line). OnOk c.tell_token_members.result (c.tell_token_members.new.causes ≡ l))
    (token_cause-behind c.args.cause.now c.in-Chain.chain c.args.depth c.as_slice.result.now c.as_slice-in-Chain.result.now c.chain_words.result.now c.args.causes.now c.tell_words.new.self
    c.in-Chain.is c.chain_words.ensures c.as_slice.ensures c.as_slice-in-Chain.ensures c.in_ok-tell_words-in-Chain.ensures)
    c.tell_token_members.ensures
