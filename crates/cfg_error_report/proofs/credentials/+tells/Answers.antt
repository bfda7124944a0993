-- The members stand behind the chain's own line.
use Rattle.std.proofs.Common.{◌≡◌, List, OnOk, subst}
use Rattle.cfg_error_report.specs.Lines.{Line, detail_line}
use Rattle.cfg_error_report.specs.CredentialsCauses.{error_lines}
use Rattle.std.proofs.lemmas.Result.{on_ok_weaker}
use Rattle.cfg_error_report.proofs.Told.{behind_first}
use Rattle.cfg_error_report.proofs.ChainFolds.{no_role-told, not_configured-told, not_loaded-behind}
use Rattle.cfg_error_report.proofs.credentials.+tells.Goals as goal

pub tell_not_loaded-returns-in_ok-tell_words-in-Chain : goal.tell_not_loaded-returns-in_ok-tell_words-in-Chain
tell_not_loaded-returns-in_ok-tell_words-in-Chain t c =
    subst (λ (l : List Line). OnOk c.tell_members.result (c.tell_members.new.causes ≡ l))
    (not_loaded-behind c.args.cause.now c.in-Chain.chain c.args.depth c.as_slice.result.now c.as_slice-in-Chain.result.now c.chain_words.result.now c.args.causes.now c.tell_words.new.self
    c.in-Chain.is c.chain_words.ensures c.as_slice.ensures c.as_slice-in-Chain.ensures c.in_ok-tell_words-in-Chain.ensures)
    c.tell_members.ensures

pub tell_step-returns : goal.tell_step-returns
tell_step-returns t c =
    subst (λ (l : List Line). OnOk c.tell_error.result (c.tell_error.new.causes ≡ l))
    (behind_first c.args.causes.now c.tell_detail.new.self (error_lines c.args.error.now c.args.depth) (detail_line c.args.depth c.args.words.now) c.in_ok-tell_detail.ensures)
    c.tell_error.ensures

pub tell_not_loaded-returns-in-NotConfigured : goal.tell_not_loaded-returns-in-NotConfigured
tell_not_loaded-returns-in-NotConfigured t c =
    on_ok_weaker c.tell_detailed.result (not_configured-told c.args.cause.now c.args.causes.now c.tell_detailed.new.self c.args.depth c.in-NotConfigured.is) c.tell_detailed.ensures

pub tell_not_loaded-returns-in-MetadataNoRole : goal.tell_not_loaded-returns-in-MetadataNoRole
tell_not_loaded-returns-in-MetadataNoRole t c =
    on_ok_weaker c.tell_detailed-in-MetadataNoRole.result (no_role-told c.args.cause.now c.args.causes.now c.tell_detailed-in-MetadataNoRole.new.self c.args.depth c.in-MetadataNoRole.is) c.tell_detailed-in-MetadataNoRole.ensures
