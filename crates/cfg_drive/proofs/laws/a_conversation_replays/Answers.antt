-- By what the devices of scripts allow, and the one list of lines of a script.
use Rattle.std.proofs.Common.{[], is_ok}
use Rattle.cfg_chain.specs.Settings.{with_sources}
use Rattle.cfg_script.specs.Devices.{lists_of}
use Rattle.cfg_program.specs.declared.causes.Below.TheVariants.{Nothing}
use Rattle.cfg_program.specs.declared.lines.LineForm.TheVariants.{Call}
use Rattle.cfg_program.specs.Calls.{configuration_of}
use Rattle.cfg_program.specs.Lines.{shown}
use Rattle.cfg_program.proofs.OneList.{one_list}
use Rattle.cfg_drive.specs.Conversations.{journal_of}
use Rattle.cfg_drive.specs.Replays.{script_made}
use Rattle.cfg_drive.proofs.Replaying.{replays}
use Rattle.cfg_drive.proofs.laws.a_conversation_replays.Goals as goal

pub returns-clause-writes : goal.returns-clause-writes
returns-clause-writes c = replays

pub returns-clause-alone : goal.returns-clause-alone
returns-clause-alone c = λ first xs out is_credentials lines r answers.
    one_list (with_sources (configuration_of first) []) (lists_of (script_made first xs)) (script_made first xs).calls (Call Nothing)
    is_credentials (is_ok out) lines (shown out (journal_of xs)) answers (replays first xs out r)
