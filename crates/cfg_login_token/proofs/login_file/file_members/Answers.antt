use Rattle.std.specs.Prelude.{Result, Ok, Err}
use Rattle.cfg_types.specs.declared.document.JsonError.{JsonError}
use Rattle.cfg_json.specs.declared.member.Members.{Members}
use Rattle.cfg_json.specs.Answers.{member_list}
use Rattle.cfg_login_token.proofs.Files.{is_front, members_said, faults_said}
use Rattle.cfg_login_token.proofs.login_file.file_members.Goals as goal

pub returns-in-Ok-clause-reads : goal.returns-in-Ok-clause-reads
returns-in-Ok-clause-reads c =
    let read : Result Members JsonError = Ok c.in-Ok.members in
    members_said c.args.bytes.now c.in-Ok.members (is_front member_list c.args.bytes.now read c.in-Ok.ensures.only c.in-Ok.ensures.opens_other c.in-Ok.ensures.broken)

pub returns-in-Err-clause-reads : goal.returns-in-Err-clause-reads
returns-in-Err-clause-reads c =
    let read : Result Members JsonError = Err c.in-Err.error in
    faults_said c.args.bytes.now c.in-Err.error c.text_fault.result (is_front member_list c.args.bytes.now read c.in-Err.ensures.only c.in-Err.ensures.opens_other c.in-Err.ensures.broken) c.text_fault.ensures
