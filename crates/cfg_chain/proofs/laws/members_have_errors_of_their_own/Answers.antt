use Rattle.std.specs.Prelude.{Err}
use Rattle.cfg_chain.proofs.MemberCauses.{has_cause}
use Rattle.cfg_chain.proofs.MemberErrors.{member_error}
use Rattle.cfg_chain.proofs.laws.members_have_errors_of_their_own.Goals as goal

pub returns : goal.returns
returns c = λ s member found part e reads free. member_error s member found part e (has_cause s member found part (Err e) reads) free
