-- The receipts so far are the beginning of the section's part.
use Rattle.cfg_world.specs.Inquiry.{Begun}
use Rattle.cfg_token.specs.SectionCalls.{section_on}
use Rattle.cfg_kept_tests.proofs.sections.receipts_of.Given as goal

abbrev pub invariant-loop : goal.invariant-loop
invariant-loop g l = Begun (section_on g.T.FileToken.rules l.state.key l.state.loads l.env l.settings) l.receipts
