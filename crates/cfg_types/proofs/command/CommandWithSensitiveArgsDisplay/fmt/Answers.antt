-- The whole text where there is no white space, else what stands before it and the note.
use Rattle.std.proofs.Common.{codes, refl}
use Rattle.std.proofs.Output.{writes_in_calls_append}
use Rattle.cfg_base.proofs.StyledWrites.{styled_append, styled_is}
use Rattle.cfg_types.proofs.Commands.{whole_written, part_written}
use Rattle.cfg_types.proofs.command.CommandWithSensitiveArgsDisplay.fmt.Goals as goal

pub returns-in-None-clause-writes : goal.returns-in-None-clause-writes
returns-in-None-clause-writes g c = λ plain ok.
    let text = c.unredacted-text.ensures in
    rw (← whole_written _ _ text.chars text.bytes c.in-None.ensures) (c.write_str.ensures.writes plain ok)

pub returns-in-None-clause-styled : goal.returns-in-None-clause-styled
returns-in-None-clause-styled g c = λ flush ok.
    let text = c.unredacted-text.ensures in
    styled_is _ _ _ _ _ (whole_written _ _ text.chars text.bytes c.in-None.ensures) (c.write_str.ensures.styled flush ok)

pub returns-in_ok-write_str-in-Some-clause-writes : goal.returns-in_ok-write_str-in-Some-clause-writes
returns-in_ok-write_str-in-Some-clause-writes g c = λ plain ok.
    let first = c.in_ok-write_str-in-Some.ensures.writes plain refl in
    let second = c.write_str-in-Some-2.ensures.writes first.plain ok in
    rw (← part_written c.unredacted-text.result.now _ _ c.unredacted-text.ensures.chars c.in-Some.ensures.0 c.in-Some.ensures.1)
    (record { wrote = writes_in_calls_append g.W.Write.write_str_gives _ c.in-Some.program.now _ (codes " ** arguments redacted **") _ first.wrote second.wrote; plain = second.plain })

pub returns-in_ok-write_str-in-Some-clause-styled : goal.returns-in_ok-write_str-in-Some-clause-styled
returns-in_ok-write_str-in-Some-clause-styled g c = λ flush ok.
    let first = c.in_ok-write_str-in-Some.ensures.styled flush refl in
    styled_is _ _ _ _ _ (part_written c.unredacted-text.result.now _ _ c.unredacted-text.ensures.chars c.in-Some.ensures.0 c.in-Some.ensures.1)
    (styled_append _ _ _ _ _ _ first (c.write_str-in-Some-2.ensures.styled first.flush ok))
