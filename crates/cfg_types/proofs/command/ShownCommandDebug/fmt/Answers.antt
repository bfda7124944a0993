-- The Debug text of the whole text where there is no white space, else of what stands before it and the note.
use Rattle.std.proofs.Common.{ap}
use Rattle.std.specs.Fmt.{debug_str}
use Rattle.std.proofs.Output.{displays_on_ok_of_eq}
use Rattle.cfg_types.proofs.Commands.{whole_written, part_written}
use Rattle.cfg_types.proofs.command.ShownCommandDebug.fmt.Goals as goal

pub returns-in-None : goal.returns-in-None
returns-in-None g c =
    let text = c.as_str-text.ensures in
    record { writes = displays_on_ok_of_eq g.W.Write.write_str_gives c.args.f.now c.fmt.new.f c.fmt.result _ _ (ap debug_str (whole_written _ _ text.chars text.bytes c.in-None.ensures)) c.fmt.ensures.writes }

pub returns-in-Some : goal.returns-in-Some
returns-in-Some g c =
    let text = c.as_str-text.ensures in
    record {
      writes = displays_on_ok_of_eq g.W.Write.write_str_gives c.args.f.now c.write_redacted.new.f c.write_redacted.result _ _
          (ap debug_str (part_written c.as_str-text.result.now _ _ text.chars c.in-Some.ensures.0 c.in-Some.ensures.1)) c.write_redacted.ensures;
    }
