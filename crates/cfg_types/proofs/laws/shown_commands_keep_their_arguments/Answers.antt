use Rattle.std.proofs.Common.{ap, ◌∙◌, ◌++◌, if◌then◌else◌, codes, []}
use Rattle.cfg_types.specs.Commands.{program, has_white_space}
use Rattle.cfg_types.proofs.laws.shown_commands_keep_their_arguments.Goals as goal

pub returns : goal.returns
returns c = λ one other before more.
    ap (λ text. text ++ (if has_white_space one then codes " ** arguments redacted **" else [])) before
    ∙ ap (λ b. program other ++ (if b then codes " ** arguments redacted **" else [])) more
