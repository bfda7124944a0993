-- What the map has at the name is what the variable reads as.
use Rattle.std.proofs.Common.{sym, ap, ◌∙◌, Some, Ok}
use Rattle.std.specs.FinMap.{get}
use Rattle.std.specs.Str.{encode_utf8_all}
use Rattle.cfg_types.specs.Environment.{read_value}
use Rattle.cfg_types.proofs.environment.Env.get.Goals as goal

pub returns-in-None-clause-value : goal.returns-in-None-clause-value
returns-in-None-clause-value c = ap (λ m. read_value (get m c.args.name.now)) (sym c.self.view_is) ∙ ap read_value (sym c.in-None.ensures)

pub returns-in-Some-NotUnicode-clause-value : goal.returns-in-Some-NotUnicode-clause-value
returns-in-Some-NotUnicode-clause-value c =
    ap (λ m. read_value (get m c.args.name.now)) (sym c.self.view_is)
    ∙ ap read_value (sym c.in-Some-NotUnicode.ensures)
    ∙ ap (λ v. read_value (Some v)) c.in-Some-NotUnicode.field-0-is

pub returns-in-Some-Text-clause-value : goal.returns-in-Some-Text-clause-value
returns-in-Some-Text-clause-value c =
    ap (λ m. read_value (get m c.args.name.now)) (sym c.self.view_is)
    ∙ ap read_value (sym c.in-Some-Text.ensures)
    ∙ ap (λ v. read_value (Some v)) c.in-Some-Text.field-0-is
    ∙ ap Ok (sym c.as_str.ensures.chars)

pub returns-in-Some-Text-clause-bytes : goal.returns-in-Some-Text-clause-bytes
returns-in-Some-Text-clause-bytes c = c.as_str.ensures.bytes ∙ ap encode_utf8_all (sym c.as_str.ensures.chars)
