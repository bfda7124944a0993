-- Each arm writes what stands for its character.
use Rattle.std.proofs.Common.{ap, sym, ◌∙◌, arith}
use Rattle.std.specs.Fmt.{debug_escape}
use Rattle.std.proofs.Output.{has_written_of_eq}
use Rattle.std.proofs.lemmas.Str.{encode_ascii}
use Rattle.cfg_types.specs.Commands.{code_text}
use Rattle.cfg_types.proofs.Escapes as escapes
use Rattle.cfg_types.proofs.command.write_escaped.Goals as goal

pub returns-in-0 : goal.returns-in-0
returns-in-0 g c = λ ascii plain ok. has_written_of_eq _ _ _ _ _ (sym escapes.nul ∙ ap (debug_escape 34) (sym c.in-0.is)) (c.write_str.ensures.writes plain ok)

pub returns-in-9 : goal.returns-in-9
returns-in-9 g c = λ ascii plain ok. has_written_of_eq _ _ _ _ _ (sym escapes.tab ∙ ap (debug_escape 34) (sym c.in-9.is)) (c.write_str-in-9.ensures.writes plain ok)

pub returns-in-10 : goal.returns-in-10
returns-in-10 g c = λ ascii plain ok. has_written_of_eq _ _ _ _ _ (sym escapes.new_line ∙ ap (debug_escape 34) (sym c.in-10.is)) (c.write_str-in-10.ensures.writes plain ok)

pub returns-in-13 : goal.returns-in-13
returns-in-13 g c = λ ascii plain ok. has_written_of_eq _ _ _ _ _ (sym escapes.carriage_return ∙ ap (debug_escape 34) (sym c.in-13.is)) (c.write_str-in-13.ensures.writes plain ok)

pub returns-in-34 : goal.returns-in-34
returns-in-34 g c = λ ascii plain ok. has_written_of_eq _ _ _ _ _ (sym escapes.quotation_mark ∙ ap (debug_escape 34) (sym c.in-34.is)) (c.write_str-in-34.ensures.writes plain ok)

pub returns-in-92 : goal.returns-in-92
returns-in-92 g c = λ ascii plain ok. has_written_of_eq _ _ _ _ _ (sym escapes.backslash ∙ ap (debug_escape 34) (sym c.in-92.is)) (c.write_str-in-92.ensures.writes plain ok)

pub returns-in-32-to-126 : goal.returns-in-32-to-126
returns-in-32-to-126 g c = λ ascii plain ok.
    has_written_of_eq _ _ _ _ _ (encode_ascii c.args.c (omega arith) ∙ sym (escapes.stands_itself c.args.c (omega arith) (omega arith) (omega arith) (omega arith))) (c.write_char.ensures.writes plain ok)

pub returns-in-127 : goal.returns-in-127
returns-in-127 g c = λ ascii plain ok. has_written_of_eq _ _ _ _ _ (sym escapes.delete ∙ ap (debug_escape 34) (sym c.in-127.is)) (c.write_str-in-127.ensures.writes plain ok)

pub returns-in-1-to-31 : goal.returns-in-1-to-31
returns-in-1-to-31 g c = λ ascii plain ok.
    has_written_of_eq _ _ _ _ _ (ap code_text c.from.ensures ∙ sym (escapes.below_space c.args.c (omega arith) (omega arith) (omega arith) (omega arith) (omega arith))) (c.write_code.ensures plain ok)
