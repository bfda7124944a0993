-- Where white space is found, no character before it is one.
use Rattle.std.proofs.Common.{rules, of_calls, ap, sym, ◌∙◌, ◌++◌, take, drop}
use Rattle.std.specs.Char.{is_whitespace}
use Rattle.std.proofs.lemmas.Fn.{always_returns_same}
use Rattle.std.proofs.lemmas.List.{take-append-drop}
use Rattle.cfg_types.proofs.Commands.{no_white_space, split}
use Rattle.cfg_types.proofs.command.before_white_space.Goals as goal

pub returns-in_err-before : goal.returns-in_err-before
returns-in_err-before c = rw (c.from_residual.ensures) (no_white_space _ c.utf8.text (c.in_err-before.ensures.cases is_whitespace (always_returns_same _ _ _ (λ a r f k. search (rules, of_calls)))))

pub returns : goal.returns
returns c =
    let found = c.in_ok-before.ensures.cases in
    let text = c.args.text.now in
    let told = found.2 is_whitespace (always_returns_same _ _ _ (λ a r f k. search (rules, of_calls))) in
    let cut = split text (take found.0 text) (drop found.1 text) told.1.0 c.utf8.text (sym (take-append-drop found.0 text) ∙ ap (λ back. take found.0 text ++ back) told.1.2.split) told.0 told.1.1 in
    (cut.0, found.3 ∙ cut.1)
