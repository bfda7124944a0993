use Rattle.std.proofs.Common.{◌≡◌, ℕ, ◌+◌, ◌∷◌, List, false, sym, ap, subst, ◌∙◌, Some, length, arith}
use Rattle.std.proofs.lemmas.Bool.{ne_eqb}
use Rattle.std.proofs.lemmas.Str.{IsCharBoundary-from_drop}
use Rattle.cfg_base.specs.Text.{characters}
use Rattle.cfg_json.specs.Ascii.{backslash}
use Rattle.cfg_json.specs.Characters.{is_plain}
use Rattle.cfg_json.specs.Reads.{◌>>=◌}
use Rattle.cfg_json.specs.Reading.{content_of}
use Rattle.cfg_json.specs.Scans.{ReadsNothing, StopsAt}
use Rattle.cfg_json.proofs.EscapeSteps.{no_content, no_escape, after_escape}
use Rattle.cfg_json.proofs.PlainEnds.{stop_small}
use Rattle.cfg_json.proofs.strings.read_escape.Goals as goal

pub returns-then-x-ne92-clause-reads : goal.returns-then-x-ne92-clause-reads
returns-then-x-ne92-clause-reads c =
    let is : c.args.text.now ≡ c.in_ok-x.x.now ∷ c.in_ok-x.behind.now = sym c.as_bytes.ensures.value ∙ c.in_ok-x.ensures.cases.0 in
    let stops : is_plain c.in_ok-x.x.now ≡ false = subst StopsAt is c.requires.stops in
    no_content c.args.text.now c.in_ok-x.x.now c.in_ok-x.behind.now is c.utf8.text (stop_small c.in_ok-x.x.now stops) stops (ne_eqb c.in_ok-x.x.now backslash c.if-x-ne92.true)

pub returns-in_err-c-clause-reads : goal.returns-in_err-c-clause-reads
returns-in_err-c-clause-reads c =
    let is : c.args.text.now ≡ backslash ∷ c.in_ok-x.behind.now = sym c.as_bytes.ensures.value ∙ c.in_ok-x.ensures.cases.0 ∙ ap (λ (x : ℕ). x ∷ c.in_ok-x.behind.now) c.if-x-ne92.false in
    let nothing : ReadsNothing c.args.text.now = no_escape c.args.text.now c.in_ok-x.behind.now is c.utf8.text (sym c.in_err-c.ensures.value) in
    rw c.from_residual-in_err-c.ensures nothing

pub split_at-requires : goal.split_at-requires
split_at-requires c =
    let is : c.args.text.now ≡ backslash ∷ c.in_ok-x.behind.now = sym c.as_bytes.ensures.value ∙ c.in_ok-x.ensures.cases.0 ∙ ap (λ (x : ℕ). x ∷ c.in_ok-x.behind.now) c.if-x-ne92.false in
    let a = after_escape c.args.text.now c.in_ok-x.behind.now c.in_ok-c.c c.in_ok-c.n is c.utf8.text (sym c.in_ok-c.ensures.value) in
    let long : length c.args.text.now ≡ length (backslash ∷ c.in_ok-x.behind.now) = ap length is in
    IsCharBoundary-from_drop c.args.text.now (c.in_ok-c.n + 1) (omega (arith, long, c.in_ok-c.ensures.within)) a.utf8

pub returns-clause-reads : goal.returns-clause-reads
returns-clause-reads c =
    let is : c.args.text.now ≡ backslash ∷ c.in_ok-x.behind.now = sym c.as_bytes.ensures.value ∙ c.in_ok-x.ensures.cases.0 ∙ ap (λ (x : ℕ). x ∷ c.in_ok-x.behind.now) c.if-x-ne92.false in
    let a = after_escape c.args.text.now c.in_ok-x.behind.now c.in_ok-c.c c.in_ok-c.n is c.utf8.text (sym c.in_ok-c.ensures.value) in
    a.reads ∙ ap (λ (r : List ℕ). content_of 0 (characters r) >>= λ s. Some (c.in_ok-c.c ∷ s)) (sym c.split_at.ensures.back)
