-- The index has the place of the write that was added.
use Rattle.std.proofs.Common.{◌≡◌, rules, length, ap, sym, ◌∙◌, subst, List, ℕ, string_bytes}
use Rattle.std.specs.FinMap.{insert}
use Rattle.std.specs.Str.{encode_utf8_all}
use Rattle.cfg_base.specs.Text.{characters}
use Rattle.cfg_base.specs.TextMap.{Named}
use Rattle.cfg_base.proofs.TextLemmas.{encodes-chars}
use Rattle.cfg_world.specs.Paths.{Finds}
use Rattle.cfg_world.proofs.PathIndex.{finds_more}
use Rattle.cfg_world.proofs.script.writes.Writes.push.Goals as goal

pub invariant_of-self-in-Ok : goal.invariant_of-self-in-Ok
invariant_of-self-in-Ok c =
    let name = string_bytes c.in_ok-name.name in
    let path = c.args.path.now in
    let at : c.len-at.result ≡ length c.self.inside.entries.items = search rules in
    subst (λ (m : Named ℕ). Finds m c.push.new.self.items) (sym c.in-Ok.ensures.ok)
    (subst (λ (es : List (List ℕ × List ℕ)). Finds (insert c.self.inside.index name c.len-at.result) es) (sym c.in_ok-push.ensures.items)
    (finds_more c.self.inside.index c.self.inside.entries.items name c.in_ok-of.field-0 c.in_ok-of-2.field-0 c.len-at.result at
    (c.in_ok-name.ensures.ok ∙ sym (encodes-chars path c.utf8.path) ∙ ap encode_utf8_all (sym c.in_ok-of.ensures))
    (ap characters c.in_ok-name.ensures.ok ∙ sym c.in_ok-of.ensures)
    c.self.invariant))
