use Rattle.std.proofs.Common.{rules, ◌≡◌, true, false, inl, refl, sym, ◌∙◌}
use Rattle.std.specs.Str.{bytes_eq}
use Rattle.std.proofs.lemmas.Slice.Eq.{bytes_eq-Decides}
use Rattle.cfg_base.proofs.TextLemmas.{encodes-chars}
use Rattle.caller.proofs.Counting.{counted_failure, file_read}
use Rattle.caller.proofs.devices.OneFileDevices.read.Goals as goal

clash : true ≡ false → ⊥
clash h = absurd cc

pub returns-then-ne : goal.returns-then-ne
returns-then-ne c =
    let other : bytes_eq c.args.path.now c.args.self.now.path.now ≡ false = search rules in
    counted_failure _ _ _ _ _ _ c.fail.ensures.fails c.fail.ensures.counts c.fail.ensures.rises tt
    (inl (λ h. clash (sym ((bytes_eq-Decides c.args.path.now c.args.self.now.path.now).1 (sym (encodes-chars c.args.path.now c.utf8.path) ∙ h)) ∙ other), refl))

pub returns-in-Ok : goal.returns-in-Ok
returns-in-Ok c =
    let same : c.args.path.now ≡ c.args.self.now.path.now = (bytes_eq-Decides c.args.path.now c.args.self.now.path.now).0 (search rules) in
    file_read c.args.self.now.path.now c.args.self.now.content.now c.args.path.now c.in-Ok.bytes c.args.self.now.failures same (c.in-Ok.ensures ∙ c.as_bytes.ensures.value)
