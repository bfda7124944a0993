-- The history with the record of a load, and what is stored beside it.
use Rattle.std.proofs.Common.{rules, ◌≡◌, [], ◌∷◌, ◌++◌, sym, ◌∙◌, ap, subst}
use Rattle.cfg_world.specs.Inquiry.{Reads}
use Rattle.cfg_token.specs.declared.sections.Sectioned.TheVariants.{Load}
use Rattle.cfg_token.specs.Histories.{History, IsStored}
use Rattle.cfg_token.specs.SectionCalls.{section_on}
use Rattle.cfg_token.proofs.SectionSteps.{load_reads, ended_load, stored_load}
use Rattle.cfg_token.proofs.loads.Loads.make_load.Goals as goal

pub invariant_of-self-2 : goal.invariant_of-self-2
invariant_of-self-2 g c =
    let t = g.T.FileToken.rules in
    let h : History g.row.T.Denot g.row.T-Error.Denot = record { load = c.self.inside.load; last = c.self.inside.last; records = c.reserve.new.self.items } in
    let i : IsStored t h c.self.inside.latest.kept c.self.inside.latest.attempt c.self.inside.latest.before = rw c.reserve.ensures.items c.self.invariant.0 in
    let same : h ≡ c.args.self.now = ap (λ r. record h { records = r }) c.reserve.ensures.items ∙ c.self.view_is in
    let reads = load_reads t _ c.args.key.now c.args.env.now c.args.settings.now c.args.self.now c.args.first _ _ c.last_attempt-attempt.result c.requires.missed c.last_attempt-attempt.ensures
    _ c.load.new.receipts.items c.in_ok-loaded.loaded c.requires.clock c.in_ok-receipts.ensures c.in_ok-loaded.ensures in (
      stored_load t h c.args.key.now c.args.env.now c.args.settings.now c.load.new.receipts.items c.in_ok-loaded.loaded i.history c.requires.kind i.attempt_is
          (subst (λ x. Reads (section_on t c.args.key.now x c.args.env.now c.args.settings.now) c.load.new.receipts.items (Load c.in_ok-loaded.loaded)) (sym same) reads)
          (c.put_in_place.ensures ∙ ap (λ r. c.reserve.new.self.items ++ r ∷ []) c.in_ok-record.ensures) c.in_ok-latest.ensures.kept c.in_ok-latest.ensures.attempt c.in_ok-latest.ensures.before,
      c.in_ok-file.ensures.name,
    )

pub returns : goal.returns
returns g c =
    ended_load g.T.FileToken.rules _ c.args.key.now c.args.env.now c.args.settings.now c.args.self.now c.args.first _ _ c.last_attempt-attempt.result c.requires.missed c.last_attempt-attempt.ensures
    _ _ c.load.new.receipts.items c.in_ok-loaded.loaded c.requires.clock c.in_ok-receipts.ensures c.in_ok-loaded.ensures (search rules)
