use Rattle.std.proofs.Common.{◌≤◌, ℕ, List, length, ap, subst, ◌∙◌}
use Rattle.std.specs.List.{prefix_len}
use Rattle.cfg_json.specs.Characters.{is_plain}
use Rattle.cfg_json.proofs.PlainEnds.{run_cut, run_reads, run_stops}
use Rattle.cfg_json.proofs.strings.split_plain.Goals as goal

pub split_at-requires : goal.split_at-requires
split_at-requires c =
    run_cut c.args.text.now c.run_at.result (c.run_at.ensures.value ∙ ap (prefix_len is_plain) c.as_bytes.ensures.value)
    (subst (λ (b : List ℕ). c.run_at.result ≤ length b) c.as_bytes.ensures.value c.run_at.ensures.within)

pub returns-clause-reads : goal.returns-clause-reads
returns-clause-reads c =
    run_reads c.args.text.now c.run_at.result _ _ c.utf8.text (c.run_at.ensures.value ∙ ap (prefix_len is_plain) c.as_bytes.ensures.value)
    (subst (λ (b : List ℕ). c.run_at.result ≤ length b) c.as_bytes.ensures.value c.run_at.ensures.within) c.split_at.ensures.front c.split_at.ensures.back

pub returns-clause-stops : goal.returns-clause-stops
returns-clause-stops c = run_stops c.args.text.now c.run_at.result _ (c.run_at.ensures.value ∙ ap (prefix_len is_plain) c.as_bytes.ensures.value) c.split_at.ensures.back
