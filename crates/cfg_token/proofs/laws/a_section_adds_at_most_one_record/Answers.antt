use Rattle.std.proofs.Common.{sym, subst}
use Rattle.cfg_token.specs.Histories.{AddsAtMostOne}
use Rattle.cfg_token.proofs.HistorySteps.{adds_at_most_one}
use Rattle.cfg_token.proofs.laws.a_section_adds_at_most_one_record.Goals as goal

pub returns : goal.returns
returns g c = λ key env settings old new before later given a. subst (AddsAtMostOne before) (sym a.ends.history) (adds_at_most_one before a.ends.part a.made)
