use Rattle.cfg_token.proofs.KeptUses.{kept_is_used}
use Rattle.cfg_token.proofs.SectionRows.{rows_of_section}
use Rattle.cfg_token.proofs.laws.a_kept_token_is_handed_out_by_one_reading.Goals as goal

pub returns : goal.returns
returns g c = λ t key env settings kept last part made h. kept_is_used t key env settings kept last part made (rows_of_section t key env settings last kept part made h)
