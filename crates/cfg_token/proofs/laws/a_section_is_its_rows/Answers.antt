use Rattle.cfg_token.proofs.SectionRows.{rows_of_section, section_of_rows}
use Rattle.cfg_token.proofs.laws.a_section_is_its_rows.Goals as goal

pub returns : goal.returns
returns g c = λ t key env settings kept last part made. (rows_of_section t key env settings last kept part made, section_of_rows t key env settings last kept part made)
