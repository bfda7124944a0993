use Rattle.cfg_error_report.proofs.ShownNames.{shown_words}
use Rattle.cfg_error_report.proofs.laws.a_profiles_error_is_told_as_it_is_shown.Goals as goal

pub returns : goal.returns
returns c = λ error text h. shown_words error text h
