use Rattle.cfg_json.specs.Lookups.{text_under, number_under}
use Rattle.cfg_json.proofs.LookupLaws.{last_is_given, nothing_is_given}
use Rattle.cfg_json.proofs.laws.the_last_of_a_name_counts.Goals as goal

pub returns-clause-text : goal.returns-clause-text
returns-clause-text c = λ name other members text. last_is_given (text_under name other) members text

pub returns-clause-no_text : goal.returns-clause-no_text
returns-clause-no_text c = λ name other members. nothing_is_given (text_under name other) members

pub returns-clause-number : goal.returns-clause-number
returns-clause-number c = λ name members number. last_is_given (number_under name) members number

pub returns-clause-no_number : goal.returns-clause-no_number
returns-clause-no_number c = λ name members. nothing_is_given (number_under name) members
