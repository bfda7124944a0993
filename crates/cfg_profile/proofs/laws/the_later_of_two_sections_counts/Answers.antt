use Rattle.cfg_profile.proofs.Later.{later_section}
use Rattle.cfg_profile.proofs.laws.the_later_of_two_sections_counts.Goals as goal

pub returns : goal.returns
returns c = later_section
