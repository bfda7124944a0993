use Rattle.cfg_imds_credentials.proofs.Validity.{valid_gives}
use Rattle.cfg_imds_credentials.proofs.laws.nothing_in_the_way_of_metadata_gives_credentials.Goals as goal

pub returns : goal.returns
returns c = valid_gives
