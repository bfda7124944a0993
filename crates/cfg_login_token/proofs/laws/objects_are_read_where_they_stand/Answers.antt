use Rattle.cfg_login_token.proofs.Inner.{object_read}
use Rattle.cfg_login_token.proofs.laws.objects_are_read_where_they_stand.Goals as goal

pub returns : goal.returns
returns c = object_read
