use Rattle.std.proofs.Common.{◌≡◌, take}
use Rattle.cfg_login_token.specs.Access.{last_place}
use Rattle.cfg_login_token.proofs.lookup.last_place.Given as goal

abbrev pub invariant-loop-member : goal.invariant-loop-member
invariant-loop-member l = l.found ≡ last_place l.name (take l.member-index l.members)
