use Rattle.std.proofs.Common.{◌≡◌, length, ◌-◌}
use Rattle.cfg_json.specs.ReadingObjects.{members_at, members_front}
use Rattle.cfg_json.proofs.objects.read_members.Given as goal

abbrev pub invariant-loop : goal.invariant-loop
invariant-loop l = members_front l.members.items (members_at l.total (length l.text - l.counter) l.rest) ≡ members_at l.total (length l.text) l.text
