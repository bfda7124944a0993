-- What the members that are left say with those in their places is what all say; each so far has a name of the object.
use Rattle.std.proofs.Common.{◌≡◌, length}
use Rattle.serde_json.specs.View.{members_view}
use Rattle.cfg_script.specs.Objects.{unknown_name}
use Rattle.cfg_script.proofs.object.places_of.Given as goal

abbrev pub invariant-members : goal.invariant-members
invariant-members g l = record {
  read : g.O.Object.read_on l.places (members_view l.entries) ≡ g.O.Object.object_form.read (members_view l.fn.members.entries);
  named : unknown_name g.O.Object.object_form.has (members_view l.fn.members.entries) ≡ unknown_name g.O.Object.object_form.has (members_view l.entries);
}

abbrev pub decreases-members : goal.decreases-members
decreases-members g l = length l.entries
