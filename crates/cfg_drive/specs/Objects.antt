-- Objects that are written.
use Rattle.serde_json.specs.Data.{Members}
use Rattle.serde_json.specs.View.{members_view}
use Rattle.cfg_drive.specs.declared.object.Object.{Object}

-- the members that are told so far
abbrev pub told_in : Object → Members
told_in object = members_view object.map.entries
