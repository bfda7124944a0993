use Rattle.std.proofs.Common.{rules}
use Rattle.serde_json.specs.View.{view}
use Rattle.cfg_script.proofs.InPlace.{put_here, put_behind}
use Rattle.cfg_script.proofs.object.Tuple2Object.put.Goals as goal

pub returns-then-not-is_same-clause-put : goal.returns-then-not-is_same-clause-put
returns-then-not-is_same-clause-put g c = put_behind g.M.Member.member_form c.args.name.now (g.O.Object.read_on c.args.places.now.1) (g.O.Object.read_on c.put.new.places) (view c.args.value) c.args.places.now.0 (search rules) c.put.ensures.put

pub returns-then-is_none-clause-put : goal.returns-then-is_none-clause-put
returns-then-is_none-clause-put g c = put_here g.M.Member.member_form c.args.name.now _ c.args.value c.args.places.now.0 (search rules) (search rules)
