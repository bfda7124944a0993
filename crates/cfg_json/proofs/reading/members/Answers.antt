use Rattle.cfg_json.specs.Answers.{member_list}
use Rattle.cfg_json.proofs.AnswerLaws.{found_is, only_is, not_object_is, opens_other_is, syntax_is, broken_is, never_more_is}
use Rattle.cfg_json.proofs.reading.members.Goals as goal

pub returns-clause-found : goal.returns-clause-found
returns-clause-found c = found_is member_list c.args.bytes.now c.front_list.result c.front_list.ensures

pub returns-clause-only : goal.returns-clause-only
returns-clause-only c = only_is member_list c.args.bytes.now c.front_list.result c.front_list.ensures

pub returns-clause-not_object : goal.returns-clause-not_object
returns-clause-not_object c = not_object_is member_list c.args.bytes.now c.front_list.result c.front_list.ensures

pub returns-clause-opens_other : goal.returns-clause-opens_other
returns-clause-opens_other c = opens_other_is member_list c.args.bytes.now c.front_list.result c.front_list.ensures

pub returns-clause-syntax : goal.returns-clause-syntax
returns-clause-syntax c = syntax_is member_list c.args.bytes.now c.front_list.result c.front_list.ensures

pub returns-clause-broken : goal.returns-clause-broken
returns-clause-broken c = broken_is member_list c.args.bytes.now c.front_list.result c.front_list.ensures

pub returns-clause-never_more : goal.returns-clause-never_more
returns-clause-never_more c = never_more_is member_list c.args.bytes.now c.front_list.result c.front_list.ensures
