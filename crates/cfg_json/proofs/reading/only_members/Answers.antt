use Rattle.cfg_json.specs.Answers.{member_list}
use Rattle.cfg_json.proofs.AnswerLaws.{only_found_is, only_only_is, only_not_object_is, only_opens_other_is, only_syntax_is, only_broken_is, only_more_is, followed_is}
use Rattle.cfg_json.proofs.reading.only_members.Goals as goal

pub returns-clause-found : goal.returns-clause-found
returns-clause-found c = only_found_is member_list c.args.bytes.now c.only_list.result c.only_list.ensures

pub returns-clause-only : goal.returns-clause-only
returns-clause-only c = only_only_is member_list c.args.bytes.now c.only_list.result c.only_list.ensures

pub returns-clause-not_object : goal.returns-clause-not_object
returns-clause-not_object c = only_not_object_is member_list c.args.bytes.now c.only_list.result c.only_list.ensures

pub returns-clause-opens_other : goal.returns-clause-opens_other
returns-clause-opens_other c = only_opens_other_is member_list c.args.bytes.now c.only_list.result c.only_list.ensures

pub returns-clause-syntax : goal.returns-clause-syntax
returns-clause-syntax c = only_syntax_is member_list c.args.bytes.now c.only_list.result c.only_list.ensures

pub returns-clause-broken : goal.returns-clause-broken
returns-clause-broken c = only_broken_is member_list c.args.bytes.now c.only_list.result c.only_list.ensures

pub returns-clause-more : goal.returns-clause-more
returns-clause-more c = only_more_is member_list c.args.bytes.now c.only_list.result c.only_list.ensures

pub returns-clause-followed : goal.returns-clause-followed
returns-clause-followed c = followed_is member_list c.args.bytes.now c.only_list.result c.only_list.ensures
