use Rattle.std.proofs.Common.{rules}
use Rattle.meaning.specs.Rules.{Rule}
use Rattle.meaning.specs.Pdl.{enum_value, enum_value_list}
use Rattle.grammar.specs.Steps.{link, steps_rule}
use Rattle.tags.proofs.then_enum_value_list.Goals as goal

pub then_list-requires-clause-steps : goal.then_list-requires-clause-steps
then_list-requires-clause-steps c = (enum_value, search rules)

pub then_last_comma-requires : goal.then_last_comma-requires
then_last_comma-requires c = (c.then_list.ensures enum_value (search rules)).fits

pub returns : goal.returns
unfolding enum_value_list
returns c = steps_rule Rule.enum_value_list (link (c.then_list.ensures enum_value (search rules)) c.then_last_comma.ensures)
