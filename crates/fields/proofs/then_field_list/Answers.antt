use Rattle.std.proofs.Common.{rules}
use Rattle.meaning.specs.Rules.{Rule}
use Rattle.meaning.specs.Pdl.{field, field_list}
use Rattle.grammar.specs.Steps.{link, steps_rule}
use Rattle.fields.proofs.then_field_list.Goals as goal

pub then_list-requires-clause-steps : goal.then_list-requires-clause-steps
then_list-requires-clause-steps c = (field, search rules)

pub then_last_comma-requires : goal.then_last_comma-requires
then_last_comma-requires c = (c.then_list.ensures field (search rules)).fits

pub returns : goal.returns
unfolding field_list
returns c = steps_rule Rule.field_list (link (c.then_list.ensures field (search rules)) c.then_last_comma.ensures)
