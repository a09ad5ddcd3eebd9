-- `then_constraint_list` meets its contract: a list of constraints.
use Rattle.std.proofs.Common.{rules}
use Rattle.meaning.specs.Rules.{Rule}
use Rattle.meaning.specs.Pdl.{constraint, constraint_list}
use Rattle.grammar.specs.Steps.{steps_rule}
use Rattle.constraints.proofs.then_constraint_list.Goals as goal

pub then_list-requires-clause-steps : goal.then_list-requires-clause-steps
then_list-requires-clause-steps c = (constraint, search rules)

pub returns : goal.returns
unfolding constraint_list
returns c = steps_rule Rule.constraint_list (c.then_list.ensures constraint (search rules))
