use Rattle.std.proofs.Common.{rules}
use Rattle.meaning.specs.Pdl.{test_case, test_case_list}
use Rattle.grammar.specs.Steps.{link}
use Rattle.declarations.proofs.tests.then_test_case_list.Goals as goal

pub then_list-requires-clause-steps : goal.then_list-requires-clause-steps
then_list-requires-clause-steps c = (test_case, search rules)

pub then_last_comma-requires : goal.then_last_comma-requires
then_last_comma-requires c = (c.then_list.ensures test_case (search rules)).fits

pub returns : goal.returns
unfolding test_case_list
returns c = link (c.then_list.ensures test_case (search rules)) c.then_last_comma.ensures
