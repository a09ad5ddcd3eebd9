use Rattle.meaning.specs.Rules.{Rule}
use Rattle.meaning.specs.Pdl.{test_case}
use Rattle.grammar.specs.Steps.{reads_rule}
use Rattle.declarations.proofs.tests.test_case.Goals as goal

pub returns : goal.returns
unfolding test_case
returns c = reads_rule Rule.test_case c.string.ensures
