use Rattle.std.proofs.Common.{rules}
use Rattle.meaning.specs.Pdl.{integer}
use Rattle.lexis.specs.Leaves.{integer_leaf}
use Rattle.fields.proofs.parts.then_numbers.Goals as goal

pub then_pair-requires-clause-steps : goal.then_pair-requires-clause-steps
then_pair-requires-clause-steps c = (integer, search rules)

pub returns : goal.returns
returns c = c.then_pair.ensures _ _ integer_leaf (search rules)
