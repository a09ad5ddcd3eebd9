use Rattle.std.proofs.Common.{rules}
use Rattle.meaning.specs.Pdl.{identifier}
use Rattle.lexis.specs.Leaves.{identifier_leaf}
use Rattle.fields.proofs.parts.then_names.Goals as goal

pub then_pair-requires-clause-steps : goal.then_pair-requires-clause-steps
then_pair-requires-clause-steps c = (identifier, search rules)

pub returns : goal.returns
returns c = c.then_pair.ensures _ _ identifier_leaf (search rules)
