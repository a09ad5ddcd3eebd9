-- `either_literal` meets its contract: either of two texts.
use Rattle.std.proofs.Common.{rules}
use Rattle.grammar.specs.Steps.{choice}
use Rattle.lexis.proofs.texts.either_literal.Goals as goal

pub returns : goal.returns
returns c = choice c.literal.ensures (c.or_else.ensures _ (search rules))
