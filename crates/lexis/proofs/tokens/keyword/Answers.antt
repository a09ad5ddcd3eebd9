-- `keyword` meets its contract: two steps.
use Rattle.grammar.specs.Steps.{chain}
use Rattle.lexis.proofs.tokens.keyword.Goals as goal

pub returns : goal.returns
returns c = search chain
