-- `hexvalue` meets its contract: two steps.
use Rattle.meaning.specs.Pdl.{hexvalue}
use Rattle.grammar.specs.Steps.{chain}
use Rattle.lexis.proofs.tokens.hexvalue.Goals as goal

pub returns : goal.returns
unfolding hexvalue
returns c = chain c.either_literal-prefix.ensures c.then_word.ensures
