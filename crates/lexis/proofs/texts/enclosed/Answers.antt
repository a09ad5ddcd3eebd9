-- `enclosed` meets its contract: three steps.
use Rattle.grammar.specs.Steps.{chain}
use Rattle.lexis.proofs.texts.enclosed.Goals as goal

pub returns : goal.returns
returns c = chain (chain c.literal.ensures c.then_up_to.ensures) c.then_literal.ensures
