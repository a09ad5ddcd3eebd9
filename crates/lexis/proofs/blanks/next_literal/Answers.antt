-- `next_literal` meets its contract: two steps.
use Rattle.grammar.specs.Steps.{link}
use Rattle.lexis.proofs.blanks.next_literal.Goals as goal

pub returns : goal.returns
returns c = link c.then_blanks.ensures c.then_literal.ensures
