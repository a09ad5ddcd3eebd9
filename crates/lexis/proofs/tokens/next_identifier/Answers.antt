-- `next_identifier` meets its contract: two steps.
use Rattle.grammar.specs.Steps.{link}
use Rattle.lexis.proofs.tokens.next_identifier.Goals as goal

pub returns : goal.returns
returns c = link c.then_blanks.ensures c.then_identifier.ensures
