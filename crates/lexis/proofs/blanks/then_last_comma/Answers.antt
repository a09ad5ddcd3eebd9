-- `then_last_comma` meets its contract: a step that may miss.
use Rattle.grammar.specs.Steps.{link, option}
use Rattle.lexis.proofs.blanks.then_last_comma.Goals as goal

pub returns : goal.returns
returns c = let b = c.then_blanks-b.ensures in
    link b (option b.fits c.then_literal.ensures c.optional.ensures.is)
