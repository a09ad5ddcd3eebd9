use Rattle.grammar.specs.Steps.{link, start}
use Rattle.walk.proofs.comma.Goals as goal

pub returns : goal.returns
returns c = start (link c.then_blanks.ensures (link c.then_literal.ensures c.then_blanks-2.ensures))
