-- `then_literal` meets its contract: the closure reads what is asked for.
use Rattle.std.proofs.Common.{rules}
use Rattle.lexis.proofs.texts.then_literal.Goals as goal

pub returns : goal.returns
returns c = c.then.ensures _ (search rules)
