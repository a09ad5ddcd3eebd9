-- `then_blanks` meets its contract: a blank run leaves no mark.
use Rattle.std.proofs.Common.{rules}
use Rattle.lexis.specs.Skips.{skip_reads}
use Rattle.lexis.proofs.blanks.then_blanks.Goals as goal

pub returns : goal.returns
returns c = c.then.ensures _ (search (rules, skip_reads))
