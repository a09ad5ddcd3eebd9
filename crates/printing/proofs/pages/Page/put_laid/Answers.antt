-- `put_laid` meets its contract: the line, the placed rows and the chunk rows.
use Rattle.printing.specs.PageLaws.{then_wrote}
use Rattle.printing.proofs.pages.Page.put_laid.Goals as goal

pub returns : goal.returns
returns c = then_wrote (then_wrote c.put_line.ensures c.put_lines.ensures) c.put_lines-2.ensures
