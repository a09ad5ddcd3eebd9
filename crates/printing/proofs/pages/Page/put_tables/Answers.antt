-- `put_tables` meets its contract: the rows of the five tables, one table behind the other.
use Rattle.printing.specs.PageLaws.{then_wrote}
use Rattle.printing.proofs.pages.Page.put_tables.Goals as goal

pub returns : goal.returns
returns c =
    then_wrote (then_wrote (then_wrote (then_wrote c.put_lines.ensures c.put_lines-2.ensures) c.put_lines-3.ensures) c.put_lines-4.ensures)
    c.put_lines-5.ensures
