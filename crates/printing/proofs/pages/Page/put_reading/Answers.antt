-- `put_reading` meets its contract: the endianness, and the tables behind it.
use Rattle.printing.specs.PageLaws.{then_wrote}
use Rattle.printing.proofs.pages.Page.put_reading.Goals as goal

pub returns : goal.returns
returns c = then_wrote c.put_line.ensures c.put_tables.ensures
