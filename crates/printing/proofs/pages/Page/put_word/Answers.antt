-- `put_word` meets its contract: a space, and the number behind it.
use Rattle.printing.specs.PageLaws.{then_wrote}
use Rattle.printing.proofs.pages.Page.put_word.Goals as goal

pub returns : goal.returns
returns c = then_wrote c.put_byte.ensures c.put_number.ensures
