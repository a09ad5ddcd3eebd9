-- `put_line` meets its contract: the letter, the words and LF, one behind the other.
use Rattle.printing.specs.PageLaws.{then_wrote}
use Rattle.printing.proofs.pages.Page.put_line.Goals as goal

pub returns : goal.returns
returns c = then_wrote (then_wrote c.put_byte.ensures c.put_words.ensures) c.put_byte-2.ensures
