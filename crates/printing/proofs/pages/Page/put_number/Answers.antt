-- `put_number` meets its contract: the digits that the library spells, on the page.
use Rattle.std.proofs.Common.{rules}
use Rattle.printing.specs.LineLaws.{number_wrote}
use Rattle.printing.proofs.pages.Page.put_number.Goals as goal

pub returns : goal.returns
returns c = number_wrote _ _ _ _ _ (search rules) c.decimal-k.ensures.len c.decimal-k.ensures.digits c.put_bytes.ensures
