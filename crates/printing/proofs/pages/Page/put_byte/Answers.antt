-- `put_byte` meets its contract: a byte where there is room, nothing on a full page.
use Rattle.std.proofs.Common.{refl}
use Rattle.printing.specs.PageLaws.{byte_fits, byte_full}
use Rattle.printing.proofs.pages.Page.put_byte.Goals as goal

pub returns-then-self : goal.returns-then-self
returns-then-self c = byte_fits _ c.if-self.true refl refl refl

pub returns-else-self : goal.returns-else-self
returns-else-self c = byte_full _ _ c.if-self.false
