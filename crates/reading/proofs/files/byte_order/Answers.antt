use Rattle.reading.specs.Endianness.{order_little, order_big}
use Rattle.reading.proofs.files.byte_order.Goals as goal

pub returns-then-little : goal.returns-then-little
returns-then-little c = order_little c.literal.ensures c.is_hit-little.ensures c.if-little.true

pub returns-else-little : goal.returns-else-little
returns-else-little c = order_big c.literal.ensures c.is_hit-little.ensures c.if-little.false
