-- `literal` meets its contract: the text starts with l, or does not.
use Rattle.lexis.proofs.TextTurns.{lit_took, lit_miss}
use Rattle.lexis.proofs.texts.literal.Goals as goal

pub returns-then-starts_with : goal.returns-then-starts_with
returns-then-starts_with c = lit_took _ _ c.if-starts_with.ensures.value

pub returns-else-starts_with : goal.returns-else-starts_with
returns-else-starts_with c = lit_miss _ _ c.if-starts_with.ensures.value
