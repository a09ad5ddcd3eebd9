use Rattle.comments.proofs.Findings.{kind_block, kind_line}
use Rattle.comments.proofs.kind_at.Goals as goal

pub returns-then-starts_with : goal.returns-then-starts_with
returns-then-starts_with c = kind_block _ _ c.starts_with.ensures.value c.if-starts_with.true

pub returns-else-starts_with : goal.returns-else-starts_with
returns-else-starts_with c = kind_line _ _ c.starts_with.ensures.value c.if-starts_with.false
