use Rattle.std.proofs.Common.{arith}
use Rattle.comments.proofs.Findings.{back_start, back_more, back_found, back_end}
use Rattle.comments.proofs.last_close.Goals.{else-s-i-eq42-via-then-s-i-eq42+else-s-i-eq47, else-s-i-eq42-via-else-s-i-eq42}
use Rattle.comments.proofs.last_close.Goals as goal

pub loop-i-init : goal.loop-i-init
loop-i-init c = back_start _

pub returns-then-s-i-eq47 : goal.returns-then-s-i-eq47
returns-then-s-i-eq47 c = back_found c.loop-i.invariant c.loop-i-test.true

pub loop-i-preserved : goal.loop-i-preserved
loop-i-preserved c = back_more c.loop-i.invariant c.loop-i-test.true (elim c.else-s-i-eq42.branch [
  | else-s-i-eq42-via-then-s-i-eq42+else-s-i-eq47 w ↦ λ a b. w.if-s-i-eq47.false b
  | else-s-i-eq42-via-else-s-i-eq42 w ↦ λ a b. w.if-s-i-eq42.false a
])

pub returns : goal.returns
returns c = back_end c.loop-i.invariant (omega (arith, c.loop-i-test.false))
