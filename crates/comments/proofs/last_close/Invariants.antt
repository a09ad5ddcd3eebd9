use Rattle.comments.proofs.Findings.{Back}
use Rattle.comments.proofs.last_close.Given as goal

-- nothing from i - 1 on closes a comment
abbrev pub invariant-loop-i : goal.invariant-loop-i
invariant-loop-i l = Back l.s l.i
