-- `move_to` meets its contract: line and column so far are those of the place at i.
use Rattle.std.proofs.Common.{◌-◌}
use Rattle.text.proofs.PlaceTurns.{Moved}
use Rattle.text.proofs.move_to.Given as goal

abbrev pub invariant-loop-i : goal.invariant-loop-i
invariant-loop-i l = Moved l.s l.to l.i l.line l.column

abbrev pub decreases-loop-i : goal.decreases-loop-i
decreases-loop-i l = l.to - l.i
