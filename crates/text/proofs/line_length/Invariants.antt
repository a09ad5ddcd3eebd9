-- `line_length` meets its contract: no LF stands before i.
use Rattle.std.proofs.Common.{◌-◌, length}
use Rattle.text.proofs.PlaceTurns.{Flat}
use Rattle.text.proofs.line_length.Given as goal

abbrev pub invariant-loop-i : goal.invariant-loop-i
invariant-loop-i l = Flat l.s l.i

abbrev pub decreases-loop-i : goal.decreases-loop-i
decreases-loop-i l = length l.s - l.i
