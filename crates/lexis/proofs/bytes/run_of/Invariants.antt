-- `run_of` meets its contract: the bytes before i are of the class.
use Rattle.std.proofs.Common.{◌≤◌, ◌-◌, ◌+◌, ◌≡◌, length, drop}
use Rattle.lexis.specs.Classes.{span, classed}
use Rattle.lexis.proofs.bytes.run_of.Given as goal

abbrev pub invariant-loop-i : goal.invariant-loop-i
invariant-loop-i l = (l.i ≤ length l.s) × (span (classed l.class) l.s ≡ l.i + span (classed l.class) (drop l.i l.s))

abbrev pub decreases-loop-i : goal.decreases-loop-i
decreases-loop-i l = length l.s - l.i
