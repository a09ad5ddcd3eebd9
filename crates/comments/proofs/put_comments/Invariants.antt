-- `put_comments` meets its contract: the rows of the comments before i have come to the door.
use Rattle.std.proofs.Common.{◌-◌, ◌≡◌, length}
use Rattle.meaning.specs.Tables.{Table}
use Rattle.walk.specs.State.{lend}
use Rattle.comments.proofs.Turns.{Turning}
use Rattle.comments.proofs.put_comments.Given as goal

abbrev pub invariant-loop-k : goal.invariant-loop-k
invariant-loop-k l = (length l.t ≡ length l.initial.t) × Turning l.s l.initial.n (lend Table.comments l.initial.t) l.i l.n (lend Table.comments l.t)

abbrev pub decreases-loop-k : goal.decreases-loop-k
decreases-loop-k l = length l.s - l.i
