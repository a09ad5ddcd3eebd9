-- `replayed` meets its contract: entry after entry, in the list.
use Rattle.std.proofs.Common.{◌-◌, length}
use Rattle.replay_answers.specs.Tallies.{Bounds, Replayed, start}
use Rattle.replay_answers.proofs.replayed.Given as goal

abbrev pub invariant-loop-e : goal.invariant-loop-e
invariant-loop-e l = Replayed l.list (start l.list) l.t × Bounds l.list l.t

abbrev pub decreases-loop-e : goal.decreases-loop-e
decreases-loop-e l = length l.list - l.t.at
