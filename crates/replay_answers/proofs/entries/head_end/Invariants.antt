-- `head_end` meets its contract: what is left of the head gives the whole.
use Rattle.std.proofs.Common.{◌+◌, ◌≡◌, false, drop}
use Rattle.replay_answers.specs.Entries.{heading}
use Rattle.replay_answers.proofs.entries.head_end.Given as goal

abbrev pub invariant-loop-i : goal.invariant-loop-i
invariant-loop-i l = l.i + heading l.inside (drop l.i l.list) ≡ heading false l.list
