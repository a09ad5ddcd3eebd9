-- `valid_prefix` meets its contract: the bytes so far, and the valid prefix of the rest, are the valid prefix of the whole.
use Rattle.std.proofs.Common.{◌+◌, ◌-◌, ◌≤◌, ◌≡◌, length, drop}
use Rattle.meaning.specs.Utf8.{valid}
use Rattle.text.proofs.valid_prefix.Given as goal

abbrev pub invariant-loop-len : goal.invariant-loop-len
invariant-loop-len l = (l.len ≤ length l.s) × (valid l.s ≡ l.len + valid (drop l.len l.s))

abbrev pub decreases-loop-len : goal.decreases-loop-len
decreases-loop-len l = length l.s - l.len
