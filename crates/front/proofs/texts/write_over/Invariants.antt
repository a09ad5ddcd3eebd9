-- `texts::write_over`: after i bytes the lent ones have the text's first i.
use Rattle.std.proofs.Common.{length, ◌≡◌}
use Rattle.front.specs.Names.{copied}
use Rattle.front.proofs.texts.write_over.Given as goal

abbrev pub invariant-loop-i : goal.invariant-loop-i
invariant-loop-i l = (length l.t ≡ length l.initial.t) × (l.t ≡ copied l.s l.initial.t l.i)
