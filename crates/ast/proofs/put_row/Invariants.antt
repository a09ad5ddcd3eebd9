-- `ast::put_row` meets its contract: after i words the table has the row's first i words pasted in.
use Rattle.std.proofs.Common.{◌≤◌, ◌+◌, ◌≡◌, length}
use lib.Seq.{paste}
use Rattle.ast.proofs.put_row.Given as goal

abbrev pub invariant-loop-i : goal.invariant-loop-i
invariant-loop-i l =
    (l.base + length l.row ≤ length l.initial.t) × ((length l.t ≡ length l.initial.t) × (l.t ≡ paste l.initial.t l.base l.row l.i))
