use Rattle.std.proofs.Common.{◌-◌, length}
use Rattle.walk.specs.Lending.{declared_in, Kept}
use Rattle.declaration_rows.specs.ListLaws.{Standing}
use Rattle.declaration_rows.proofs.put_all.Given as goal

abbrev pub invariant-loop-at : goal.invariant-loop-at
invariant-loop-at l = Kept l.initial.tables l.tables × Standing l.s l.j l.initial.m (declared_in l.initial.tables) l.at l.m (declared_in l.tables)

abbrev pub decreases-loop-at : goal.decreases-loop-at
decreases-loop-at l = length l.s - l.at
