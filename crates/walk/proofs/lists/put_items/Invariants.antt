use Rattle.std.proofs.Common.{◌-◌, ◌≡◌, length}
use Rattle.walk.specs.Lists.{Turning}
use Rattle.walk.proofs.lists.put_items.Given as goal

abbrev pub invariant-loop-next : goal.invariant-loop-next
invariant-loop-next g l =
    (g.I.Items.slices l.items ≡ g.I.Items.slices l.initial.items)
    × Turning g.I.Items.form l.s l.at l.fn.n (g.I.Items.tables l.initial.items) l.i l.item l.walk (g.I.Items.tables l.items)

abbrev pub decreases-loop-next : goal.decreases-loop-next
decreases-loop-next g l = length l.s - l.i
