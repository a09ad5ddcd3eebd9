-- `alignment::add_bitfield` meets its contract: what was accepted fits the total, and the chunk begins at the first staged row.
use Rattle.std.proofs.Common.{sym, ◌∙◌, arith}
use Rattle.alignment.proofs.Laws.{told_fit, told_start}
use Rattle.alignment.proofs.add_bitfield.Goals as goal

pub overflow_add-total : goal.overflow_add-total
overflow_add-total c = omega (arith, (told_fit _ _ _ _ _ c.in_ok-next.ensures).under)

pub overflow_sub-count : goal.overflow_sub-count
overflow_sub-count c =
    let h = c.in_ok-next.ensures in
    omega (arith, told_start _ _ _ _ _ h (sym c.is_due.ensures ∙ c.if-is_due.true), (told_fit _ _ _ _ _ h).good.ordered)
