-- `alignment::judge_bitfield` meets its contract: what was accepted fits the total and both tables.
use Rattle.std.proofs.Common.{sym, ◌∙◌, arith}
use Rattle.alignment.specs.NumberLaws.{bits_fit}
use Rattle.alignment.proofs.judge_bitfield.Goals as goal

pub overflow_add-total : goal.overflow_add-total
overflow_add-total c = omega (arith, (bits_fit _ _ (sym c.in_ok-check_bitfield.ensures)).under)

pub overflow_add-next : goal.overflow_add-next
overflow_add-next c = omega (arith, (bits_fit _ _ (sym c.in_ok-check_bitfield.ensures)).row)

pub overflow_add-result : goal.overflow_add-result
overflow_add-result c = omega (arith, (bits_fit _ _ (sym c.in_ok-check_bitfield.ensures)).chunk (sym c.is_due.ensures ∙ c.if-is_due.true))
