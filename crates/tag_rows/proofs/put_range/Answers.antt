use Rattle.std.proofs.Common.{arith, ap, Some}
use Rattle.tag_rows.proofs.Ranges.{empty_done, values_in, count_ready, values_ready, filled_done}
use Rattle.tag_rows.proofs.put_range.Goals as goal

-- no values: the row alone
pub returns-in_default : goal.returns-in_default
returns-in_default c = empty_done c.requires (ap Some c.integer_at.ensures) (ap Some c.integer_at-2.ensures) c.note.ensures
    c.note-m.ensures
    c.in_default.is c.put_row.ensures

pub overflow_add-i : goal.overflow_add-i
overflow_add-i c = omega (arith, values_in c.requires c.in-Some.is, c.well_formed)

pub slice_bounds-enum_value-count : goal.slice_bounds-enum_value-count
slice_bounds-enum_value-count c = values_in c.requires c.in-Some.is

pub slice_bounds-enum_value-start : goal.slice_bounds-enum_value-start
slice_bounds-enum_value-start c = values_in c.requires c.in-Some.is

pub count_values-inner-requires : goal.count_values-inner-requires
count_values-inner-requires c = count_ready c.requires (ap Some c.integer_at.ensures) (ap Some c.integer_at-2.ensures) c.note.ensures
    c.note-m.ensures
    c.in-Some.is c.enum_value-first.ensures

pub put_values-requires : goal.put_values-requires
put_values-requires c = values_ready c.requires (ap Some c.integer_at.ensures) (ap Some c.integer_at-2.ensures) c.note.ensures
    c.note-m.ensures
    c.in-Some.is c.enum_value-first.ensures c.count_values-inner.ensures c.put_row-r.ensures c.back.ensures

pub returns : goal.returns
returns c = filled_done c.requires (ap Some c.integer_at.ensures) (ap Some c.integer_at-2.ensures) c.note.ensures
    c.note-m.ensures
    c.in-Some.is c.enum_value-first.ensures c.count_values-inner.ensures c.put_row-r.ensures c.back.ensures c.put_values.ensures
