use Rattle.std.proofs.Common.{arith}
use Rattle.constraint_rows.proofs.Laws.{part_none, part_in, part_ready, part_done}
use Rattle.constraint_rows.proofs.put_part.Goals as goal

pub returns-in_default : goal.returns-in_default
returns-in_default c = part_none _ c.in_default.is c.requires

pub overflow_add-i : goal.overflow_add-i
overflow_add-i c = omega (arith, part_in c.requires c.in-Some.is, c.well_formed)

pub slice_bounds-constraint-count : goal.slice_bounds-constraint-count
slice_bounds-constraint-count c = part_in c.requires c.in-Some.is

pub slice_bounds-constraint-start : goal.slice_bounds-constraint-start
slice_bounds-constraint-start c = part_in c.requires c.in-Some.is

pub put_list-requires : goal.put_list-requires
put_list-requires c = part_ready c.requires c.in-Some.is c.constraint-first.ensures

pub returns : goal.returns
returns c = part_done c.requires c.in-Some.is c.put_list.ensures
