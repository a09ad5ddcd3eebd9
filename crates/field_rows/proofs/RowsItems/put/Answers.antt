use Rattle.std.proofs.Common.{ℕ, ◌+◌, arith, subst, sym}
use Rattle.walk.specs.State.{At, Came}
use Rattle.walk.specs.Lists.{found_in}
use Rattle.field_rows.proofs.Laws.{group_as, desc_ready, condition_inside, grows, condition_stands, end_ready, put_ready, field_done}
use Rattle.field_rows.proofs.RowsItems.put.Goals as goal

pub describe-d-requires : goal.describe-d-requires
describe-d-requires c = desc_ready c.requires

pub condition_number-v-requires : goal.condition_number-v-requires
condition_number-v-requires c = condition_inside c.requires

pub put_condition-h-requires : goal.put_condition-h-requires
put_condition-h-requires c = condition_stands c.requires c.describe-d.ensures c.condition_number-v.ensures c.note.ensures
    c.note_desc.ensures
    c.to-a.ensures (group_as c.group_of.ensures c.put_part-g.ensures)

-- and where it ends
pub overflow_add-at : goal.overflow_add-at
overflow_add-at c = omega (arith, found_in c.requires.found, c.taken.ensures)

pub to-e-requires : goal.to-e-requires
to-e-requires c = subst (λ (i : ℕ). At c.args.s.now (c.args.at + i) c.put_condition-h.result) (sym c.taken.ensures)
    (end_ready c.requires c.describe-d.ensures c.condition_number-v.ensures c.note.ensures c.note_desc.ensures c.to-a.ensures
    (group_as c.group_of.ensures c.put_part-g.ensures) c.put_condition-h.ensures)

pub row_of-row-requires : goal.row_of-row-requires
row_of-row-requires c = grows c.requires c.describe-d.ensures c.condition_number-v.ensures c.note.ensures
    c.note_desc.ensures c.to-a.ensures
    (group_as c.group_of.ensures c.put_part-g.ensures)

pub put-requires : goal.put-requires
put-requires c = put_ready c.requires c.describe-d.ensures c.condition_number-v.ensures c.note.ensures c.note_desc.ensures c.to-a.ensures
    (group_as c.group_of.ensures c.put_part-g.ensures) c.put_condition-h.ensures
    (subst (λ (i : ℕ). Came c.args.s.now (c.args.at + i) c.put_condition-h.result c.to-e.result) c.taken.ensures c.to-e.ensures)
    (omega (arith, c.well_formed))

pub returns-clause-goes : goal.returns-clause-goes
returns-clause-goes c = field_done c.requires c.describe-d.ensures c.condition_number-v.ensures c.note.ensures c.note_desc.ensures c.to-a.ensures
    (group_as c.group_of.ensures c.put_part-g.ensures) c.put_condition-h.ensures
    (subst (λ (i : ℕ). Came c.args.s.now (c.args.at + i) c.put_condition-h.result c.to-e.result) c.taken.ensures c.to-e.ensures)
    c.row_of-row.ensures c.put.ensures
