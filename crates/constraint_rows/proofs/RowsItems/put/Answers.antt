use Rattle.constraint_rows.proofs.Laws.{number_ready, row_ready, one_done}
use Rattle.constraint_rows.proofs.RowsItems.put.Goals as goal

pub operand_number-v-requires : goal.operand_number-v-requires
operand_number-v-requires c = number_ready c.requires

pub put_row-requires : goal.put_row-requires
put_row-requires c = row_ready c.requires c.operand_number-v.ensures c.note.ensures

pub returns-clause-goes : goal.returns-clause-goes
returns-clause-goes c = one_done c.requires c.operand_number-v.ensures c.note.ensures c.put_row.ensures
