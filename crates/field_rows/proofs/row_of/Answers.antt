use Rattle.field_rows.proofs.Laws.{row_told}
use Rattle.field_rows.proofs.row_of.Goals as goal

pub returns : goal.returns
returns c = row_told c.args.d c.args.cond c.args.start.here c.args.end.here c.from.ensures c.counted-before.ensures c.counted.ensures
    c.counted-2.ensures c.first_of-first.ensures c.row_number-number.ensures c.field_row.ensures
