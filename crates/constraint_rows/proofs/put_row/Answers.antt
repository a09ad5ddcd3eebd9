use Rattle.std.proofs.Common.{arith, ap, ◌∙◌}
use Rattle.walk.specs.Kinds.{constraint_number, constraint_number_is}
use Rattle.constraint_rows.proofs.Laws.{end_ready, row_asks, row_done}
use Rattle.constraint_rows.proofs.put_row.Goals as goal

pub to-b-requires : goal.to-b-requires
to-b-requires c = end_ready c.requires c.to-a.ensures

pub put-requires : goal.put-requires
put-requires c = row_asks c.requires c.to-a.ensures c.to-b.ensures (omega (arith, c.well_formed))

pub returns : goal.returns
returns c = row_done c.requires c.to-a.ensures c.to-b.ensures c.span_name-id.ensures c.operand_name-tag.ensures
    (constraint_number_is c.constraint_kind.result ∙ ap constraint_number c.constraint_kind.ensures)
    c.from-v.ensures c.constraint_row-row.ensures c.put.ensures
