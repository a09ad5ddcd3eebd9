use Rattle.std.proofs.Common.{arith}
use Rattle.walk.specs.Kinds.{tag_number_is}
use Rattle.tag_rows.proofs.Laws.{end_ready, row_asks, row_done}
use Rattle.tag_rows.proofs.put_row.Goals as goal

pub to-b-requires : goal.to-b-requires
to-b-requires c = end_ready c.requires c.to-a.ensures

pub put-requires : goal.put-requires
put-requires c = row_asks c.requires c.to-a.ensures c.to-b.ensures (omega (arith, c.well_formed))

pub returns : goal.returns
returns c = row_done c.requires c.to-a.ensures c.to-b.ensures _ _ _ _ c.span_name-name.ensures
    (tag_number_is c.args.kind) c.from-v.ensures c.from-e.ensures c.tag_row-row.ensures c.put.ensures
