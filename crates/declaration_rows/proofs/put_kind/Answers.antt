use Rattle.declaration_rows.proofs.KindLaws.{head_found, row_ready, kind_done}
use Rattle.declaration_rows.proofs.put_kind.Goals as goal

pub put_row-requires : goal.put_row-requires
put_row-requires c = row_ready (head_found c.requires c.head_of-h.ensures)
    c.put_parts-x.ensures.goes

pub returns-clause-goes : goal.returns-clause-goes
returns-clause-goes c = kind_done (head_found c.requires c.head_of-h.ensures)
    c.put_parts-x.ensures.goes c.put_row.ensures
