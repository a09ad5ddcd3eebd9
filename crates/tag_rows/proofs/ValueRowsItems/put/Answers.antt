use Rattle.tag_rows.proofs.Laws.{inner_ready, inner_done, inner_none}
use Rattle.tag_rows.proofs.ValueRowsItems.put.Goals as goal

pub put_value-requires : goal.put_value-requires
put_value-requires c = inner_ready c.requires c.taken-len.ensures c.in-Value.is

pub returns-in-Value-clause-goes : goal.returns-in-Value-clause-goes
returns-in-Value-clause-goes c = inner_done c.requires c.taken-len.ensures c.in-Value.is c.put_value.ensures

pub returns-in-Range-clause-goes : goal.returns-in-Range-clause-goes
returns-in-Range-clause-goes c = inner_none c.requires c.taken-len.ensures c.in-Range.is
