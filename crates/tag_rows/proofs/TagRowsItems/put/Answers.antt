use Rattle.tag_rows.proofs.Laws.{tag_value_ready, tag_range_ready, tag_other_ready, tag_value_done, tag_range_done, tag_other_done}
use Rattle.tag_rows.proofs.TagRowsItems.put.Goals as goal

pub put_value-requires : goal.put_value-requires
put_value-requires c = tag_value_ready c.requires c.taken-len.ensures c.in-Value.is

pub put_range-requires : goal.put_range-requires
put_range-requires c = tag_range_ready c.requires c.taken-len.ensures c.in-Range.is

pub put_other-requires : goal.put_other-requires
put_other-requires c = tag_other_ready c.requires c.taken-len.ensures c.in-Other.is

pub returns-in-Value-clause-goes : goal.returns-in-Value-clause-goes
returns-in-Value-clause-goes c = tag_value_done c.requires c.taken-len.ensures c.in-Value.is c.put_value.ensures

pub returns-in-Range-clause-goes : goal.returns-in-Range-clause-goes
returns-in-Range-clause-goes c = tag_range_done c.requires c.taken-len.ensures c.in-Range.is c.put_range.ensures

pub returns-in-Other-clause-goes : goal.returns-in-Other-clause-goes
returns-in-Other-clause-goes c = tag_other_done c.requires c.taken-len.ensures c.in-Other.is c.put_other.ensures
