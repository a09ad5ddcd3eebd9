use Rattle.std.proofs.Common.{arith}
use Rattle.tag_rows.proofs.Ranges.{counting_ready, count_more, count_done}
use Rattle.tag_rows.proofs.count_values.Goals as goal

pub put_values-m-requires : goal.put_values-m-requires
put_values-m-requires c = counting_ready c.requires c.counting.ensures

pub overflow_sub-result : goal.overflow_sub-result
overflow_sub-result c = omega (
  arith,
  count_more c.requires c.counting.ensures c.put_values-m.ensures,
  c.counted.ensures,
  c.counted-2.ensures,
)

pub returns : goal.returns
returns c = count_done c.requires c.counting.ensures c.put_values-m.ensures c.counted.ensures
    c.counted-2.ensures
