use Rattle.std.proofs.Common.{arith}
use Rattle.walk.specs.Ready.{ready}
use Rattle.reading.specs.Endianness.{endianness_done}
use Rattle.reading.proofs.files.endianness.Goals as goal

pub move_to-q-requires : goal.move_to-q-requires
move_to-q-requires c = let x = c.line_of-line.result in
    let h = c.line_of-line.ensures in
    ready c.args.s.now x.start x.end c.place_of-p.result c.place_of-p.ensures (omega (arith, h.starts, h.ends))
    (omega (arith, h.ends, h.within))

pub returns : goal.returns
returns c = endianness_done c.requires c.line_of-line.ensures c.byte_order.ensures c.place_of-p.ensures c.move_to-q.ensures
