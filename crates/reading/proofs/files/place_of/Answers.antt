use Rattle.std.proofs.Common.{arith, sym}
use Rattle.text.specs.PlaceLaws.{place_at_start}
use Rattle.walk.specs.Ready.{ready}
use Rattle.reading.proofs.files.place_of.Goals as goal

pub move_to-requires : goal.move_to-requires
move_to-requires c = ready c.args.s.now 0 c.args.offset _ (sym (place_at_start c.args.s.now)) (omega arith) c.requires
