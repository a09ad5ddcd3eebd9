use Rattle.walk.proofs.Laws.{stay, ready_to, moved_to}
use Rattle.walk.proofs.Walk.to.Goals as goal

pub returns-in-Count : goal.returns-in-Count
returns-in-Count c = stay c.in-Count.is c.requires

pub move_to-requires : goal.move_to-requires
move_to-requires c = ready_to c.in-Write.is c.requires

pub returns-in-Write : goal.returns-in-Write
returns-in-Write c = moved_to c.in-Write.is c.requires c.move_to.ensures
