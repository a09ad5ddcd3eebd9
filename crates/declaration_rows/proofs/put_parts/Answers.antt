use Rattle.std.proofs.Common.{arith}
use Rattle.declaration_rows.proofs.KindLaws.{head_ready, members_ready, parts_done}
use Rattle.declaration_rows.proofs.put_parts.Goals as goal

pub put_head-head-requires : goal.put_head-head-requires
put_head-head-requires c = head_ready c.requires

pub put_members-requires : goal.put_members-requires
put_members-requires c = members_ready c.requires (omega (arith, c.taken.ensures))
    c.put_head-head.ensures

pub returns-clause-goes : goal.returns-clause-goes
returns-clause-goes c = parts_done c.requires (omega (arith, c.taken.ensures))
    c.put_head-head.ensures c.put_members.ensures.goes
