use Rattle.declaration_rows.proofs.TestLaws.{kind_ready, test_done}
use Rattle.declaration_rows.proofs.put_one.Goals as goal

pub put_kind-requires : goal.put_kind-requires
put_kind-requires c = kind_ready c.requires c.kind_at.ensures c.in-Some.is

pub returns-in-None-clause-goes : goal.returns-in-None-clause-goes
returns-in-None-clause-goes c = test_done c.requires c.kind_at.ensures c.in-None.is c.test_declaration.ensures _ _ c.taken.ensures
