use Rattle.std.proofs.Common.{refl}
use Rattle.declaration_rows.proofs.HeadLaws.{head_done}
use Rattle.declaration_rows.proofs.heads.put_head.Goals as goal

pub returns : goal.returns
returns c = head_done c.requires c.to-a.ensures c.part_number-width.ensures c.note-m.ensures
    c.put_part.ensures refl c.span_name.ensures c.other_name.ensures refl
