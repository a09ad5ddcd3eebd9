use Rattle.std.proofs.Common.{ap, Some}
use Rattle.tag_rows.proofs.Laws.{value_done}
use Rattle.tag_rows.proofs.put_value.Goals as goal

pub returns : goal.returns
returns c = value_done c.requires (ap Some c.integer_at.ensures) c.note.ensures _ c.put_row.ensures
