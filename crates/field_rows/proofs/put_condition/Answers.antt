use Rattle.field_rows.proofs.Laws.{condition_none}
use Rattle.field_rows.proofs.put_condition.Goals as goal

pub returns-in_default : goal.returns-in_default
returns-in_default c = condition_none c.in_default.is
