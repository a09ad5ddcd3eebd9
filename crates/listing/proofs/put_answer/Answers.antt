-- `put_answer` meets its contract: each way to end is one of the laws.
use Rattle.listing.proofs.Laws.{refused, tables_listed, layouts_listed}
use Rattle.listing.proofs.put_answer.Goals as goal

pub returns-in-Err : goal.returns-in-Err
returns-in-Err c = rw c.in-Err.is (refused _ _ _ c.put_refused.ensures)

pub returns-in-Tables : goal.returns-in-Tables
returns-in-Tables c = rw c.in-Ok.is (tables_listed _ _ _ c.in-Tables.is c.put_reading.ensures)

pub returns-in-Layouts : goal.returns-in-Layouts
returns-in-Layouts c = rw c.in-Ok.is (layouts_listed _ _ _ c.in-Layouts.is c.put_layouts.ensures)
