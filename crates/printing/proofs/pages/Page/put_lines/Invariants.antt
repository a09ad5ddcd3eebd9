-- `put_lines` meets its contract: the rows that are left give the whole page.
use Rattle.std.proofs.Common.{◌-◌}
use Rattle.printing.specs.Pages.{Left}
use Rattle.printing.specs.Lines.{lines}
use Rattle.printing.proofs.pages.Page.put_lines.Given as goal

abbrev pub invariant-loop : goal.invariant-loop
invariant-loop l = Left (lines l.letter l.size (l.count - l.counter) l.rest) (lines l.letter l.size l.count l.table) l.initial.self l.self
