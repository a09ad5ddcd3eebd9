-- `put_layouts` meets its contract: the declarations that are left give the whole page.
use Rattle.std.proofs.Common.{◌-◌}
use Rattle.printing.specs.Pages.{Left}
use Rattle.printing.specs.Layouts.{layouts}
use Rattle.printing.proofs.pages.Page.put_layouts.Given as goal

abbrev pub invariant-loop-k : goal.invariant-loop-k
invariant-loop-k l = Left (layouts l.declarations l.fields (l.count - l.k) l.k) (layouts l.declarations l.fields l.count 0) l.initial.self l.self
