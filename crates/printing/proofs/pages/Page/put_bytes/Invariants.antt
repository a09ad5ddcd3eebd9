-- `put_bytes` meets its contract: what is left of the text gives the whole page.
use Rattle.std.proofs.Common.{drop}
use Rattle.printing.specs.Pages.{Left}
use Rattle.printing.proofs.pages.Page.put_bytes.Given as goal

abbrev pub invariant-loop-b : goal.invariant-loop-b
invariant-loop-b l = Left (drop l.b-index l.text) l.text l.initial.self l.self
