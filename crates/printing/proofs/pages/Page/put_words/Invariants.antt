-- `put_words` meets its contract: what is left of the row gives the whole page.
use Rattle.std.proofs.Common.{drop}
use Rattle.printing.specs.Pages.{Left}
use Rattle.printing.specs.Lines.{words}
use Rattle.printing.proofs.pages.Page.put_words.Given as goal

abbrev pub invariant-loop-n : goal.invariant-loop-n
invariant-loop-n l = Left (words (drop l.n-index l.row)) (words l.row) l.initial.self l.self
