-- `put_layout` meets its contract: nothing where there is nothing to lay out, else the layout's lines.
use Rattle.std.proofs.Common.{sym, ◌∙◌}
use Rattle.printing.specs.LayoutLaws.{not_laid, is_laid}
use Rattle.printing.proofs.pages.Page.put_layout.Goals as goal

pub returns-then-is_unlaid : goal.returns-then-is_unlaid
returns-then-is_unlaid c = not_laid _ _ _ _ _ _ c.lay_out-outcome.ensures (sym c.if-is_unlaid.true ∙ c.is_unlaid.ensures)

pub returns : goal.returns
returns c = is_laid _ _ _ _ _ _ c.lay_out-outcome.ensures (sym c.if-is_unlaid.false ∙ c.is_unlaid.ensures)
    (rw c.layout_words.ensures at c.put_laid.ensures)
