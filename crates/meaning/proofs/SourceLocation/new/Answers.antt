-- The search ends at a start above the offset, or behind the last one; each turn is one step of the fold.
use Rattle.std.proofs.Common.{sym, ◌∙◌}
use borrow.Author.Tests.{lt-ltb, le-ltb}
use Rattle.meaning.proofs.Laws.{fold_step, fold_end}
use Rattle.meaning.proofs.SourceLocation.new.Goals as goal

pub loop-line-preserved : goal.loop-line-preserved
loop-line-preserved c =
    c.loop-line.invariant ∙ fold_step _ _ c.loop-line.line _ c.loop-line-test.true ∙ simp (le-ltb _ _ c.if-offset-start.false)

pub returns-after-loop-line : goal.returns-after-loop-line
returns-after-loop-line c = sym (c.loop-line.invariant ∙ fold_end _ _ c.loop-line.line _ c.loop-line-test.false)

pub returns-then-offset-start : goal.returns-then-offset-start
returns-then-offset-start c =
    sym (c.loop-line.invariant ∙ fold_step _ _ c.loop-line.line _ c.loop-line-test.true ∙ simp (lt-ltb _ _ c.if-offset-start.true))
