use Rattle.printing.specs.PageLaws.{loop_step, loop_end}
use Rattle.printing.specs.LayoutLaws.{next_layout, no_layout}
use Rattle.printing.proofs.pages.Page.put_layouts.Goals as goal

pub loop-k-preserved : goal.loop-k-preserved
loop-k-preserved c = loop_step (next_layout _ _ _ _ c.loop-k-test.true) c.loop-k.invariant c.put_layout.ensures

pub returns : goal.returns
returns c = loop_end (no_layout _ _ _ _ c.loop-k-test.false) c.loop-k.invariant
