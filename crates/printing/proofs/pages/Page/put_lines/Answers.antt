use Rattle.printing.specs.PageLaws.{loop_step, loop_end}
use Rattle.printing.specs.LineLaws.{next_row, no_row_asked, no_row_there}
use Rattle.printing.proofs.pages.Page.put_lines.Goals as goal

pub returns-in_default : goal.returns-in_default
returns-in_default c = loop_end (no_row_there _ _ _ _ c.in_default.ensures.cases) c.loop.invariant

pub loop-preserved : goal.loop-preserved
loop-preserved c =
    let cut = c.in-Some.ensures.cases in
    loop_step (rw (cut.1, cut.2) (next_row _ _ _ _ _ c.loop-test.true cut.0)) c.loop.invariant c.put_line.ensures

pub returns : goal.returns
returns c = loop_end (no_row_asked _ _ _ _ _ c.loop-test.false) c.loop.invariant
