use Rattle.printing.specs.PageLaws.{loop_step, loop_end, next_byte, no_byte}
use Rattle.printing.proofs.pages.Page.put_bytes.Goals as goal

pub loop-b-preserved : goal.loop-b-preserved
loop-b-preserved c = loop_step (next_byte _ _ c.loop-b-test.true) c.loop-b.invariant c.put_byte.ensures

pub returns : goal.returns
returns c = loop_end (no_byte _ _ c.loop-b-test.false) c.loop-b.invariant
