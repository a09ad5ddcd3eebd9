use Rattle.printing.specs.PageLaws.{loop_step, loop_end}
use Rattle.printing.specs.LineLaws.{next_word, no_word}
use Rattle.printing.proofs.pages.Page.put_words.Goals as goal

pub loop-n-preserved : goal.loop-n-preserved
loop-n-preserved c = loop_step (next_word _ _ c.loop-n-test.true) c.loop-n.invariant c.put_word.ensures

pub returns : goal.returns
returns c = loop_end (no_word _ _ c.loop-n-test.false) c.loop-n.invariant
