-- `texts::write_over` meets its contract: a byte more is the copy's next step, and all are the text over the front.
use Rattle.std.proofs.Common.{arith, ◌∙◌}
use lib.ListN.{length-set}
use Rattle.front.specs.Names.{copied_next, copied_both}
use Rattle.front.proofs.texts.write_over.Goals as goal

pub loop-i-preserved : goal.loop-i-preserved
loop-i-preserved c = let l = c.loop-i in (
  simp length-set l.invariant.0,
  rw l.invariant.1 (copied_next c.args.s.now c.args.t.now l.i (omega arith) (omega arith)),
)

pub returns : goal.returns
returns c = let l = c.loop-i in
    l.invariant.1 ∙ copied_both c.args.s.now c.args.t.now l.i (omega (arith, l.auto.i-end))
