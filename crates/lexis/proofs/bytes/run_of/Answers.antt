use Rattle.std.proofs.Common.{arith, sym, ◌∙◌, ap, not}
use borrow.Author.Tests.{not-true, not-false}
use Rattle.lexis.specs.Classes.{runs, span_step, span_stop, span_end}
use Rattle.lexis.proofs.bytes.run_of.Goals as goal

pub returns-then-not-in_class : goal.returns-then-not-in_class
returns-then-not-in_class c = runs _ _ _ (sym (c.loop-i.invariant.1 ∙ span_stop _ _ _ c.loop-i-test.true
    (sym c.in_class.ensures ∙ not-true _ (ap not c.if-not-in_class.true))))

pub loop-i-preserved : goal.loop-i-preserved
loop-i-preserved c =
    (omega arith, c.loop-i.invariant.1 ∙ span_step _ _ _ c.loop-i-test.true (sym c.in_class.ensures ∙ not-false _ (ap not c.if-not-in_class.false)))

pub returns : goal.returns
returns c = runs _ _ _ (sym (c.loop-i.invariant.1 ∙ span_end _ _ _ c.loop-i-test.false))
