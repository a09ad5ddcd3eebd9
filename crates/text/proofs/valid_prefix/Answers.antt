use Rattle.std.proofs.Common.{arith, sym}
use borrow.Author.Tests.{ltb-true}
use Rattle.text.proofs.Utf8Turns.{valid_end, valid_byte, valid_turn, valid_none}
use Rattle.text.proofs.valid_prefix.Goals as goal

pub loop-len-preserved-then-is_ascii : goal.loop-len-preserved-then-is_ascii
loop-len-preserved-then-is_ascii c =
    (omega arith, valid_byte _ _ c.loop-len-test.true c.loop-len.invariant.1 (ltb-true _ _ (sym c.if-is_ascii.ensures)))

pub overflow_add-len-in-Some : goal.overflow_add-len-in-Some
overflow_add-len-in-Some c = omega (arith, (valid_turn _ _ c.loop-len-test.true c.loop-len.invariant.1 _ c.in-Some.ensures).0)

pub loop-len-preserved : goal.loop-len-preserved
loop-len-preserved c = valid_turn _ _ c.loop-len-test.true c.loop-len.invariant.1 _ c.in-Some.ensures

pub returns-in-None : goal.returns-in-None
returns-in-None c = valid_none _ _ c.loop-len-test.true c.loop-len.invariant.1 c.in-None.ensures

pub returns : goal.returns
returns c = valid_end _ _ c.loop-len-test.false c.loop-len.invariant.1
