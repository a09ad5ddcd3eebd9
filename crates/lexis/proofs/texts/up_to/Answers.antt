use Rattle.lexis.proofs.TextTurns.{upto_none, upto_hit, upto_miss, upto_other, upto_end}
use Rattle.lexis.proofs.texts.up_to.Goals as goal
use Rattle.lexis.proofs.texts.up_to.Goals.{else-s-i-via-then-s-i+else-starts_with, else-s-i-via-else-s-i}

pub returns-in_default : goal.returns-in_default
returns-in_default c = upto_none _ _ c.in_default.ensures.value

pub returns-then-starts_with : goal.returns-then-starts_with
returns-then-starts_with c = upto_hit c.loop-i.invariant c.if-starts_with.ensures.value

pub loop-i-preserved : goal.loop-i-preserved
loop-i-preserved c =
    let v = c.loop-i.invariant in
    let h = c.loop-i-test.true in
    elim c.else-s-i.branch [
      | else-s-i-via-then-s-i+else-starts_with w ↦ upto_miss v w.if-starts_with.ensures.value h
      | else-s-i-via-else-s-i w ↦ upto_other v c.in-Some.ensures.value h w.if-s-i.false
    ]

pub returns : goal.returns
returns c = upto_end c.loop-i.invariant c.in-Some.ensures.value c.loop-i-test.false
