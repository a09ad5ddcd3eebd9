use Rattle.std.proofs.Common.{arith}
use Rattle.lexis.proofs.BlankTurns.{walk_start, walk_spaces, walk_end, walk_other, walk_done, walk_comment, comment_some}
use Rattle.lexis.proofs.blanks.blank_run.Goals.{then-s-n-via-then-s-n, then-s-n-via-else-s-n+then-s-n-ne47}
use Rattle.lexis.proofs.blanks.blank_run.Goals as goal

pub loop-n-init : goal.loop-n-init
loop-n-init c = walk_start

pub returns-then-s-n : goal.returns-then-s-n
returns-then-s-n c = let w = walk_spaces c.loop-n.invariant c.run_of-n.ensures in
    elim c.then-s-n.branch [
      | then-s-n-via-then-s-n v ↦ walk_end w v.if-s-n.true
      | then-s-n-via-else-s-n+then-s-n-ne47 v ↦ walk_other w v.if-s-n.false v.if-s-n-ne47.true
    ]

pub returns-in-Missed : goal.returns-in-Missed
returns-in-Missed c = walk_done (walk_spaces c.loop-n.invariant c.run_of-n.ensures) c.comment.ensures c.in-Missed.is

pub loop-n-smaller : goal.loop-n-smaller
loop-n-smaller c = let w = walk_spaces c.loop-n.invariant c.run_of-n.ensures in
    let h = c.comment.ensures in
    omega (arith, comment_some w h c.in-Took.is, (walk_comment w h c.in-Took.is).fits)

pub loop-n-preserved : goal.loop-n-preserved
loop-n-preserved c = walk_comment (walk_spaces c.loop-n.invariant c.run_of-n.ensures) c.comment.ensures c.in-Took.is
