use Rattle.std.proofs.Common.{refl, sym, ◌∙◌}
use Rattle.comments.proofs.Turns.{turn_start, turn_up, up_in, turn_past, turn_comment, turn_end}
use Rattle.comments.proofs.put_comments.Goals as goal

pub loop-k-init : goal.loop-k-init
loop-k-init c = (refl, turn_start _ _ c.new-n.ensures)

pub put_comment-n-requires : goal.put_comment-n-requires
put_comment-n-requires c = record {
  came = (turn_up c.loop-k.invariant.1 (sym c.in-Some.ensures)).goes.at;
  comment = c.in-Some-comment_at.ensures.0;
  some = c.in-Some-comment_at.ensures.1;
}

pub loop-k-preserved-in-Some-comment_at : goal.loop-k-preserved-in-Some-comment_at
loop-k-preserved-in-Some-comment_at c = (
  c.put_comment-n.auto.t ∙ c.loop-k.invariant.0,
  turn_comment (turn_up c.loop-k.invariant.1 (sym c.in-Some.ensures)) c.in-Some-comment_at.ensures c.put_comment-n.ensures,
)

pub loop-k-preserved : goal.loop-k-preserved
loop-k-preserved c = (
  c.loop-k.invariant.0,
  turn_past (turn_up c.loop-k.invariant.1 (sym c.in-Some.ensures)) (up_in c.loop-k.invariant.1 (sym c.in-Some.ensures))
      c.in-None.ensures c.past_at-i.ensures,
)

pub returns : goal.returns
returns c = turn_end c.loop-k.invariant.1 c.new-n.ensures (sym c.in_default.ensures)
