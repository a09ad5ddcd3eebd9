use Rattle.comments.proofs.Findings.{comment_none, comment_line, comment_is}
use Rattle.comments.proofs.comment_at.Goals as goal

pub returns-then-s-at-ne47 : goal.returns-then-s-at-ne47
returns-then-s-at-ne47 c = comment_none _ _ c.requires.0 c.if-s-at-ne47.true

pub returns-then-close-at : goal.returns-then-close-at
returns-then-close-at c = comment_line _ _ c.requires.0 _ _ c.requires.1 c.if-close-at.true c.line_comment.ensures c.length_of.ensures

pub returns : goal.returns
returns c = comment_is _ _ c.requires.0 _ c.comment.ensures c.length_of-2.ensures
