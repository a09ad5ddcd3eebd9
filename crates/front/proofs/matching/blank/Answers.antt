-- `blank` meets its contract: each number's rule is what its matcher reads.
use Rattle.std.proofs.Common.{arith}
use Rattle.front.proofs.MatchLaws.{numbered}
use Rattle.front.proofs.matching.blank.Goals as goal

pub returns-in-0 : goal.returns-in-0
returns-in-0 c = numbered 0 c.in-0.is c.end_of_input.ensures

pub returns-in-1 : goal.returns-in-1
returns-in-1 c = numbered 1 c.in-1.is c.whitespace.ensures

pub returns-in-2 : goal.returns-in-2
returns-in-2 c = numbered 2 c.in-2.is c.comment.ensures

pub returns-in-3 : goal.returns-in-3
returns-in-3 c = numbered 3 c.in-3.is c.block_comment.ensures

pub returns-in_default : goal.returns-in_default
returns-in_default c = numbered 4 (omega (arith, c.requires)) c.line_comment.ensures
