-- `tag` meets its contract: each number's rule is what its matcher reads.
use Rattle.std.proofs.Common.{arith}
use Rattle.front.proofs.MatchLaws.{numbered}
use Rattle.front.proofs.matching.tag.Goals as goal

pub returns-in-25 : goal.returns-in-25
returns-in-25 c = numbered 25 c.in-25.is c.enum_value.ensures.drawn.reads

pub returns-in-27 : goal.returns-in-27
returns-in-27 c = numbered 27 c.in-27.is c.enum_range.ensures.drawn.reads

pub returns-in-28 : goal.returns-in-28
returns-in-28 c = numbered 28 c.in-28.is c.enum_other.ensures.drawn.reads

pub returns-in_default : goal.returns-in_default
returns-in_default c = numbered 29 (omega arith) c.enum_tag.ensures.drawn.reads
