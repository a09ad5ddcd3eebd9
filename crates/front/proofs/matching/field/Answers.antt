-- `field` meets its contract: each number's rule is what its matcher reads.
use Rattle.front.proofs.MatchLaws.{numbered}
use Rattle.front.proofs.matching.field.Goals as goal

pub returns-in-48 : goal.returns-in-48
returns-in-48 c = numbered 48 c.in-48.is c.field.ensures.drawn.reads

pub returns-in-49 : goal.returns-in-49
returns-in-49 c = numbered 49 c.in-49.is c.field_list.ensures
