-- `member` meets its contract: each number's rule is what its matcher reads.
use Rattle.front.proofs.MatchLaws.{numbered}
use Rattle.front.proofs.matching.member.Goals as goal

pub returns-in-24 : goal.returns-in-24
returns-in-24 c = numbered 24 c.in-24.is c.endianness_declaration.ensures

pub returns-in-26 : goal.returns-in-26
returns-in-26 c = numbered 26 c.in-26.is c.enum_value_list.ensures

pub returns-in-30 : goal.returns-in-30
returns-in-30 c = numbered 30 c.in-30.is c.enum_tag_list.ensures

pub returns-in-31 : goal.returns-in-31
returns-in-31 c = numbered 31 c.in-31.is c.enum_declaration.ensures

pub returns-in-32 : goal.returns-in-32
returns-in-32 c = numbered 32 c.in-32.is c.constraint.ensures.drawn.reads

pub returns-in-33 : goal.returns-in-33
returns-in-33 c = numbered 33 c.in-33.is c.constraint_list.ensures
