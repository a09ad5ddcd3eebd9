-- `description` meets its contract: each number's rule is what its matcher reads.
use Rattle.std.proofs.Common.{arith}
use Rattle.front.proofs.MatchLaws.{numbered}
use Rattle.front.proofs.matching.description.Goals as goal

pub returns-in-34 : goal.returns-in-34
returns-in-34 c = numbered 34 c.in-34.is c.checksum_field.ensures.drawn.reads

pub returns-in-35 : goal.returns-in-35
returns-in-35 c = numbered 35 c.in-35.is c.padding_field.ensures.drawn.reads

pub returns-in-36 : goal.returns-in-36
returns-in-36 c = numbered 36 c.in-36.is c.size_field.ensures.drawn.reads

pub returns-in-37 : goal.returns-in-37
returns-in-37 c = numbered 37 c.in-37.is c.count_field.ensures.drawn.reads

pub returns-in-38 : goal.returns-in-38
returns-in-38 c = numbered 38 c.in-38.is c.elementsize_field.ensures.drawn.reads

pub returns-in-39 : goal.returns-in-39
returns-in-39 c = numbered 39 c.in-39.is c.body_field.ensures.drawn.reads

pub returns-in-40 : goal.returns-in-40
returns-in-40 c = numbered 40 c.in-40.is c.payload_field.ensures.drawn.reads

pub returns-in-41 : goal.returns-in-41
returns-in-41 c = numbered 41 c.in-41.is c.fixed_field.ensures.drawn.reads

pub returns-in-42 : goal.returns-in-42
returns-in-42 c = numbered 42 c.in-42.is c.reserved_field.ensures.drawn.reads

pub returns-in-43 : goal.returns-in-43
returns-in-43 c = numbered 43 c.in-43.is c.array_field.ensures.drawn.reads

pub returns-in-44 : goal.returns-in-44
returns-in-44 c = numbered 44 c.in-44.is c.scalar_field.ensures.drawn.reads

pub returns-in-45 : goal.returns-in-45
returns-in-45 c = numbered 45 c.in-45.is c.typedef_field.ensures.drawn.reads

pub returns-in-46 : goal.returns-in-46
returns-in-46 c = numbered 46 c.in-46.is c.group_field.ensures.drawn.reads

pub returns-in_default : goal.returns-in_default
returns-in_default c = numbered 47 (omega (arith, c.requires)) c.field_desc.ensures.drawn.reads
