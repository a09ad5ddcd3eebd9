-- `token` meets its contract: each number's rule is what its matcher reads.
use Rattle.front.proofs.MatchLaws.{numbered}
use Rattle.front.proofs.matching.token.Goals as goal

pub returns-in-9 : goal.returns-in-9
returns-in-9 c = numbered 9 c.in-9.is c.identifier.ensures

pub returns-in-10 : goal.returns-in-10
returns-in-10 c = numbered 10 c.in-10.is c.payload_identifier.ensures

pub returns-in-11 : goal.returns-in-11
returns-in-11 c = numbered 11 c.in-11.is c.body_identifier.ensures

pub returns-in-12 : goal.returns-in-12
returns-in-12 c = numbered 12 c.in-12.is c.intvalue.ensures

pub returns-in-13 : goal.returns-in-13
returns-in-13 c = numbered 13 c.in-13.is c.hexvalue.ensures

pub returns-in-14 : goal.returns-in-14
returns-in-14 c = numbered 14 c.in-14.is c.integer.ensures

pub returns-in-15 : goal.returns-in-15
returns-in-15 c = numbered 15 c.in-15.is c.string.ensures

pub returns-in-16 : goal.returns-in-16
returns-in-16 c = numbered 16 c.in-16.is c.size_modifier.ensures
