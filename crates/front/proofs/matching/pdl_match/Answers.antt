-- `pdl_match` meets its contract: the extent of what the rule's group of matchers reads, or of one byte of its class.
use Rattle.front.proofs.MatchLaws.{extent_is}
use Rattle.front.proofs.matching.pdl_match.Goals as goal

pub returns-in-5 : goal.returns-in-5
returns-in-5 c = extent_is 5 _ c.in-5.is c.one.ensures

pub returns-in-6 : goal.returns-in-6
returns-in-6 c = extent_is 6 _ c.in-6.is c.one-in-6.ensures

pub returns-in-7 : goal.returns-in-7
returns-in-7 c = extent_is 7 _ c.in-7.is c.one-in-7.ensures

pub returns-in-8 : goal.returns-in-8
returns-in-8 c = extent_is 8 _ c.in-8.is c.one-in-8.ensures
