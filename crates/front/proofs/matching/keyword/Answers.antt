-- `keyword` meets its contract: each number's rule is what its matcher reads.
use Rattle.meaning.specs.Rules.{Rule}
use Rattle.meaning.specs.Pdl.{ENUM, PACKET, STRUCT, GROUP, CHECKSUM, CUSTOM_FIELD, TEST}
use Rattle.grammar.specs.Steps.{reads_rule}
use Rattle.front.proofs.MatchLaws.{numbered}
use Rattle.front.proofs.matching.keyword.Goals as goal

pub returns-in-17 : goal.returns-in-17
unfolding ENUM
returns-in-17 c = numbered 17 c.in-17.is (reads_rule Rule.ENUM c.keyword.ensures)

pub returns-in-18 : goal.returns-in-18
unfolding PACKET
returns-in-18 c = numbered 18 c.in-18.is (reads_rule Rule.PACKET c.keyword-in-18.ensures)

pub returns-in-19 : goal.returns-in-19
unfolding STRUCT
returns-in-19 c = numbered 19 c.in-19.is (reads_rule Rule.STRUCT c.keyword-in-19.ensures)

pub returns-in-20 : goal.returns-in-20
unfolding GROUP
returns-in-20 c = numbered 20 c.in-20.is (reads_rule Rule.GROUP c.keyword-in-20.ensures)

pub returns-in-21 : goal.returns-in-21
unfolding CHECKSUM
returns-in-21 c = numbered 21 c.in-21.is (reads_rule Rule.CHECKSUM c.keyword-in-21.ensures)

pub returns-in-22 : goal.returns-in-22
unfolding CUSTOM_FIELD
returns-in-22 c = numbered 22 c.in-22.is (reads_rule Rule.CUSTOM_FIELD c.keyword-in-22.ensures)

pub returns-in-23 : goal.returns-in-23
unfolding TEST
returns-in-23 c = numbered 23 c.in-23.is (reads_rule Rule.TEST c.keyword-in-23.ensures)
