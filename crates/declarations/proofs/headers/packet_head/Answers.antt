use Rattle.meaning.specs.Rules.{Rule}
use Rattle.meaning.specs.Pdl.{PACKET}
use Rattle.grammar.specs.Steps.{reads_rule}
use Rattle.lexis.specs.Leaves.{PACKET_leaf}
use Rattle.declarations.specs.Headers.{packet_head}
use Rattle.declarations.specs.HeadParts.{word}
use Rattle.declarations.proofs.headers.packet_head.Goals as goal

pub returns : goal.returns
unfolding packet_head PACKET
returns c = c.parent_head.ensures.heads _ _ (word PACKET_leaf (reads_rule Rule.PACKET c.keyword.ensures))
