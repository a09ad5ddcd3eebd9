use Rattle.meaning.specs.Rules.{Rule}
use Rattle.meaning.specs.Pdl.{checksum_declaration}
use Rattle.grammar.specs.Steps.{reads_rule}
use Rattle.declarations.specs.Headers.{checksum_head}
use Rattle.declarations.proofs.checksum_declaration.Goals as goal

pub returns : goal.returns
unfolding checksum_declaration checksum_head
returns c = reads_rule Rule.checksum_declaration c.checksum_head.ensures.drawn.reads
