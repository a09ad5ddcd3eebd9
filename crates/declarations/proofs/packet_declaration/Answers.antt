use Rattle.meaning.specs.Rules.{Rule}
use Rattle.meaning.specs.Pdl.{packet_declaration}
use Rattle.grammar.specs.Steps.{chain, reads_rule}
use Rattle.declarations.specs.Headers.{packet_head}
use Rattle.declarations.proofs.packet_declaration.Goals as goal

pub returns : goal.returns
unfolding packet_declaration packet_head
returns c = reads_rule Rule.packet_declaration
    (chain (chain c.packet_head.ensures.drawn.reads c.next_fields.ensures) c.next_literal.ensures)
