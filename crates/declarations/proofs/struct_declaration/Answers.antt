use Rattle.meaning.specs.Rules.{Rule}
use Rattle.meaning.specs.Pdl.{struct_declaration}
use Rattle.grammar.specs.Steps.{chain, reads_rule}
use Rattle.declarations.specs.Headers.{struct_head}
use Rattle.declarations.proofs.struct_declaration.Goals as goal

pub returns : goal.returns
unfolding struct_declaration struct_head
returns c = reads_rule Rule.struct_declaration
    (chain (chain c.struct_head.ensures.drawn.reads c.next_fields.ensures) c.next_literal.ensures)
